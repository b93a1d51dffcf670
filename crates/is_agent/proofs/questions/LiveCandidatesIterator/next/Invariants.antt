use Rattle.std.proofs.Common.{◌≡◌, length}
use Rattle.is_rules.specs.Questions.{live}
use Rattle.is_agent.proofs.questions.LiveCandidatesIterator.next.Given as goal

-- what was passed over is discarded
abbrev pub invariant-loop-first : goal.invariant-loop-first
invariant-loop-first l = live l.self.rest.now ≡ live l.initial.self.rest.now

abbrev pub decreases-loop-first : goal.decreases-loop-first
decreases-loop-first l = length l.self.rest.now

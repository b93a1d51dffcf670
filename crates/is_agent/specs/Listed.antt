-- What the iterator over candidates has left.
use Rattle.std.specs.Prelude.{List}
use Rattle.is_candidate.specs.Candidates.{CandidateRecord}
use Rattle.is_agent.specs.declared.questions.LiveCandidates.{LiveCandidates}
use Rattle.is_rules.specs.Questions.{live}

abbrev pub live_left : LiveCandidates → List CandidateRecord
live_left it = live it.rest.now

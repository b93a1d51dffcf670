use Rattle.std.proofs.Common.{◌≡◌, drop}
use Rattle.is_agent.specs.View.{record_of}
use Rattle.is_rules.specs.Nominating.{pair_selected}
use Rattle.is_rules.specs.Questions.{nominated_pair}
use Rattle.is_c.proofs.questions.selected_pair.Given as goal

-- the pair is among those that are left
abbrev pub invariant-loop-index : goal.invariant-loop-index
invariant-loop-index l =
    pair_selected (record_of l.held.agent).selected_pair (drop l.index (record_of l.held.agent).pairs)
    ≡ nominated_pair (record_of l.held.agent)

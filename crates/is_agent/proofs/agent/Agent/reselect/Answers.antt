use Rattle.std.proofs.Common.{◌≡◌, ◌&&◌, true, not, sym, ◌∙◌}
use Rattle.is_rules.specs.StateUpdates.{has_selected}
use Rattle.is_agent.specs.View.{record_of}
use Rattle.is_agent.proofs.agent.Agent.reselect.Goals as goal

pub returns : goal.returns
returns g c =
    let old = record_of c.args.self.now in let (path, mid, named, made, emitted) = c.select_again.ensures in
    let lost : (c.args.kept && not (has_selected old)) ≡ true = sym c.is_lost.ensures ∙ c.if-not-is_lost.false in
    (path, rw (lost) (mid, named, made), emitted)

use Rattle.std.proofs.Common.{◌≡◌, ◌&&◌, Err, is_some, ◌∙◌}
use Rattle.is_rules.specs.Local.{AddsLocal, error_of}
use Rattle.is_agent.specs.View.{record_of, emitted_of}
use Rattle.is_agent.proofs.AgentParts.SelectedAgain.{changes-nothing, adds-and-selects, failed-addition}
use Rattle.is_agent.proofs.agent.Agent.add_local.Goals.{then-kept, else-kept}
use Rattle.is_agent.proofs.agent.Agent.add_local.Goals as goal

pub returns-after-kept : goal.returns-after-kept
returns-after-kept g c =
    let old = record_of c.args.self.now in let mid = record_of c.store_preferred.new.self in let new = c.reselect.new.self in
    let kept = c.keeps_selected-kept.result in let place = c.in-Ok.place in
    let asked : c.if-kept.reselect ≡ (kept && is_some place) = elim c.if-kept.branch [
      | then-kept w ↦ rw (w.if-kept.true) (w.reselect-is ∙ w.is_some.ensures)
      | else-kept w ↦ rw (w.if-kept.false) (w.reselect-is ∙ w.if-kept.false)
    ] in
    let (path, made, emits) = (rw asked at c.reselect.ensures) in
    adds-and-selects g.P.LocalPreference.answers old mid (record_of new) c.args.candidate kept place path (emitted_of new) c.keeps_selected-kept.ensures c.in-Ok.ensures.added made emits

pub returns-in-Err : goal.returns-in-Err
returns-in-Err g c =
    let old = record_of c.args.self.now in let new = record_of c.store_preferred.new.self in let error = error_of c.in-Err.rejection in
    changes-nothing (AddsLocal g.P.LocalPreference.answers old c.args.candidate (Err error)) old new c.nothing-self.result c.in-Err.ensures.added
    (failed-addition g.P.LocalPreference.answers old new c.args.candidate error c.in-Err.ensures.added) c.nothing-self.ensures

use Rattle.std.proofs.Common.{Err, refl, subst, sym}
use Rattle.is_rules.specs.Local.{AddsLocal, BorrowsLocal, error_of, widened}
use Rattle.is_agent.specs.View.{record_of, emitted_of}
use Rattle.is_agent.proofs.AgentParts.SelectedAgain.{failed-addition, is-err, unchanged}
use Rattle.is_agent.proofs.agent.Agent.add_and_borrow_local.Goals as goal

pub returns-in_err-place : goal.returns-in_err-place
returns-in_err-place g c =
    let old = record_of c.args.self.now in let new = record_of c.add_local.new.self in let candidate = c.args.candidate in
    let error = error_of c.in_err-place.field-0.0 in let answers = g.P.LocalPreference.answers in
    let adds = unchanged (AddsLocal answers old candidate (Err error)) old new (emitted_of c.add_local.new.self)
    (λ mid does. failed-addition answers old mid candidate error does) c.in_err-place.ensures in
    let is = is-err c.from_residual.result c.in_err-place.field-0.0 c.from_residual.ensures.1 in
    ((refl, λ _. tt, subst (λ r. BorrowsLocal answers old candidate (widened r) new) (sym is) adds), record { step = tt })

use Rattle.std.proofs.Common.{ℕ, Option, Result, subst, sym}
use Rattle.is_proto.specs.declared.error.IceError.{IceError}
use Rattle.is_rules.specs.Local.{AddsLocal, error_of}
use Rattle.is_rules.specs.StateUpdates.{ReselectsAfter}
use Rattle.is_agent.specs.View.{record_of, emitted_of}
use Rattle.is_agent.proofs.AgentParts.SelectedAgain.{is-err}
use Rattle.is_agent.proofs.local.add_local.Goals as goal

pub returns-in_err-add_local : goal.returns-in_err-add_local
returns-in_err-add_local g c =
    let old = record_of c.args.agent.now in let new = c.add_local.new.self in
    let is = is-err c.from_residual.result (error_of c.in_err-add_local.field-0.0) c.from_residual.ensures.1 in
    subst (λ (r : Result (Option ℕ) IceError). ReselectsAfter (AddsLocal g.P.LocalPreference.answers old c.args.candidate r) old (emitted_of new) (record_of new)) (sym is) c.in_err-add_local.ensures

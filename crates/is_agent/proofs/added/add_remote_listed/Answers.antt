use Rattle.std.proofs.Common.{◌≡◌, true, false, Ok, ap, sym, ◌∙◌}
use Rattle.is_rules.specs.Remote.{is_ignored}
use Rattle.is_agent.specs.View.{record_of, emitted_of}
use Rattle.is_agent.proofs.AgentParts.SelectedAgain.{ignored-adds, is-err, joined-adds}
use Rattle.is_agent.proofs.added.add_remote_listed.Goals as goal

pub returns-then-is_ignored : goal.returns-then-is_ignored
returns-then-is_ignored g c =
    let old = record_of c.args.agent.now in
    let ignored : is_ignored old c.args.candidate ≡ true = sym c.is_ignored.ensures ∙ c.if-is_ignored.true in
    (Ok tt, c.nothing-agent.result, ignored-adds old c.args.candidate c.nothing-agent.result ignored c.nothing-agent.ensures, rw (ignored) (ap Ok c.ignored_addition.ensures))

pub returns-in_err-join_remote : goal.returns-in_err-join_remote
returns-in_err-join_remote g c =
    let old = record_of c.args.agent.now in let new = c.join_remote.new.self in
    let taken : is_ignored old c.args.candidate ≡ false = sym c.is_ignored.ensures ∙ c.if-is_ignored.false in (
      c.join_remote.result,
      emitted_of new,
      joined-adds old (record_of new) c.args.candidate c.join_remote.result (emitted_of new) taken c.join_remote.ensures,
      rw (c.in_err-join_remote.was) (is-err c.from_residual.result c.in_err-join_remote.field-0.0 c.from_residual.ensures.1),
    )

pub returns : goal.returns
returns g c =
    let old = record_of c.args.agent.now in let new = c.join_remote.new.self in
    let taken : is_ignored old c.args.candidate ≡ false = sym c.is_ignored.ensures ∙ c.if-is_ignored.false in (
      c.join_remote.result,
      emitted_of new,
      joined-adds old (record_of new) c.args.candidate c.join_remote.result (emitted_of new) taken c.join_remote.ensures,
      search (taken, c.in_ok-join_remote.was, c.listed_index-index.ensures, c.place_or_end.ensures, c.place_for-place.ensures.place, c.deref.ensures.value, c.deref-2.ensures.value),
    )

use Rattle.std.proofs.Common.{◌≡◌, true, sym, ◌∙◌}
use Rattle.std.specs.List.{list_any}
use Rattle.is_agent.specs.View.{record_of}
use Rattle.is_rules.specs.Timeouts.{is_expired}
use Rattle.is_agent.proofs.agent.Agent.remove_expired.Goals as goal

pub returns-clause-expired : goal.returns-clause-expired
returns-clause-expired g c =
    let old = record_of c.args.self.now in let (second, mid, named, evaluated, emitted) = c.remove_expired_and_emit.ensures.expired in
    let any : list_any (is_expired c.args.now.0 old) old.pairs ≡ true = sym c.any_expired.ensures ∙ c.if-not-any_expired.false in
    (second, rw (any) (mid, named, evaluated), emitted)

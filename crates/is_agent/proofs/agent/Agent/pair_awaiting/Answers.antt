use Rattle.std.proofs.Common.{◌≡◌, is_some, IfSome}
use Rattle.std.specs.List.{list_any}
use Rattle.is_agent.specs.View.{record_of}
use Rattle.is_rules.specs.Answers.{keeps_check_on}
use Rattle.is_rules.specs.Due.{KeepsCheckOn}
use Rattle.is_agent.proofs.agent.Agent.pair_awaiting.Goals as goal

pub returns-clause-any : goal.returns-clause-any
returns-clause-any g c =
    let a = record_of c.args.self.now in
    let any : list_any (keeps_check_on a c.args.path.now c.args.id.0) a.pairs ≡ is_some c.pair_awaiting.result = rw (c.deref.ensures.value, c.deref-2.ensures.value) at c.pair_awaiting.ensures.any in
    any

pub returns-clause-kept : goal.returns-clause-kept
returns-clause-kept g c =
    let a = record_of c.args.self.now in
    let kept : IfSome c.pair_awaiting.result (λ number. KeepsCheckOn a c.args.path.now c.args.id.0 number) = rw (c.deref.ensures.value, c.deref-2.ensures.value) at c.pair_awaiting.ensures.kept in
    kept

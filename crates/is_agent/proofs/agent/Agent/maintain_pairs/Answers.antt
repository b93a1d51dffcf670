use Rattle.std.proofs.Common.{subst}
use Rattle.is_rules.specs.Leaving.{path_left}
use Rattle.is_rules.specs.Nominating.{Nominates}
use Rattle.is_rules.specs.Timeouts.{at_timeout}
use Rattle.is_agent.specs.View.{record_of}
use Rattle.is_agent.proofs.agent.Agent.maintain_pairs.Goals as goal

pub returns : goal.returns
returns g c =
    let first = c.evaluate_nomination-first in let now = c.args.now.0 in
    let nominates : Nominates (path_left now (at_timeout now (record_of c.args.self.now))) first.result (record_of first.new.self) =
    subst (λ r. Nominates r first.result (record_of first.new.self)) c.leave_path.ensures.left first.ensures.nominates in
    let (second, expired, paths) = c.remove_expired.ensures.expired in
    let (issued, checked, emitted) = c.may_check.ensures first.result second paths in
    (first.result, second, issued, record_of first.new.self, record_of c.remove_expired.new.self, nominates, expired, checked, emitted)

pub may_check-requires : goal.may_check-requires
may_check-requires g c =
    let now = c.args.now.0 in
    c.remove_expired.ensures.checks now (c.evaluate_nomination-first.ensures.checks now (c.leave_path.ensures.checks c.requires.checks))

use Rattle.std.proofs.Common.{◌≡◌, true, false, sym, ◌∙◌}
use Rattle.is_rules.specs.Remote.{is_ignored}
use Rattle.is_agent.specs.View.{record_of, emitted_of}
use Rattle.is_agent.proofs.AgentParts.SelectedAgain.{ignored-adds, joined-adds}
use Rattle.is_agent.proofs.agent.Agent.add_remote_candidate.Goals as goal

pub returns-then-is_ignored : goal.returns-then-is_ignored
returns-then-is_ignored g c =
    let ignored : is_ignored (record_of c.args.self.now) c.args.candidate ≡ true = sym c.is_ignored.ensures ∙ c.if-is_ignored.true in
    ignored-adds (record_of c.args.self.now) c.args.candidate c.nothing-self.result ignored c.nothing-self.ensures

pub returns : goal.returns
returns g c =
    let taken : is_ignored (record_of c.args.self.now) c.args.candidate ≡ false = sym c.is_ignored.ensures ∙ c.if-is_ignored.false in
    let new = c.join_remote.new.self in
    joined-adds (record_of c.args.self.now) (record_of new) c.args.candidate c.join_remote.result (emitted_of new) taken c.join_remote.ensures

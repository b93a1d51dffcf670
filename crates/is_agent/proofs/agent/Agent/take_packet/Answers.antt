use Rattle.std.proofs.Common.{◌≡◌, rules, sym, ◌∙◌}
use Rattle.is_stun.specs.declared.header.Class.TheVariants.{Failure}
use Rattle.is_stun.specs.declared.header.Method.TheVariants.{Binding}
use Rattle.is_stun.specs.MessageView.{message_view}
use Rattle.is_rules.specs.RequestView.{packet_path}
use Rattle.is_agent.specs.View.{record_of}
use Rattle.is_agent.proofs.AgentParts.ReceivedResponses.{failure-arrives}
use Rattle.is_agent.proofs.agent.Agent.take_packet.Goals as goal

pub returns-in-Failure-clause-arrives : goal.returns-in-Failure-clause-arrives
returns-in-Failure-clause-arrives g c =
    let m = message_view c.args.packet.now.message in
    let method : m.method ≡ Binding = search rules in
    let class : m.class ≡ Failure = sym c.class.ensures ∙ c.in-Failure.is in
    failure-arrives g.H.Sha1HmacProvider.mac c.args.now.0 (record_of c.args.self.now) (record_of c.handle_failure_packet.new.self) (packet_path c.args.packet.now) m c.handle_failure_packet.result method class
    (c.handle_failure_packet.ensures.arrives c.args.now.0)

use Rattle.std.proofs.Common.{◌≡◌, Some, List, ℕ, subst, ap, ◌∙◌, rules}
use Rattle.is_stun.specs.Checks.{binding_role_conflict_reply}
use Rattle.is_stun.specs.Theorems.{IsPut}
use Rattle.is_stun.specs.Writing.{written}
use Rattle.is_proto.specs.Packets.{Packet}
use Rattle.is_rules.specs.Agent.{AgentRecord}
use Rattle.is_rules.specs.declared.emitted.Path.{Path}
use Rattle.is_rules.specs.Sending.{with_packet}
use Rattle.is_agent.specs.View.{record_of}
use Rattle.is_agent.proofs.AgentParts.StepsOfServing.{packet-queued}
use Rattle.is_agent.proofs.agent.Agent.send_role_conflict.Goals as goal

-- the provider with the stored key has the function of the agent's provider
pub returns-clause-conflict_sent : goal.returns-clause-conflict_sent
returns-clause-conflict_sent g c =
    let self = c.args.self.now in let mac = g.H.Sha1HmacProvider.mac in let kept = mac c.by_local_key.result.provider.now in
    let message = binding_role_conflict_reply c.args.request.now.id.0 in let bytes = c.write_conflict.new.reply.items in
    let put = subst (λ (pass : List ℕ). IsPut (written kept (Some pass) message) message) c.as_str-password.ensures c.write_conflict.ensures.put in
    let signed = subst (λ (signs : List ℕ → List ℕ → List ℕ). IsPut (written signs (Some self.local_creds.pass) message) message) c.by_local_key.ensures put in
    let under = subst (λ (pass : List ℕ). bytes ≡ written kept (Some pass) message) c.as_str-password.ensures c.write_conflict.ensures.written in
    let made = subst (λ (signs : List ℕ → List ℕ → List ℕ). bytes ≡ written signs (Some self.local_creds.pass) message) c.by_local_key.ensures under in
    let queue = packet-queued self.packets.items c.packet_on.result c.push_back_reserved.ensures.items c.packet_on.ensures in
    let sent = ap (λ (packets : List Packet). let s : AgentRecord g.row.H.Denot g.row.P.Denot = record (record_of self) { packets = packets } in s) queue
    ∙ ap (λ (bytes : List ℕ). with_packet c.reversed-path.result bytes (record_of self)) made in
    let reversed = ap (λ (path : Path). with_packet path (written (mac self.provider) (Some self.local_creds.pass) message) (record_of self)) c.reversed-path.ensures in
    (signed, search rules, sent ∙ reversed)

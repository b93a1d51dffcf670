use Rattle.std.proofs.Common.{◌≡◌, Some, None, List, ℕ, subst, ap, ◌∙◌}
use Rattle.is_stun.specs.Checks.{binding_reply}
use Rattle.is_stun.specs.Theorems.{IsPut}
use Rattle.is_stun.specs.Writing.{written}
use Rattle.is_proto.specs.Packets.{Packet}
use Rattle.is_rules.specs.Agent.{AgentRecord}
use Rattle.is_rules.specs.declared.emitted.Issued.{Issued}
use Rattle.is_rules.specs.Emitted.{emitted_by}
use Rattle.is_rules.specs.Sending.{carried, with_packet}
use Rattle.is_agent.specs.View.{record_of}
use Rattle.is_agent.proofs.AgentParts.StepsOfServing.{packet-queued}
use Rattle.is_agent.proofs.agent.Agent.reply.Goals as goal

-- the provider with the stored key has the function of the agent's provider
pub returns-clause-replied : goal.returns-clause-replied
returns-clause-replied g c =
    let self = c.args.self.now in let request = c.args.request.now in let mac = g.H.Sha1HmacProvider.mac in let kept = mac c.by_local_key.result.provider.now in
    let message = binding_reply request.id.0 request.path.source in let emitted = binding_reply request.id.0 (carried request.path.source) in
    let bytes = c.write_reply.new.reply.items in
    let put = subst (λ (pass : List ℕ). IsPut (written kept (Some pass) message) emitted) c.as_str-password.ensures c.write_reply.ensures.put in
    let signed = subst (λ (signs : List ℕ → List ℕ → List ℕ). IsPut (written signs (Some self.local_creds.pass) message) emitted) c.by_local_key.ensures put in
    let under = subst (λ (pass : List ℕ). bytes ≡ written kept (Some pass) message) c.as_str-password.ensures c.write_reply.ensures.written in
    let made = subst (λ (signs : List ℕ → List ℕ → List ℕ). bytes ≡ written signs (Some self.local_creds.pass) message) c.by_local_key.ensures under in
    let queue = packet-queued self.packets.items c.packet_on.result c.push_back_reserved.ensures.items c.packet_on.ensures in (
      signed,
      c.by.ensures ∙ ap (λ (i : Issued). emitted_by (Some i) c.args.selected_paths None) c.new-issued.ensures,
      ap (λ (packets : List Packet). let s : AgentRecord g.row.H.Denot g.row.P.Denot = record (record_of self) { packets = packets } in s) queue
          ∙ ap (λ (bytes : List ℕ). with_packet c.args.path bytes (record_of self)) made,
    )

use Rattle.std.proofs.Common.{rules, ◌≡◌, ◌∙◌, ℕ, ℤ, List, Option, Some, inr, refl, w32, to_z, of_z, subst, ap, sym}
use Rattle.is_stun.specs.MessageView.{message_view}
use Rattle.is_rules.specs.Accepting.{HandlesPacket}
use Rattle.is_rules.specs.declared.emitted.Path.{Path}
use Rattle.is_proto.specs.contracts.hmac_provider.DefaultSha1HmacProviderSha1HmacProvider.TheImpl.{mac-value}
use Rattle.is_agent.specs.View.{emitted_of, record_of}
use Rattle.is_c_calls.specs.Clock.{agent_time}
use Rattle.is_c_calls.specs.Held.{HeldRecord}
use Rattle.is_c_calls.specs.Monitoring.{monitor_received}
use Rattle.is_c_calls.specs.Packets.{HandlesDatagram, IsHandled, TakesBytes, packet_path}
use Rattle.is_c.specs.Slots.{held_record}
use Rattle.is_c.proofs.packets.receive.Goals as goal

-- OK is returned only for bytes that the agent accepts, and otherwise nothing changes
handled : (now : ℕ) (path : Path) (bytes : List ℕ) (old new : HeldRecord) (code : ℤ) → TakesBytes mac-value.it now path bytes old code new
    → IsHandled mac-value.it (Some path) bytes old code new
handled now path bytes old new code takes = search rules

-- the bytes read as the message, which the agent handles at its own time; then the monitor sees the agent
pub returns-in-Ok : goal.returns-in-Ok
returns-in-Ok c =
    let old = held_record c.args.held.now in let path = c.in-Some.path in let bytes = c.args.bytes.now in
    let m = message_view c.in-Ok.message in
    let emitted = emitted_of c.handle_packet-outcome.new.self in
    let after = record_of c.handle_packet-outcome.new.self in
    let code = to_z w32 (of_z w32 c.flag_code.result) in
    let timed : c.agent_time-now.result.0 ≡ agent_time c.args.now = search c.agent_time-now.ensures in
    let handled_at = subst
    (λ (now : ℕ). HandlesPacket mac-value.it now (record_of c.args.held.now.agent) path m c.handle_packet-outcome.result emitted after)
    timed c.handle_packet-outcome.ensures in
    let seen = ap (λ (now : ℕ). monitor_received c.handle_packet-outcome.result now after old.monitor) timed in
    let back : code ≡ c.flag_code.result = search rules in
    let taken : TakesBytes mac-value.it c.args.now path bytes old code (held_record c.see_packet.new.held) =
    subst (λ (new : HeldRecord). TakesBytes mac-value.it c.args.now path bytes old code new)
    (sym c.see_packet.ensures)
    (inr (m, c.in-Ok.ensures.reads, (c.handle_packet-outcome.result, (emitted, handled_at, back ∙ c.flag_code.ensures, (refl, seen, refl, refl))))) in
    let way : Some path ≡ packet_path c.args.protocol c.args.source.now c.args.destination.now = sym c.in-Some.is ∙ c.packet_path.ensures in
    record {
      step = subst (λ (p : Option Path). HandlesDatagram mac-value.it c.args.now p bytes old code (held_record c.see_packet.new.held)) way taken;
      settled = subst (λ (p : Option Path). IsHandled mac-value.it p bytes old code (held_record c.see_packet.new.held)) way
          (handled c.args.now path bytes old (held_record c.see_packet.new.held) code taken);
    }

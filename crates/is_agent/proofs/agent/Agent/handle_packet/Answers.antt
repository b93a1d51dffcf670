use Rattle.std.proofs.Common.{◌≡◌, Option, Some, Result, Ok, ap, subst, ◌∙◌}
use Rattle.is_proto.specs.declared.error.IceError.{IceError}
use Rattle.is_stun.specs.declared.header.Class.{Class}
use Rattle.is_stun.specs.MessageView.{message_view}
use Rattle.is_rules.specs.declared.emitted.Path.{Path}
use Rattle.is_rules.specs.declared.emitted.Emitted.{Emitted}
use Rattle.is_rules.specs.RequestView.{packet_path}
use Rattle.is_agent.specs.View.{record_of}
use Rattle.is_rules.specs.Accepting.{IsAcceptedOn, Arrives, discovered_emitted}
use Rattle.is_agent.proofs.agent.Agent.handle_packet.Goals as goal

pub returns-in-Ok-Some : goal.returns-in-Ok-Some
returns-in-Ok-Some g c =
    let old = record_of c.args.self.now in let mid = record_of c.take_packet.new.self in
    let path = packet_path c.args.packet in let m = message_view c.args.packet.message in let mac = g.H.Sha1HmacProvider.mac in
    let taken : c.take_packet.result ≡ Ok (Some c.in-Ok-Some.emitted) = cc in
    let arrives = subst (λ (r : Result (Option Emitted) IceError). Arrives (IsAcceptedOn mac old path m) mac m.class c.args.now.0 old path m r mid) taken c.take_packet.ensures.arrives in
    let emitted = c.in-Ok-Some.emitted in (
      arrives.0,
      (
        mid,
        arrives.1,
        c.emit_discovered.ensures
            ∙ ap (λ (k : Class). discovered_emitted k emitted c.packet_path.result mid) c.class.ensures
            ∙ ap (λ (w : Path). discovered_emitted m.class emitted w mid) c.packet_path.ensures,
      ),
    )

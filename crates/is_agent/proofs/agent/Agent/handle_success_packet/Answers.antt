use Rattle.std.proofs.Common.{subst}
use Rattle.is_stun.specs.MessageView.{message_view}
use Rattle.is_rules.specs.declared.emitted.Path.{Path}
use Rattle.is_agent.specs.View.{record_of}
use Rattle.is_rules.specs.Accepting.{IsAwaited}
use Rattle.is_rules.specs.Answers.{keeps_check_on, HandlesSuccess}
use Rattle.is_agent.proofs.agent.Agent.handle_success_packet.Goals as goal

pub returns-clause-arrives : goal.returns-clause-arrives
returns-clause-arrives g c =
    let old = record_of c.args.self.now in let new = record_of c.handle_success.new.self in let m = message_view c.args.packet.now.message in (
      subst (λ (w : Path). IsAwaited g.H.Sha1HmacProvider.mac (keeps_check_on old w m.id) old m) c.packet_path-path.ensures c.in-Some.ensures.awaited,
      subst (λ (w : Path). HandlesSuccess c.args.now.0 old w m c.in_ok-emitted.emitted new) c.packet_path-path.ensures c.in_ok-emitted.ensures.taken,
    )

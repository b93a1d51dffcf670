use Rattle.std.proofs.Common.{subst, sym}
use Rattle.is_stun.specs.MessageView.{message_view}
use Rattle.is_rules.specs.declared.emitted.Emitted.{Emitted}
use Rattle.is_rules.specs.declared.emitted.Path.{Path}
use Rattle.is_rules.specs.Accepting.{IsAwaited}
use Rattle.is_rules.specs.Agent.{AgentRecord}
use Rattle.is_rules.specs.Answers.{keeps_check_on, HandlesFailure}
use Rattle.is_rules.specs.Emitted.{nothing_emitted}
use Rattle.is_agent.specs.View.{record_of}
use Rattle.is_agent.proofs.agent.Agent.handle_failure_packet.Goals as goal

pub returns-clause-arrives : goal.returns-clause-arrives
returns-clause-arrives g c now =
    let old = record_of c.args.self.now in let new = record_of c.handle_failure.new.self in let m = message_view c.args.packet.now.message in (
      subst (λ (w : Path). IsAwaited g.H.Sha1HmacProvider.mac (keeps_check_on old w m.id) old m) c.packet_path-path.ensures c.in-Some.ensures.awaited,
      subst (λ (w : Path). HandlesFailure old w m c.nothing.result new) c.packet_path-path.ensures
          (subst (λ (e : Emitted). HandlesFailure old c.packet_path-path.result m e new) (sym c.nothing.ensures)
          (subst (λ (s : AgentRecord g.row.H.Denot g.row.P.Denot). HandlesFailure s c.packet_path-path.result m nothing_emitted new) c.in_ok-reserve_source_room.ensures.record c.handle_failure.ensures.taken)),
    )

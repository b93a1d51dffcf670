use Rattle.is.proofs.Common.{entry_view, record_of}
use Rattle.is.proofs.AgentLogs.UnacceptedBytes.{left_out}
use Rattle.is.proofs.steps.handle_stray.Goals as goal

pub returns-clause-said : goal.returns-clause-said
returns-clause-said g c =
    left_out _ g.P.LocalPreference.answers (record_of c.args.agent.now) (record_of c.take_packet.new.agent) c.args.now.0 c.args.path c.args.bytes.now (entry_view c.take_packet.result)
    (λ accepted. (let yes = c.if-accepts_bytes.ensures.1 accepted in cc)) c.take_packet.ensures.did

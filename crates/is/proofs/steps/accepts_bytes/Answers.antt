use Rattle.is.proofs.Common.{IsTrue, message_view, record_of}
use Rattle.is.proofs.AgentLogs.UnacceptedBytes.{accepted_if}
use Rattle.is.proofs.steps.accepts_bytes.Goals as goal

pub returns : goal.returns
returns g c =
    accepted_if _ (record_of c.args.agent.now) c.args.path c.args.bytes.now (message_view c.in-Ok.message) (IsTrue c.accepts_packet.result) c.in-Ok.ensures.reads c.accepts_packet.ensures

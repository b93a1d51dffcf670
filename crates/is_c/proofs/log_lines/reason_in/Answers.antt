use Rattle.std.proofs.Common.{inr}
use Rattle.is_stun.specs.MessageView.{message_view}
use Rattle.is_c.proofs.log_lines.reason_in.Goals as goal

-- the bytes read as the message that the agent rejects, or to which it sends no response, for these reasons
pub returns-in-Ok : goal.returns-in-Ok
returns-in-Ok c =
    inr (message_view c.in-Ok.message, c.in-Ok.ensures.reads, (c.rejection.result, c.unserved.result, c.rejection.ensures.rejects, c.unserved.ensures, c.reason_of.ensures))

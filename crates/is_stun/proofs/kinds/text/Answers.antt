use Rattle.std.proofs.Common.{arith}
use Rattle.is_stun.proofs.MessageReading.TextValues.{text_of, text_of_other}
use Rattle.is_stun.proofs.kinds.text.Goals as goal

pub returns-in-Ok : goal.returns-in-Ok
returns-in-Ok c = rw c.in-Ok.ensures.cases.0 (text_of c.args.limit c.args.value.now (omega arith) c.in-Ok.ensures.cases.1)

pub returns-in-Err : goal.returns-in-Err
returns-in-Err c = text_of_other c.args.limit c.args.value.now (omega arith) c.in-Err.ensures.cases.0

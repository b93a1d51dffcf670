use Rattle.std.proofs.Common.{refl, sym}
use Rattle.is_stun.proofs.MessageReading.MalformedMessages.{form_fault-parts}
use Rattle.is_stun.proofs.message.StunMessage.fill_any.Goals as goal

pub returns-in-Some-clause-fault : goal.returns-in-Some-clause-fault
returns-in-Some-clause-fault c = form_fault-parts c.args.buf.now _ _ c.in-Some.ensures.fault refl

pub returns-in-Ok-clause-reads : goal.returns-in-Ok-clause-reads
returns-in-Ok-clause-reads c = record {
  faultless = form_fault-parts c.args.buf.now _ _ c.in_default.ensures.fault (sym c.in-Ok.ensures.faultless);
  spelled = c.in-Ok.ensures.spelled;
}

pub returns-in-Err-clause-fault : goal.returns-in-Err-clause-fault
returns-in-Err-clause-fault c = form_fault-parts c.args.buf.now _ _ c.in_default.ensures.fault (sym c.in-Err.ensures.fault)

use Rattle.is_stun.proofs.Common.{◌∙◌, ap, demand_fault, refl, sym}
use Rattle.is_stun.proofs.MessageReading.MalformedMessages.{fault_of-form}
use Rattle.is_stun.proofs.message.StunMessage.fill.Goals as goal

pub returns-in-Some-clause-fault : goal.returns-in-Some-clause-fault
returns-in-Some-clause-fault c = fault_of-form c.args.buf.now _ _ (sym c.in-Some.ensures.fault) refl

pub returns-in-Some-demand_fault-clause-fault : goal.returns-in-Some-demand_fault-clause-fault
returns-in-Some-demand_fault-clause-fault c =
    fault_of-form c.args.buf.now _ _ (sym c.in_default.ensures.reads.faultless) (c.in-Some-demand_fault.ensures ∙ ap demand_fault c.in_default.ensures.reads.spelled)

pub returns-clause-reads : goal.returns-clause-reads
returns-clause-reads c = record {
  faultless =
      fault_of-form c.args.buf.now _ _ (sym c.in_default.ensures.reads.faultless) (c.in_default-demand_fault.ensures ∙ ap demand_fault c.in_default.ensures.reads.spelled);
  spelled = c.in_default.ensures.reads.spelled;
}

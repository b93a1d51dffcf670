use Rattle.is_stun.specs.TlvView.{tlv_view}
use Rattle.is_stun.proofs.MessageReading.FoundValues.{takes, passes, stops, ends}
use Rattle.is_stun.proofs.finding.value_in.Goals as goal

pub returns-then-tlv-eq-MESSAGE_INTEGRITY : goal.returns-then-tlv-eq-MESSAGE_INTEGRITY
returns-then-tlv-eq-MESSAGE_INTEGRITY c =
    stops c.args.code _ _ (tlv_view c.in-Some.tlv) _ _ c.loop-tlv.invariant c.in-Some.ensures.steps c.if-tlv-eq-MESSAGE_INTEGRITY.true

pub loop-tlv-preserved-then-tlv-code : goal.loop-tlv-preserved-then-tlv-code
loop-tlv-preserved-then-tlv-code c =
    takes c.args.code _ _ (tlv_view c.in-Some.tlv) _ _ c.loop-tlv.invariant c.in-Some.ensures.steps c.if-tlv-eq-MESSAGE_INTEGRITY.false c.if-tlv-code.true

pub loop-tlv-preserved : goal.loop-tlv-preserved
loop-tlv-preserved c =
    passes c.args.code _ _ (tlv_view c.in-Some.tlv) _ _ c.loop-tlv.invariant c.in-Some.ensures.steps c.if-tlv-eq-MESSAGE_INTEGRITY.false c.if-tlv-code.false

pub returns : goal.returns
returns c = ends c.args.code _ _ _ c.loop-tlv.invariant c.in-None.ensures.steps.0

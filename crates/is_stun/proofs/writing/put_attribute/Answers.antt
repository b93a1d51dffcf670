use Rattle.is_stun.proofs.Common.{arith, attribute}
use Rattle.is_stun.proofs.WrittenMessages.ConsecutiveRows.{attribute_length}
use Rattle.is_stun.proofs.WrittenMessages.ConsecutiveTexts.{Puts-then}
use Rattle.is_stun.proofs.writing.put_attribute.Goals as goal

pub returns-clause-text : goal.returns-clause-text
unfolding attribute
returns-clause-text c = Puts-then (Puts-then (Puts-then c.put_u16-at.ensures c.put_u16-at-2.ensures) c.put-at.ensures) c.put_padding.ensures

pub returns-clause-end : goal.returns-clause-end
returns-clause-end c = omega (arith, (returns-clause-text c).ends, attribute_length c.args.code c.args.value.now)

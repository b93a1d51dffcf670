use Rattle.is_stun.proofs.Common.{arith, header}
use Rattle.is_stun.proofs.WrittenMessages.ConsecutiveRows.{header_length}
use Rattle.is_stun.proofs.WrittenMessages.ConsecutiveTexts.{Puts-then}
use Rattle.is_stun.proofs.writing.put_header.Goals as goal

pub returns-clause-text : goal.returns-clause-text
unfolding header
returns-clause-text c = Puts-then (Puts-then (Puts-then c.put_u16-at.ensures c.put_u16-at-2.ensures) c.put_u32-at.ensures) c.put.ensures

pub returns-clause-end : goal.returns-clause-end
returns-clause-end c = omega (arith, (returns-clause-text c).ends, header_length c.args.typ c.args.len c.args.id.now)

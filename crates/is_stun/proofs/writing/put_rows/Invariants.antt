use Rattle.is_stun.specs.Writing.{Puts}
use Rattle.is_stun.proofs.WrittenMessages.ConsecutiveRows.{text_to}
use Rattle.is_stun.proofs.writing.put_rows.Given as goal

abbrev pub invariant-loop-row : goal.invariant-loop-row
invariant-loop-row l = Puts l.initial.buf l.buf l.at l.end (text_to l.row-index l.rows)

use Rattle.is_stun.specs.declared.writing.Row.{Row as RawRow}
use Rattle.is_stun.proofs.Common.{◌+◌, ◌<◌, ◌≤◌, ap, arith, get_or, length, length-append, List, map, None, row_text, row_view, rows_text}
use Rattle.is_stun.proofs.Common.{ℕ}
use Rattle.is_stun.proofs.WrittenMessages.ConsecutiveTexts.{Puts-nothing, Puts-then}
use Rattle.is_stun.proofs.WrittenMessages.ConsecutiveRows.{text_to, text_to-more, text_to-le, rows_text-nil}
use Rattle.is_stun.proofs.writing.put_rows.Goals as goal

pub loop-row-init : goal.loop-row-init
loop-row-init c = rw rows_text-nil (Puts-nothing c.args.buf.now c.args.at (omega arith))

-- the row at hand is no longer than what is left
row_fits : (rows : List RawRow) (i : ℕ) → i < length rows → length (text_to i rows) + length (row_text (row_view (get_or rows i (record { code = 0; value = None })))) ≤ length (rows_text (map row_view rows))
row_fits rows i lt =
    let d : RawRow = record { code = 0; value = None } in
    omega (arith, ap length (text_to-more rows i d lt), length-append (text_to i rows) (row_text (row_view (get_or rows i d))), text_to-le rows (i + 1))

pub put_row-end-requires-clause-room : goal.put_row-end-requires-clause-room
put_row-end-requires-clause-room c = omega (arith, row_fits c.args.rows.now c.loop-row.row-index c.loop-row-test.true, c.loop-row.invariant.ends, c.loop-row.auto.buf)

pub put_row-end-requires-clause-short : goal.put_row-end-requires-clause-short
put_row-end-requires-clause-short c = omega (arith, row_fits c.args.rows.now c.loop-row.row-index c.loop-row-test.true)

pub loop-row-preserved : goal.loop-row-preserved
loop-row-preserved c = rw (text_to-more c.args.rows.now c.loop-row.row-index (record { code = 0; value = None }) c.loop-row-test.true) (Puts-then c.loop-row.invariant c.put_row-end.ensures)

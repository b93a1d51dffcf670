use Rattle.std.proofs.Math.ListN.{get_or-map}
use Rattle.is_stun.specs.declared.writing.Row.{Row as RawRow}
use Rattle.is_stun.proofs.Common.{◌∙◌, ◌≡◌, ap, get_or, List, map, None, refl, Row, row_view, sym, ℕ}
use Rattle.is_stun.proofs.requested.rows_with.Goals as goal

abbrev no_row : RawRow
no_row = record { code = 0; value = None }

row_at : (raw : List RawRow) (rows : List Row) (place : ℕ) → map row_view raw ≡ rows → row_view (get_or raw place no_row) ≡ get_or rows place (row_view no_row)
row_at raw rows place is = sym (get_or-map row_view raw place no_row) ∙ ap (λ (x : List Row). get_or x place (row_view no_row)) is

pub returns : goal.returns
returns c =
    let at = λ (place : ℕ). row_at c.rows_of.result _ place c.rows_of.ensures in
    rw (at 0, at 1, at 2, at 3, at 4, at 5, at 6, at 7, at 8, at 9, at 10, at 11, at 12, at 13, at 14, at 15, at 16, c.array_row-family.ensures, c.array_row-transport.ensures) refl

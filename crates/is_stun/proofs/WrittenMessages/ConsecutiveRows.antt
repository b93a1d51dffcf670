-- Rows one after another.
use Rattle.is_stun.specs.declared.writing.Row.{Row as RawRow}
use Rattle.is_stun.proofs.Common.{[], ◌++◌, ◌+◌, ◌-◌, ◌<◌, ◌∙◌, ◌∷◌, ◌≡◌, ◌≤◌, ap, append-nil, arith, attribute, attribute_len, Bor, drop}
use Rattle.is_stun.proofs.Common.{flat_map-append, get_or, header, length, length-append, length-replicate, List, map, map-append}
use Rattle.is_stun.proofs.Common.{padded_len, refl, replicate, Row, row_text, row_view, rows_text, Some, sym, take, take-append-drop}
use Rattle.is_stun.proofs.Common.{take_more, ℕ}

pub attribute_length : (code : ℕ) (value : List ℕ) → length (attribute code value) ≡ attribute_len (length value)
unfolding attribute
attribute_length code value =
    let n = length value in
    omega (arith, length-append value (replicate (padded_len n - n) 0), length-replicate {A = ℕ} (padded_len n - n) 0)

-- a row with a value, and one without
pub row_length : (r : RawRow) (value : Bor (List ℕ)) → r.value ≡ Some value → length (row_text (row_view r)) ≡ attribute_len (length value.now)
row_length r value e = rw e (attribute_length r.code value.now)

pub rows_text-append : (a b : List Row) → rows_text (a ++ b) ≡ rows_text a ++ rows_text b
unfolding rows_text
rows_text-append a b = flat_map-append row_text a b

pub rows_text-single : (r : Row) → rows_text (r ∷ []) ≡ row_text r
unfolding rows_text
rows_text-single r = append-nil (row_text r)

pub rows_text-nil : rows_text [] ≡ []
unfolding rows_text
rows_text-nil = refl

-- the texts of the first i rows
abbrev pub text_to : ℕ → List RawRow → List ℕ
text_to i rows = rows_text (map row_view (take i rows))

pub text_to-more : (rows : List RawRow) (i : ℕ) (d : RawRow) → i < length rows → text_to (i + 1) rows ≡ text_to i rows ++ row_text (row_view (get_or rows i d))
text_to-more rows i d lt =
    rw (take_more rows i d lt, map-append, rows_text-append) (ap (λ (x : List ℕ). text_to i rows ++ x) (rows_text-single _))

-- the first rows are no longer than all
pub text_to-le : (rows : List RawRow) (i : ℕ) → length (text_to i rows) ≤ length (rows_text (map row_view rows))
text_to-le rows i =
    let whole : rows_text (map row_view rows) ≡ text_to i rows ++ rows_text (map row_view (drop i rows)) =
    ap (λ (x : List RawRow). rows_text (map row_view x)) (sym (take-append-drop i rows)) ∙ rw (map-append, rows_text-append) refl in
    omega (arith, ap length whole, length-append (text_to i rows) (rows_text (map row_view (drop i rows))))

-- ---- lengths within room

-- what a row adds
pub rows_len-more : (rows : List RawRow) (i so_far room n : ℕ) (d : RawRow) → i < length rows → so_far ≡ length (text_to i rows) → so_far ≤ room
    → (n ≡ length (row_text (row_view (get_or rows i d)))) × (n ≤ room - so_far) → (so_far + n ≡ length (text_to (i + 1) rows)) × (so_far + n ≤ room)
rows_len-more rows i so_far room n d lt is within (n-is, n-within) =
    (omega (arith, ap length (text_to-more rows i d lt), length-append (text_to i rows) (row_text (row_view (get_or rows i d)))), omega arith)

-- a row that is longer than what is left
pub rows_len-past : (rows : List RawRow) (i so_far room : ℕ) (d : RawRow) → i < length rows → so_far ≡ length (text_to i rows) → so_far ≤ room
    → room - so_far < length (row_text (row_view (get_or rows i d))) → room < length (rows_text (map row_view rows))
rows_len-past rows i so_far room d lt is within past =
    omega (arith, ap length (text_to-more rows i d lt), length-append (text_to i rows) (row_text (row_view (get_or rows i d))), text_to-le rows (i + 1))

-- ---- the header

pub header_length : (typ len : ℕ) (id : List ℕ) → length (header typ len id) ≡ 8 + length id
unfolding header
header_length typ len id = omega arith

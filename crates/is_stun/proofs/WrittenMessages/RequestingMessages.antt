-- Messages that request something are put as others are.
use Rattle.is_stun.proofs.Common.{◌++◌, ◌+◌, ◌∙◌, ◌≡◌, ap, append-nil, class_bits, flat_map, flat_map-append, front_of, length, List}
use Rattle.is_stun.proofs.Common.{Message, method_bits, None, nothing_requested, Option, option_or, refl, rejection, rejection_with}
use Rattle.is_stun.proofs.Common.{Requested, requested_rows, RequestsNothing, Result, Row, row_text, rows_of, rows_rejection, rows_text}
use Rattle.is_stun.proofs.Common.{rows_with, sealed_of, Some, StunError, subst, sym, value_rejection, WritesOr, written, written_rows}
use Rattle.is_stun.proofs.Common.{written_with, ℕ}

pub rejected_at_once : (key : Option (List ℕ)) (room : ℕ) (m : Message) (asked : Requested) (error : StunError) → Some error ≡ value_rejection m → rejection_with key room m asked ≡ Some error
unfolding rejection_with
rejected_at_once key room m asked error e = ap (λ (o : Option StunError). option_or o (rows_rejection key room (rows_with m.id m.attributes asked))) (sym e)

-- what is written by its rows is the message with what it requests
pub writes_request : (r : Result ℕ StunError) (old new : List ℕ) (mac : List ℕ → List ℕ → List ℕ) (key : Option (List ℕ)) (m : Message) (asked : Requested) (typ : ℕ) (rows : List Row)
    → None ≡ value_rejection m → rows ≡ rows_with m.id m.attributes asked → typ ≡ class_bits m.class + method_bits m.method
    → WritesOr r old new (rows_rejection key (length old) rows) (written_rows mac key typ m.id rows) → WritesOr r old new (rejection_with key (length old) m asked) (written_with mac key m asked)
unfolding rejection_with written_with
writes_request r old new mac key m asked typ rows none rows-is typ-is h =
    let all : List Row = rows_with m.id m.attributes asked in
    let no_rejection : rows_rejection key (length old) all ≡ option_or (value_rejection m) (rows_rejection key (length old) all) =
    ap (λ (o : Option StunError). option_or o (rows_rejection key (length old) all)) none in
    let by_rows = subst (λ (x : List Row). WritesOr r old new (rows_rejection key (length old) x) (written_rows mac key typ m.id x)) rows-is h in
    let by_type = subst (λ (n : ℕ). WritesOr r old new (rows_rejection key (length old) all) (written_rows mac key n m.id all)) typ-is by_rows in
    subst (λ (o : Option StunError). WritesOr r old new o (written_rows mac key (class_bits m.class + method_bits m.method) m.id all)) no_rejection by_type

-- ---- nothing is requested

nothing_text : (rows : List Row) → rows_text (rows ++ requested_rows nothing_requested) ≡ rows_text rows
unfolding rows_text
nothing_text rows = flat_map-append row_text rows (requested_rows nothing_requested) ∙ append-nil (flat_map row_text rows)

-- rows of one text are written alike
by_text : (mac : List ℕ → List ℕ → List ℕ) (key : Option (List ℕ)) (typ : ℕ) (id : List ℕ) (a b : List Row) → rows_text a ≡ rows_text b → written_rows mac key typ id a ≡ written_rows mac key typ id b
unfolding written_rows sealed_of front_of
by_text mac key typ id a b e = rw e refl

rejected_by_text : (key : Option (List ℕ)) (room : ℕ) (a b : List Row) → rows_text a ≡ rows_text b → rows_rejection key room a ≡ rows_rejection key room b
rejected_by_text key room a b e = rw e refl

pub requests_nothing : (mac : List ℕ → List ℕ → List ℕ) (key : Option (List ℕ)) (room : ℕ) (m : Message) → RequestsNothing mac key room m
unfolding written_with written rejection_with rejection
requests_nothing mac key room m =
    let same : rows_text (rows_with m.id m.attributes nothing_requested) ≡ rows_text (rows_of m.id m.attributes) = nothing_text (rows_of m.id m.attributes) in
    record {
      bytes = by_text mac key (class_bits m.class + method_bits m.method) m.id _ _ same;
      error = ap (λ (o : Option StunError). option_or (value_rejection m) o) (rejected_by_text key room _ _ same);
    }

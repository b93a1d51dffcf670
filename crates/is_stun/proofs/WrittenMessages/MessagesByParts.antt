-- A message that was put part by part.
use Rattle.is_stun.proofs.Common.{◌++◌, ◌+◌, ◌∙◌, ◌≡◌, ap, arith, body_len, class_bits, drop, fingerprint_text, front_of, HasMacOf}
use Rattle.is_stun.proofs.Common.{HasMacOfRows, header, integrity_text, length, List, Message, method_bits, None, Option, option_or, Puts}
use Rattle.is_stun.proofs.Common.{rejection, Result, Row, rows_of, rows_rejection, rows_text, sealed_of, Some, splice, StunError, subst}
use Rattle.is_stun.proofs.Common.{sym, take, value_rejection, WritesOr, written, written_rows, ℕ}
use Rattle.is_stun.proofs.WrittenMessages.ConsecutiveTexts.{Puts-then, take-Puts}

-- a text after another one, of which it is a function
puts_by : (s t u : List ℕ) (mid end : ℕ) (a : List ℕ) (text : List ℕ → List ℕ) → Puts s t 0 mid a → Puts t u mid end (text (take mid t)) → Puts s u 0 end (a ++ text a)
puts_by s t u mid end a text p q =
    let named : Puts t u mid end (text a) = subst (λ (x : List ℕ). Puts t u mid end (text x)) (take-Puts p) q in
    Puts-then p named

pub written_parts : (mac : List ℕ → List ℕ → List ℕ) (key : Option (List ℕ)) (typ len : ℕ) (id : List ℕ) (rows : List Row) {s t u v w : List ℕ} {e1 e2 e3 e4 : ℕ}
    → len ≡ body_len key rows → e1 ≡ 20 → Puts s t 0 e1 (header typ len id) → Puts t u e1 e2 (rows_text rows)
    → Puts u v e2 e3 (integrity_text mac key (e2 + 4) (take e2 u)) → Puts v w e3 e4 (fingerprint_text (take e3 v)) → Puts s w 0 e4 (written_rows mac key typ id rows)
unfolding front_of sealed_of written_rows
written_parts mac key typ len id rows {s} {t} {u} {v} {w} {e1} {e2} {e3} {e4} len-is e1-is p1 p2 p3 p4 =
    let named : Puts s t 0 e1 (header typ (body_len key rows) id) = subst (λ (n : ℕ). Puts s t 0 e1 (header typ n id)) len-is p1 in
    let front : Puts s u 0 e2 (front_of key typ id rows) = Puts-then named p2 in
    let counts : e2 + 4 ≡ length (rows_text rows) + 24 = omega (arith, p2.ends, e1-is) in
    let integrity : Puts u v e2 e3 (integrity_text mac key (length (rows_text rows) + 24) (take e2 u)) =
    subst (λ (n : ℕ). Puts u v e2 e3 (integrity_text mac key n (take e2 u))) counts p3 in
    let sealed : Puts s v 0 e3 (sealed_of mac key typ id rows) =
    puts_by s u v e2 e3 (front_of key typ id rows) (integrity_text mac key (length (rows_text rows) + 24)) front integrity in
    puts_by s v w e3 e4 (sealed_of mac key typ id rows) fingerprint_text sealed p4

pub mac_parts : (mac : List ℕ → List ℕ → List ℕ) (key : Option (List ℕ)) (typ len : ℕ) (id : List ℕ) (rows : List Row) {s t u : List ℕ} {e1 e2 : ℕ}
    → len ≡ body_len key rows → e1 ≡ 20 → Puts s t 0 e1 (header typ len id) → Puts t u e1 e2 (rows_text rows) → HasMacOf mac key (e2 + 4) (take e2 u) → HasMacOfRows mac key typ id rows
unfolding front_of
mac_parts mac key typ len id rows {s} {t} {u} {e1} {e2} len-is e1-is p1 p2 fits =
    let named : Puts s t 0 e1 (header typ (body_len key rows) id) = subst (λ (n : ℕ). Puts s t 0 e1 (header typ n id)) len-is p1 in
    let front : Puts s u 0 e2 (front_of key typ id rows) = Puts-then named p2 in
    let counts : e2 + 4 ≡ length (rows_text rows) + 24 = omega (arith, p2.ends, e1-is) in
    subst (λ (n : ℕ). HasMacOf mac key n (front_of key typ id rows)) counts (subst (HasMacOf mac key (e2 + 4)) (take-Puts front) fits)

-- what was put at the front, and the rest
pub Puts-whole : {s t : List ℕ} {end : ℕ} {text : List ℕ} → Puts s t 0 end text → (end ≡ length text) × (t ≡ text ++ drop end s)
unfolding splice
Puts-whole {s} {t} {end} {text} p =
    let len : 0 + length text ≡ end = omega (arith, p.ends) in
    (omega (arith, p.ends), p.bytes ∙ ap (λ (n : ℕ). text ++ drop n s) len)

-- ---- whole messages

pub rejection_at_once : (key : Option (List ℕ)) (room : ℕ) (m : Message) (error : StunError) → Some error ≡ value_rejection m → rejection key room m ≡ Some error
unfolding rejection
rejection_at_once key room m error e = ap (λ (o : Option StunError). option_or o (rows_rejection key room (rows_of m.id m.attributes))) (sym e)

-- what is written by its rows is the message
pub writes_message : (r : Result ℕ StunError) (old new : List ℕ) (mac : List ℕ → List ℕ → List ℕ) (key : Option (List ℕ)) (m : Message) (typ : ℕ) (rows : List Row)
    → None ≡ value_rejection m → rows ≡ rows_of m.id m.attributes → typ ≡ class_bits m.class + method_bits m.method
    → WritesOr r old new (rows_rejection key (length old) rows) (written_rows mac key typ m.id rows) → WritesOr r old new (rejection key (length old) m) (written mac key m)
unfolding rejection written
writes_message r old new mac key m typ rows none rows-is typ-is h =
    let no_rejection : rows_rejection key (length old) (rows_of m.id m.attributes) ≡ option_or (value_rejection m) (rows_rejection key (length old) (rows_of m.id m.attributes)) =
    ap (λ (o : Option StunError). option_or o (rows_rejection key (length old) (rows_of m.id m.attributes))) none in
    let by_rows = subst (λ (x : List Row). WritesOr r old new (rows_rejection key (length old) x) (written_rows mac key typ m.id x)) rows-is h in
    let by_type = subst (λ (n : ℕ). WritesOr r old new (rows_rejection key (length old) (rows_of m.id m.attributes)) (written_rows mac key n m.id (rows_of m.id m.attributes))) typ-is by_rows in
    subst (λ (o : Option StunError). WritesOr r old new o (written_rows mac key (class_bits m.class + method_bits m.method) m.id (rows_of m.id m.attributes))) no_rejection by_type

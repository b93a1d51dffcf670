-- The rows of a message that was written are found by their types.
use Rattle.is_stun.proofs.Common.{[], ◌++◌, ◌+◌, ◌∙◌, ◌∷◌, ◌≡◌, AllByRecursion, ap, append-nil, append_assoc, arith, attribute}
use Rattle.is_stun.proofs.Common.{before_integrity, bit_xor, body_len, cond, crc32, FINGERPRINT_MASK, fingerprint_text, front_of, header}
use Rattle.is_stun.proofs.Common.{IsPlainRow, last_value, last_written, length, List, ne_eqb, None, Option, refl, Row, rows_text, sealed_of}
use Rattle.is_stun.proofs.Common.{signed_text, Some, sym, Tlv, tlvs_after, to_be_bytes, value_of, w32, written_rows, WrittenIsFound, ℕ}
use Rattle.is_stun.proofs.MessageReading.AttributeSequence.{tlvs_short}
use Rattle.is_stun.proofs.MessageReading.FirstAttribute.{before_integrity-here}
use Rattle.is_stun.proofs.RoundTrips.Rows.{tlv_of, tlvs-attribute, value_in_rows}
use Rattle.is_stun.proofs.RoundTrips.MessageParts.{body_of_rows}

-- what follows the rows has no value of the type
abbrev HasNone : ℕ → ℕ → List ℕ → Type 0
HasNone code place rest = last_value code (before_integrity (tlvs_after 0 place rest)) ≡ None

-- only the fingerprint
past_fingerprint : (code place : ℕ) (fingerprint : List ℕ) → (code ≡ 0x8028 → ⊥) → length fingerprint ≡ 4 → HasNone code place (attribute 0x8028 fingerprint)
unfolding last_value before_integrity
past_fingerprint code place fingerprint other len =
    let at : tlvs_after 0 place (attribute 0x8028 fingerprint) ≡ tlv_of place 0x8028 fingerprint ∷ [] =
    ap (tlvs_after 0 place) (sym (append-nil (attribute 0x8028 fingerprint)))
    ∙ tlvs-attribute place 0x8028 fingerprint [] (omega arith) (omega (arith, len))
    ∙ ap (λ (cs : List Tlv). tlv_of place 0x8028 fingerprint ∷ cs) (tlvs_short _ [] (omega arith)) in
    ap (λ (cs : List Tlv). last_value code (before_integrity cs)) at
    ∙ ap (λ b. cond b (Some fingerprint) None) (ne_eqb 0x8028 code (λ e. other (sym e)))

-- the integrity, and what follows it
past_integrity : (code place : ℕ) (mac rest : List ℕ) → length mac ≡ 20 → HasNone code place (attribute 8 mac ++ rest)
unfolding last_value
past_integrity code place mac rest len =
    ap (last_value code) (before_integrity-here _ _ (tlv_of place 8 mac) (tlvs-attribute place 8 mac rest (omega arith) (omega (arith, len))) refl)

found_before : (code typ len : ℕ) (id : List ℕ) (rows : List Row) (rest : List ℕ) → length id ≡ 12 → AllByRecursion IsPlainRow rows → HasNone code (length (rows_text rows)) rest
    → value_of code (header typ len id ++ (rows_text rows ++ rest)) ≡ last_written code rows
found_before code typ len id rows rest id_len plain none =
    ap (λ (cs : List Tlv). last_value code (before_integrity cs)) (body_of_rows typ len id rows rest _ id_len plain refl)
    ∙ value_in_rows code 0 rows (tlvs_after 0 (length (rows_text rows)) rest) plain none

pub written_is_found : (mac : List ℕ → List ℕ → List ℕ) (key : Option (List ℕ)) (typ : ℕ) (id : List ℕ) (rows : List Row) (code : ℕ) → WrittenIsFound mac key typ id rows code
unfolding written_rows sealed_of front_of
written_is_found mac None typ id rows code mac_len id_len plain other =
    let head : List ℕ = header typ (body_len None rows) id in
    let front : List ℕ = head ++ rows_text rows in
    let print : List ℕ = fingerprint_text (front ++ []) in
    ap (value_of code) (ap (λ (x : List ℕ). x ++ print) (append-nil front) ∙ append_assoc head (rows_text rows) print)
    ∙ found_before code typ (body_len None rows) id rows print id_len plain
    (past_fingerprint code (length (rows_text rows)) (to_be_bytes w32 (bit_xor (crc32 (front ++ [])) FINGERPRINT_MASK)) other refl)
written_is_found mac (Some key) typ id rows code mac_len id_len plain other =
    let head : List ℕ = header typ (body_len (Some key) rows) id in
    let front : List ℕ = head ++ rows_text rows in
    let made : List ℕ = mac key (signed_text front (length (rows_text rows) + 24)) in
    let sign : List ℕ = attribute 8 made in
    let print : List ℕ = fingerprint_text (front ++ sign) in
    ap (value_of code) (append_assoc front sign print ∙ append_assoc head (rows_text rows) (sign ++ print))
    ∙ found_before code typ (body_len (Some key) rows) id rows (sign ++ print) id_len plain
    (past_integrity code (length (rows_text rows)) made print (mac_len key (signed_text front (length (rows_text rows) + 24))))

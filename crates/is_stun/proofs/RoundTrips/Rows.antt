-- What was written is read: the attributes of rows that were written.
use Rattle.is_stun.proofs.Common.{[], ◌&&◌, ◌++◌, ◌+◌, ◌-◌, ◌<◌, ◌^◌, ◌∙◌, ◌∷◌, ◌≡◌, add-zero, AllByRecursion, ap, append_assoc, arith}
use Rattle.is_stun.proofs.Common.{attribute, attribute_len, AttributeLength, attributes_fault, before_integrity, Bool, cond, counts}
use Rattle.is_stun.proofs.Common.{drop_at, eqb, false, fault_at, first_integrity, from_be_bytes, from_be_bytes-to_be_bytes_2, IfSome}
use Rattle.is_stun.proofs.Common.{is_skipped, IsPlainRow, last_of, last_value, last_written, le-ltb, length, length-append}
use Rattle.is_stun.proofs.Common.{length-replicate, List, ltb, ne_eqb, None, not, Option, option_or, optional_attribute, padded_len}
use Rattle.is_stun.proofs.Common.{ParseFault, refl, replicate, Row, row_text, rows_text, Some, subst, sym, take, take_at, Tlv, tlv_at}
use Rattle.is_stun.proofs.Common.{tlvs_after, to_be_bytes, true, value_fault, w16, ℕ}
use Rattle.is_stun.proofs.MessageReading.AttributeSequence.{tlvs_after-drop}
use Rattle.is_stun.proofs.MessageReading.FirstAttribute.{first_integrity-past, before_integrity-past, option_or-none, attributes_fault-cons}
use Rattle.is_stun.proofs.WrittenMessages.ConsecutiveRows.{attribute_length}

-- the attribute that a row is read as
abbrev pub tlv_of : ℕ → ℕ → List ℕ → Tlv
tlv_of place code value = record { code = code; place = place; len = length value; value = value }

abbrev pub tlv_of_row : ℕ → ℕ → Option (List ℕ) → List Tlv → List Tlv
tlv_of_row place code None cs = cs
tlv_of_row place code (Some value) cs = tlv_of place code value ∷ cs

and_true : (b : Bool) → (b && not false) ≡ b
and_true true = refl
and_true false = refl

same_cond : {A : Type 0} (b : Bool) → cond {A = Option A} b None None ≡ None
same_cond true = refl
same_cond false = refl

none_anyway : (b : Bool) → cond {A = Option ParseFault} b None None ≡ None
none_anyway b = same_cond b

-- an attribute at the front is the first that is read
pub tlvs-attribute : (place code : ℕ) (value rest : List ℕ) → code < 2 ^ 16 → length value < 2 ^ 16
    → tlvs_after 0 place (attribute code value ++ rest) ≡ tlv_of place code value ∷ tlvs_after 0 (place + attribute_len (length value)) rest
unfolding attribute tlvs_after
tlvs-attribute place code value rest code_fits len_fits =
    let n = length value in
    let pad : List ℕ = replicate (padded_len n - n) 0 in
    let after_header : List ℕ = (value ++ pad) ++ rest in
    let shape : ℕ → ℕ → List Tlv = λ c l. tlv_at place c l after_header ∷ cond (ltb (length after_header) l) [] (tlvs_after (padded_len l) (place + 4) after_header) in
    let code_is : from_be_bytes w16 (to_be_bytes w16 code) ≡ code = from_be_bytes-to_be_bytes_2 code code_fits in
    let len_is : from_be_bytes w16 (to_be_bytes w16 n) ≡ n = from_be_bytes-to_be_bytes_2 n len_fits in
    let named : shape (from_be_bytes w16 (to_be_bytes w16 code)) (from_be_bytes w16 (to_be_bytes w16 n)) ≡ shape code n =
    ap (λ (c : ℕ). shape c (from_be_bytes w16 (to_be_bytes w16 n))) code_is ∙ ap (λ (l : ℕ). shape code l) len_is in
    let padded : length (value ++ pad) ≡ padded_len n = omega (arith, length-append value pad, length-replicate {A = ℕ} (padded_len n - n) 0) in
    let value_is : take n after_header ≡ value = ap (take n) (append_assoc value pad rest) ∙ take_at value (pad ++ rest) n refl in
    let stays : ltb (length after_header) n ≡ false = le-ltb _ _ (omega (arith, length-append (value ++ pad) rest, padded)) in
    let rest_is : tlvs_after (padded_len n) (place + 4) after_header ≡ tlvs_after 0 (place + attribute_len n) rest =
    tlvs_after-drop (padded_len n) (place + 4) after_header
    ∙ ap (tlvs_after 0 (place + 4 + padded_len n)) (drop_at (value ++ pad) rest (padded_len n) padded)
    ∙ ap (λ (p : ℕ). tlvs_after 0 p rest) (omega arith) in
    let chosen : cond (ltb (length after_header) n) [] (tlvs_after (padded_len n) (place + 4) after_header) ≡ tlvs_after 0 (place + attribute_len n) rest =
    ap (λ (b : Bool). cond b [] (tlvs_after (padded_len n) (place + 4) after_header)) stays ∙ rest_is in
    named
    ∙ ap (λ (v : List ℕ). record { code = code; place = place; len = n; value = v } ∷ cond (ltb (length after_header) n) [] (tlvs_after (padded_len n) (place + 4) after_header)) value_is
    ∙ ap (λ (cs : List Tlv). tlv_of place code value ∷ cs) chosen

-- ---- rows

-- what rows are read as, before others
unfoldable pub tlvs_of_rows : ℕ → List Row → List Tlv → List Tlv
tlvs_of_rows place [] cs = cs
tlvs_of_rows place (r ∷ rs) cs = tlv_of_row place r.code r.value (tlvs_of_rows (place + length (row_text r)) rs cs)

-- a value that is written, and is read without a fault
pub record GoodValue (code : ℕ) (v : List ℕ) : Type 0 where
  pub short : length v < 2 ^ 16
  pub sound : value_fault code v ≡ None
  pub counted : is_skipped (tlv_of 0 code v) ≡ false

-- the code of a row and its value fit, and it is no integrity
abbrev pub FitsRow : Row → Type 0
FitsRow r = (r.code < 2 ^ 16) × (r.code ≡ 8 → ⊥) × IfSome r.value (GoodValue r.code)

-- what is read of a row needs less
plain_value : (code : ℕ) (v : Option (List ℕ)) → IfSome v (GoodValue code) → IfSome v (λ value. length value < 2 ^ 16)
plain_value code None good = tt
plain_value code (Some v) good = good.short

pub all_plain : (rows : List Row) → AllByRecursion FitsRow rows → AllByRecursion IsPlainRow rows
all_plain [] fits = tt
all_plain (r ∷ rs) fits = (record { code = fits.0.0; other = fits.0.1; short = plain_value r.code r.value fits.0.2 }, all_plain rs fits.1)

row_is_tlv : (place : ℕ) (r : Row) (v : Option (List ℕ)) (rest : List ℕ) (cs : List Tlv) → r.value ≡ v → IsPlainRow r → tlvs_after 0 (place + length (row_text r)) rest ≡ cs
    → tlvs_after 0 place (row_text r ++ rest) ≡ tlv_of_row place r.code r.value cs
row_is_tlv place r None rest cs is fits e =
    let text : row_text r ≡ [] = ap (optional_attribute r.code) is in
    let at : place + length (row_text r) ≡ place = ap (λ (t : List ℕ). place + length t) text ∙ add-zero place in
    ap (λ (t : List ℕ). tlvs_after 0 place (t ++ rest)) text ∙ ap (λ (p : ℕ). tlvs_after 0 p rest) (sym at) ∙ e ∙ ap (λ (o : Option (List ℕ)). tlv_of_row place r.code o cs) (sym is)
row_is_tlv place r (Some v) rest cs is fits e =
    let text : row_text r ≡ attribute r.code v = ap (optional_attribute r.code) is in
    let at : place + length (row_text r) ≡ place + attribute_len (length v) = ap (λ (t : List ℕ). place + length t) text ∙ ap (λ (n : ℕ). place + n) (attribute_length r.code v) in
    let short = subst (λ (o : Option (List ℕ)). IfSome o (λ value. length value < 2 ^ 16)) is fits.short in
    ap (λ (t : List ℕ). tlvs_after 0 place (t ++ rest)) text
    ∙ tlvs-attribute place r.code v rest fits.code short
    ∙ ap (λ (p : ℕ). tlv_of place r.code v ∷ tlvs_after 0 p rest) (sym at)
    ∙ ap (λ (x : List Tlv). tlv_of place r.code v ∷ x) e
    ∙ ap (λ (o : Option (List ℕ)). tlv_of_row place r.code o cs) (sym is)

pub rows_are_tlvs : (place : ℕ) (rows : List Row) (rest : List ℕ) (cs : List Tlv) → AllByRecursion IsPlainRow rows → tlvs_after 0 (place + length (rows_text rows)) rest ≡ cs
    → tlvs_after 0 place (rows_text rows ++ rest) ≡ tlvs_of_rows place rows cs
unfolding rows_text tlvs_of_rows
rows_are_tlvs place [] rest cs fits e = ap (λ (p : ℕ). tlvs_after 0 p rest) (sym (add-zero place)) ∙ e
rows_are_tlvs place (r ∷ rs) rest cs fits e =
    let at : place + length (row_text r) + length (rows_text rs) ≡ place + length (row_text r ++ rows_text rs) = omega (arith, length-append (row_text r) (rows_text rs)) in
    let others = rows_are_tlvs (place + length (row_text r)) rs rest cs fits.1 (ap (λ (p : ℕ). tlvs_after 0 p rest) at ∙ e) in
    ap (tlvs_after 0 place) (append_assoc (row_text r) (rows_text rs) rest)
    ∙ row_is_tlv place r r.value (rows_text rs ++ rest) (tlvs_of_rows (place + length (row_text r)) rs cs) refl fits.0 others

-- ---- what is found in them

-- the last value that rows have for a type
unfoldable pub last_row : ℕ → List Row → Option (List ℕ)
last_row code [] = None
last_row code (r ∷ rs) = option_or (last_row code rs) (cond (eqb r.code code) r.value None)

first_in_row : (place code : ℕ) (v : Option (List ℕ)) (cs : List Tlv) (c : Tlv) → (code ≡ 8 → ⊥) → first_integrity cs ≡ Some c → first_integrity (tlv_of_row place code v cs) ≡ Some c
first_in_row place code None cs c other e = e
first_in_row place code (Some v) cs c other e = first_integrity-past _ cs (tlv_of place code v) refl other ∙ e

pub first_in_rows : (place : ℕ) (rows : List Row) (cs : List Tlv) (c : Tlv) → AllByRecursion FitsRow rows → first_integrity cs ≡ Some c → first_integrity (tlvs_of_rows place rows cs) ≡ Some c
unfolding tlvs_of_rows
first_in_rows place [] cs c fits e = e
first_in_rows place (r ∷ rs) cs c fits e =
    first_in_row place r.code r.value _ c fits.0.1 (first_in_rows (place + length (row_text r)) rs cs c fits.1 e)

counted : (code place own : ℕ) (v : List ℕ) → GoodValue own v → counts code (tlv_of place own v) ≡ eqb own code
counted code place own v good = rw good.counted (and_true (eqb own code))

last_in_row : (code place own : ℕ) (v : Option (List ℕ)) (cs : List Tlv) → (own ≡ 8 → ⊥) → IfSome v (GoodValue own)
    → last_of code (before_integrity (tlv_of_row place own v cs)) ≡ option_or (last_of code (before_integrity cs)) (cond (eqb own code) v None)
unfolding last_of
last_in_row code place own None cs other good = sym (ap (option_or (last_of code (before_integrity cs))) (same_cond (eqb own code)) ∙ option_or-none (last_of code (before_integrity cs)))
last_in_row code place own (Some v) cs other good =
    ap (last_of code) (before_integrity-past _ cs (tlv_of place own v) refl other)
    ∙ ap (λ (b : Bool). option_or (last_of code (before_integrity cs)) (cond b (Some v) None)) (counted code place own v good)

pub last_in_rows : (code place : ℕ) (rows : List Row) (cs : List Tlv) → AllByRecursion FitsRow rows → before_integrity cs ≡ [] → last_of code (before_integrity (tlvs_of_rows place rows cs)) ≡ last_row code rows
unfolding tlvs_of_rows last_row last_of
last_in_rows code place [] cs fits e = ap (last_of code) e
last_in_rows code place (r ∷ rs) cs fits e =
    last_in_row code place r.code r.value (tlvs_of_rows (place + length (row_text r)) rs cs) fits.0.1 fits.0.2
    ∙ ap (λ (o : Option (List ℕ)). option_or o (cond (eqb r.code code) r.value None)) (last_in_rows code (place + length (row_text r)) rs cs fits.1 e)

-- ---- no fault in them

-- an attribute as it was written has the fault of its value
pub fault_at-written : (is_after : Bool) (place code : ℕ) (v : List ℕ) → value_fault code v ≡ None → fault_at is_after (tlv_of place code v) ≡ None
fault_at-written is_after place code v e =
    let whole : ltb (length v) (length v) ≡ false = le-ltb _ _ (omega arith) in
    ap (λ (b : Bool). cond b (Some AttributeLength) (cond (is_after && not (eqb code 0x8028)) None (value_fault code v))) whole
    ∙ ap (λ (o : Option ParseFault). cond (is_after && not (eqb code 0x8028)) None o) e
    ∙ none_anyway (is_after && not (eqb code 0x8028))

sound_in_row : (place code : ℕ) (v : Option (List ℕ)) (cs : List Tlv) → (code ≡ 8 → ⊥) → IfSome v (GoodValue code) → attributes_fault cs ≡ None → attributes_fault (tlv_of_row place code v cs) ≡ None
sound_in_row place code None cs other good e = e
sound_in_row place code (Some v) cs other good e =
    attributes_fault-cons false cs (tlv_of place code v) (ne_eqb code 8 other)
    ∙ ap (λ (o : Option ParseFault). option_or o (attributes_fault cs)) (fault_at-written false place code v good.sound) ∙ e

pub sound_in_rows : (place : ℕ) (rows : List Row) (cs : List Tlv) → AllByRecursion FitsRow rows → attributes_fault cs ≡ None → attributes_fault (tlvs_of_rows place rows cs) ≡ None
unfolding tlvs_of_rows
sound_in_rows place [] cs fits e = e
sound_in_rows place (r ∷ rs) cs fits e =
    sound_in_row place r.code r.value _ fits.0.1 fits.0.2 (sound_in_rows (place + length (row_text r)) rs cs fits.1 e)

-- ---- what is found of one type

value_in_row : (code place own : ℕ) (v : Option (List ℕ)) (cs : List Tlv) → (own ≡ 8 → ⊥)
    → last_value code (before_integrity (tlv_of_row place own v cs)) ≡ option_or (last_value code (before_integrity cs)) (cond (eqb own code) v None)
unfolding last_value
value_in_row code place own None cs other = sym (ap (option_or (last_value code (before_integrity cs))) (same_cond (eqb own code)) ∙ option_or-none (last_value code (before_integrity cs)))
value_in_row code place own (Some v) cs other = ap (last_value code) (before_integrity-past _ cs (tlv_of place own v) refl other)

pub value_in_rows : (code place : ℕ) (rows : List Row) (cs : List Tlv) → AllByRecursion IsPlainRow rows → last_value code (before_integrity cs) ≡ None
    → last_value code (before_integrity (tlvs_of_rows place rows cs)) ≡ last_written code rows
unfolding tlvs_of_rows last_written
value_in_rows code place [] cs plain e = e
value_in_rows code place (r ∷ rs) cs plain e =
    value_in_row code place r.code r.value (tlvs_of_rows (place + length (row_text r)) rs cs) plain.0.other
    ∙ ap (λ (o : Option (List ℕ)). option_or o (cond (eqb r.code code) r.value None)) (value_in_rows code (place + length (row_text r)) rs cs plain.1 e)

-- A value is read as text if and only if it is UTF-8, and a text may be split at a colon.
use Rattle.std.proofs.lemmas.List.Quantifiers.{position-Some}
use Rattle.std.proofs.lemmas.Str.{IsUtf8-from_is_utf8, is_utf8-from_IsUtf8, IsCharBoundary-before_ascii, IsCharBoundary-after_ascii}
use Rattle.is_stun.proofs.Common.{◌+◌, ◌==◌, ◌≡◌, ◌≤◌, arith, eqb-true, Err, false, false_from_ne_true, get_or, IfSome, is_utf8}
use Rattle.is_stun.proofs.Common.{IsCharBoundary, IsUtf8, le-ltb, length, List, None, Ok, Option, position, refl, Some, sym, text}
use Rattle.is_stun.proofs.Common.{TextNotUtf8, ℕ}

pub text_of : (limit : ℕ) (value : List ℕ) → length value ≤ limit → IsUtf8 value → text limit value ≡ Ok value
text_of limit value within utf8 = rw (le-ltb limit (length value) within, is_utf8-from_IsUtf8 value utf8) refl

pub text_of_other : (limit : ℕ) (value : List ℕ) → length value ≤ limit → ¬ (IsUtf8 value) → text limit value ≡ Err TextNotUtf8
text_of_other limit value within other =
    let fails : is_utf8 value ≡ false = false_from_ne_true _ (λ e. other (IsUtf8-from_is_utf8 value e)) in
    rw (le-ltb limit (length value) within, fails) refl

-- a text may be tlv before and after a colon
pub colon_boundary : (name : List ℕ) (found : Option ℕ) → found ≡ position (λ b. b == 58) name → IsUtf8 name → IfSome found (λ i. IsCharBoundary name i × IsCharBoundary name (i + 1))
colon_boundary name None e utf8 = tt
colon_boundary name (Some i) e utf8 =
    let at = position-Some (λ b. b == 58) name i 0 (sym e) in
    let colon : get_or name i 0 ≡ 58 = eqb-true _ _ at.1 in
    (IsCharBoundary-before_ascii name i at.0 (omega (arith, colon)), IsCharBoundary-after_ascii name i utf8 at.0 (omega (arith, colon)))

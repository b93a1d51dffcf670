-- How the attributes follow one another.
use Rattle.std.proofs.lemmas.Grind.{common_steps}
use Rattle.is_stun.proofs.Common.{[], ◌+◌, ◌<◌, ◌∙◌, ◌∷◌, ◌≡◌, ◌≤◌, ◌⊎◌, add-zero, ap, arith, Bool, cases_lt, cond, drop, drop_all, false}
use Rattle.is_stun.proofs.Common.{first_integrity, get_or, inl, inr, is_integrity, le-ltb, length, length-take, List, lt-ltb, ltb, min}
use Rattle.is_stun.proofs.Common.{None, padded_len, refl, Some, subst, suc, sym, take, Tlv, tlv_at, tlvs_after, tlvs_of, true, u16_of, zero}
use Rattle.is_stun.proofs.Common.{ℕ}

-- fewer than four bytes are no attribute
pub tlvs_short : (place : ℕ) (bytes : List ℕ) → length bytes < 4 → tlvs_after 0 place bytes ≡ []
unfolding tlvs_after
tlvs_short place [] h = refl
tlvs_short place (a ∷ []) h = refl
tlvs_short place (a ∷ b ∷ []) h = refl
tlvs_short place (a ∷ b ∷ c ∷ []) h = refl
tlvs_short place (a ∷ b ∷ c ∷ d ∷ rest) h = absurd (omega arith)

-- after some bytes are those of what follows them
pub tlvs_after-drop : (skip place : ℕ) (bytes : List ℕ) → tlvs_after skip place bytes ≡ tlvs_after 0 (place + skip) (drop skip bytes)
unfolding tlvs_after
tlvs_after-drop zero place bytes = rw add-zero refl
tlvs_after-drop (suc skip) place [] = refl
tlvs_after-drop (suc skip) place (b ∷ bytes) =
    let place-is : suc place + skip ≡ place + suc skip = omega arith in
    tlvs_after-drop skip (suc place) bytes ∙ ap (λ (p : ℕ). tlvs_after 0 p (drop skip bytes)) place-is

take_within : (n : ℕ) (xs : List ℕ) → take (min n (length xs)) xs ≡ take n xs
take_within n xs = grind (arith, common_steps)

-- after a value with its padding, or at the end if it states more than is left
after_value : (len place : ℕ) (rest : List ℕ) → cond (ltb (length rest) len) [] (tlvs_after (padded_len len) place rest) ≡ tlvs_after 0 (place + min (padded_len len) (length rest)) (drop (min (padded_len len) (length rest)) rest)
after_value len place rest =
    elim (cases_lt (length rest) len) [
      | inl lt ↦
          let passes : ltb (length rest) len ≡ true = lt-ltb _ _ lt in
          let n-is : min (padded_len len) (length rest) ≡ length rest = omega arith in
          let nothing : drop (length rest) rest ≡ [] = drop_all (length rest) rest (omega arith) in
          rw (passes, n-is, nothing) (sym (tlvs_short (place + length rest) [] (omega arith)))
      | inr le ↦
          let stays : ltb (length rest) len ≡ false = le-ltb _ _ le in
          rw (stays, tlvs_after-drop) (elim (cases_lt (length rest) (padded_len len)) [
            | inl past ↦
                let n-is : min (padded_len len) (length rest) ≡ length rest = omega arith in
                let nothing : drop (length rest) rest ≡ [] = drop_all (length rest) rest (omega arith) in
                let nothing_too : drop (padded_len len) rest ≡ [] = drop_all (padded_len len) rest (omega arith) in
                rw (n-is, nothing, nothing_too) (tlvs_short _ [] (omega arith) ∙ sym (tlvs_short _ [] (omega arith)))
            | inr within ↦
                let n-is : min (padded_len len) (length rest) ≡ padded_len len = omega arith in
                rw n-is refl
          ])
    ]

-- the first attribute and those after it
pub next_tlv : (place code len value_len following : ℕ) (bytes rest left : List ℕ) → 4 ≤ length bytes → rest ≡ drop 4 bytes → left ≡ drop following rest
    → code ≡ u16_of (get_or bytes 0 0) (get_or bytes 1 0) → len ≡ u16_of (get_or bytes 2 0) (get_or bytes 3 0)
    → value_len ≡ min len (length rest) → following ≡ min (padded_len len) (length rest)
    → tlvs_after 0 place bytes ≡ record { code = code; place = place; len = len; value = take value_len rest } ∷ tlvs_after 0 (place + 4 + following) left
unfolding tlvs_after
next_tlv place code len value_len following [] rest left h rest-is left-is code-is len-is value-is following-is = absurd (omega arith)
next_tlv place code len value_len following (a ∷ []) rest left h rest-is left-is code-is len-is value-is following-is = absurd (omega arith)
next_tlv place code len value_len following (a ∷ b ∷ []) rest left h rest-is left-is code-is len-is value-is following-is = absurd (omega arith)
next_tlv place code len value_len following (a ∷ b ∷ c ∷ []) rest left h rest-is left-is code-is len-is value-is following-is = absurd (omega arith)
next_tlv place code len value_len following (a ∷ b ∷ c ∷ d ∷ bytes) rest left h rest-is left-is code-is len-is value-is following-is =
    rw (left-is, value-is, following-is, code-is, len-is, rest-is) (rw (take_within, ← after_value) refl)

-- ---- where attributes lie

pub cond_cases : {A : Type 0} (b : Bool) (x y z : A) → cond b x y ≡ z → ((b ≡ true) × (x ≡ z)) ⊎ ((b ≡ false) × (y ≡ z))
cond_cases true x y z e = inl (refl, e)
cond_cases false x y z e = inr (refl, e)

pub record EndsBy (limit : ℕ) (c : Tlv) : Type 0 where
  pub ends : c.place + 4 + length c.value ≤ limit

first_integrity-ends_after : (skip place : ℕ) (bytes : List ℕ) (c : Tlv) (limit : ℕ) → place + length bytes ≤ limit → first_integrity (tlvs_after skip place bytes) ≡ Some c → EndsBy limit c
unfolding tlvs_after first_integrity
first_integrity-ends_after (suc skip) place [] c limit h e = absurd (cc)
first_integrity-ends_after (suc skip) place (b ∷ bytes) c limit h e = first_integrity-ends_after skip (suc place) bytes c limit (omega arith) e
first_integrity-ends_after zero place [] c limit h e = absurd (cc)
first_integrity-ends_after zero place (a0 ∷ []) c limit h e = absurd (cc)
first_integrity-ends_after zero place (a0 ∷ a1 ∷ []) c limit h e = absurd (cc)
first_integrity-ends_after zero place (a0 ∷ a1 ∷ a2 ∷ []) c limit h e = absurd (cc)
first_integrity-ends_after zero place (a0 ∷ a1 ∷ a2 ∷ a3 ∷ rest) c limit h e =
    let first : Tlv = tlv_at place (u16_of a0 a1) (u16_of a2 a3) rest in
    let others : List Tlv = cond (ltb (length rest) (u16_of a2 a3)) [] (tlvs_after (padded_len (u16_of a2 a3)) (place + 4) rest) in
    elim (cond_cases (is_integrity first) (Some first) (first_integrity others) (Some c) e) [
      | inl here ↦
          let c-is : first ≡ c = cc (here.1) in
          subst (λ (x : Tlv). EndsBy limit x) c-is (record { ends = omega (arith, length-take (u16_of a2 a3) rest) })
      | inr past ↦
          elim (cond_cases (ltb (length rest) (u16_of a2 a3)) [] (tlvs_after (padded_len (u16_of a2 a3)) (place + 4) rest) others refl) [
            | inl none ↦ absurd (let nothing : first_integrity others ≡ None = ap first_integrity (sym none.1) in cc (past.1, nothing))
            | inr some ↦ first_integrity-ends_after (padded_len (u16_of a2 a3)) (place + 4) rest c limit (omega arith) (ap first_integrity some.1 ∙ past.1)
          ]
    ]

-- the first integrity is within the body
pub first_integrity-ends : (body : List ℕ) (c : Tlv) → first_integrity (tlvs_of body) ≡ Some c → EndsBy (length body) c
first_integrity-ends body c e = first_integrity-ends_after 0 0 body c (length body) (omega arith) e

-- Lists of bytes are equal as far as no bit differs.
use lib.Bits.{xor_add_and, xor_self}
use Rattle.is_stun.proofs.Common.{◌+◌, ◌<◌, ◌↔◌, ◌∙◌, ◌≡◌, and_le_l, and_le_r, ap, arith, bit_or, bit_xor, get_or, get_or-take, le_or_l}
use Rattle.is_stun.proofs.Common.{le_or_r, length, List, refl, sym, take, take-take, take_more, ℕ}

no-difference : (a b : ℕ) → bit_xor a b ≡ 0 → a ≡ b
no-difference a b none = omega (arith, none, xor_add_and a b, and_le_l a b, and_le_r a b)

pub one_more_byte : (d : ℕ) (xs ys : List ℕ) (i : ℕ) → i < length xs → i < length ys → (d ≡ 0) ↔ (take i xs ≡ take i ys)
    → (bit_or d (bit_xor (get_or xs i 0) (get_or ys i 0)) ≡ 0) ↔ (take (i + 1) xs ≡ take (i + 1) ys)
one_more_byte d xs ys i in-xs in-ys so-far = (
  λ none.
      rw (
        take_more xs i 0 in-xs,
        take_more ys i 0 in-ys,
        so-far.0 (omega (arith, none, le_or_l d (bit_xor (get_or xs i 0) (get_or ys i 0)))),
        no-difference (get_or xs i 0) (get_or ys i 0) (omega (arith, none, le_or_r d (bit_xor (get_or xs i 0) (get_or ys i 0)))),
      ) refl,
  λ same.
      rw (so-far.1 (earlier same), last same, xor_self (get_or ys i 0)) refl,
)
  where
    earlier : take (i + 1) xs ≡ take (i + 1) ys → take i xs ≡ take i ys
    earlier same = sym (take-take i (i + 1) xs (omega arith)) ∙ ap (take i) same ∙ take-take i (i + 1) ys (omega arith)

    last : take (i + 1) xs ≡ take (i + 1) ys → get_or xs i 0 ≡ get_or ys i 0
    last same =
        sym (get_or-take (i + 1) xs i 0 (omega arith)) ∙ ap (λ zs. get_or zs i 0) same ∙ get_or-take (i + 1) ys i 0 (omega arith)

-- A range of indices is its first index and the others, or its last and those before it.
use Rattle.std.proofs.Common.{◌≡◌, ℕ, ◌+◌, ◌-◌, ◌<◌, [], ◌∷◌, ◌++◌, refl, zero, suc, ap, arith, zero-add, add-zero, suc-add}
use Rattle.std.specs.List.{range_with_len}

-- one more
pub range-more : (a n : ℕ) → range_with_len a (n + 1) ≡ range_with_len a n ++ (a + n) ∷ []
range-more a zero = rw add-zero refl
range-more a (suc n) =
    let next : a + suc n ≡ a + 1 + n = omega arith in
    rw (suc-add, next) (ap (λ xs. a ∷ xs) (range-more (a + 1) n))

-- one more index
pub places-more : (n : ℕ) → range_with_len 0 (n + 1) ≡ range_with_len 0 n ++ n ∷ []
places-more n = rw zero-add at (range-more 0 n)

-- the first of the remaining indices
pub places-from : (l n : ℕ) → l < n → range_with_len l (n - l) ≡ (l ∷ []) ++ range_with_len (l + 1) (n - (l + 1))
places-from l n within =
    let next : n - l ≡ suc (n - (l + 1)) = omega (arith, within) in
    rw next refl

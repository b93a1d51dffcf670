-- A request as the agent takes it, and the number that its pair keeps.
use Rattle.is_theorems.proofs.Common.{◌<◌, ◌==◌, ◌||◌, ◌∙◌, ◌≡◌, ap, arith, as_taken, Bool, eqb-true, false, is_some, nat_tests, None, not}
use Rattle.is_theorems.proofs.Common.{numbered, numbered_by_peer, Option, option_map_or, PairRecord, refl, RequestRecord, Some, suc, true}
use Rattle.is_theorems.proofs.Common.{zero, ℕ}

pub taken-time : (numbers : Bool) (q : RequestRecord) → (as_taken numbers q).time ≡ q.time
taken-time true q = refl
taken-time false q = refl

-- a controlling agent keeps no number
pub unnumbered-pair : (o : Option ℕ) (p : PairRecord) → numbered_by_peer true o p ≡ p
unnumbered-pair None p = refl
unnumbered-pair (Some n) p = refl

-- the pair, or the same pair with a greater number
pub numbered-by : (Holds : PairRecord → Type 0) (controlling : Bool) (o : Option ℕ) (p : PairRecord)
    → Holds p → ((n : ℕ) → Holds (numbered n p)) → Holds (numbered_by_peer controlling o p)
numbered-by Holds controlling None p plain with_number = plain
numbered-by Holds true (Some n) p plain with_number = plain
numbered-by Holds false (Some n) p plain with_number = with_number n

-- a request that nominates as the agent takes it has USE-CANDIDATE or NOMINATION
pub taken-asks : (numbers : Bool) (q : RequestRecord) → (as_taken numbers q).use_candidate ≡ true → (q.use_candidate || is_some q.nomination) ≡ true
taken-asks false q is = ap (λ b. b || is_some q.nomination) is
taken-asks true q is = from q.nomination q.use_candidate is where
  from : (o : Option ℕ) (uses : Bool) → option_map_or (λ n. not (n == 0)) o uses ≡ true → (uses || is_some o) ≡ true
  from None true is = refl
  from None false is = is
  from (Some n) true is = refl
  from (Some n) false is = refl

-- one with a number above 0 does
pub uses-taken : (numbers : Bool) (q : RequestRecord) (n : ℕ) → (as_taken numbers q).nomination ≡ Some n → 0 < n → (as_taken numbers q).use_candidate ≡ true
uses-taken false q n is pos = let no : None ≡ Some n = is in absurd (cc)
uses-taken true q n is pos = ap (λ o. option_map_or (λ k. not (k == 0)) o q.use_candidate) is ∙ by (n == 0) refl where
  by : (b : Bool) → (n == 0) ≡ b → not (n == 0) ≡ true
  by true same = let zero_is : n ≡ 0 = eqb-true n 0 same in absurd (let none : ⊥ = omega (arith, pos, zero_is) in none)
  by false other = ap not other

-- one with USE-CANDIDATE does, unless its number is 0
pub asks-taken : (numbers : Bool) (q : RequestRecord) → q.use_candidate ≡ true → (q.nomination ≡ Some 0 → ⊥) → (as_taken numbers q).use_candidate ≡ true
asks-taken false q uses apart = uses
asks-taken true q uses apart = from q.nomination refl where
  some : (n : ℕ) → not (suc n == 0) ≡ true
  some n = grind (arith, nat_tests)

  from : (o : Option ℕ) → q.nomination ≡ o → option_map_or (λ n. not (n == 0)) o q.use_candidate ≡ true
  from None is = uses
  from (Some zero) is = absurd (apart is)
  from (Some (suc n)) is = some n

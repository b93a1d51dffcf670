-- Numbers of JSON that are whole ones of 64 bits.
use Rattle.is_candidate.proofs.Common.{◌<◌, ◌^◌, ◌≡◌, digits_of, get_or, is_integer, is_some, IsInteger, IsTrue, List, lt-ltb, ne_eqb, None}
use Rattle.is_candidate.proofs.Common.{number_of, Option, Parts, scan, Some, SomeIff, true, unsigned, ℕ}

integer : (p : Parts) → IsInteger p → is_integer p ≡ true
integer p h = rw (lt-ltb _ _ h.0, h.1, h.2)

-- only digits, with no sign, that 64 bits hold
pub unsigned_number : (s : List ℕ) → (get_or s 0 0 ≡ 45 → ⊥) → IsInteger (scan s) → digits_of (scan s) < 2 ^ 64 → number_of s ≡ Some (unsigned (digits_of (scan s)))
unfolding number_of
unsigned_number s sign whole fits = rw (ne_eqb (get_or s 0 0) 45 sign, integer (scan s) whole, lt-ltb _ _ fits)

pub where_some : {T : Type 0} {P : Type 0} (r : Option T) (v : T) → SomeIff r P v → IsTrue (is_some r) → P
where_some None v h never = absurd (cc)
where_some (Some x) v h some = h.0

-- How many rounds give a turn to a kind, while kinds take turns, and how many of these delay a pair.
use Rattle.is_theorems.proofs.Common.{◌*◌, ◌+◌, ◌<◌, ◌≡◌, ◌≤◌, arith, Bool, false, nat_le, nat_tests, one_if, refl, subst, suc, sym, true}
use Rattle.is_theorems.proofs.Common.{zero, ℕ}

-- After so many rounds a of them gave a turn to a kind, and c of these delayed the pair. Of k kinds, w have their turn before its kind.
pub record Progress (rounds k w : ℕ) (turn : Bool) (a c : ℕ) : Type 0 where
  pub halves : rounds ≤ 2 * a + one_if turn
  pub turns : a + w + 1 ≤ k * c + k

pub progress-none : (k w : ℕ) (turn : Bool) → w + 1 ≤ k → Progress 0 k w turn 0 0
progress-none k w turn most = record {
  halves = by turn;
  turns = omega (arith, most);
} where
  by : (b : Bool) → 0 ≤ 2 * 0 + one_if b
  by true = omega arith
  by false = omega arith

-- a round whose check is of the pair that is due first
pub progress-first : (rounds k w v a c : ℕ) (turn next : Bool) → Progress rounds k w turn a c → turn ≡ false → next ≡ true → v ≡ w → Progress (suc rounds) k v next a c
progress-first rounds k w v a c turn next p off on same = record {
  halves = (let h = subst (λ b. rounds ≤ 2 * a + one_if b) off p.halves in subst (λ b. suc rounds ≤ 2 * a + one_if b) (sym on) (omega (arith, h)));
  turns = (let t = p.turns in omega (arith, t, same));
}

halved : (rounds a : ℕ) (turn next : Bool) → rounds ≤ 2 * a + one_if turn → turn ≡ true → next ≡ false → suc rounds ≤ 2 * suc a + one_if next
halved rounds a turn next halves on off =
    let h = subst (λ b. rounds ≤ 2 * a + one_if b) on halves in subst (λ b. suc rounds ≤ 2 * suc a + one_if b) (sym off) (omega (arith, h))

-- one whose check is in the turn of another kind
pub progress-other : (rounds k w v a c : ℕ) (turn next : Bool) → Progress rounds k w turn a c → turn ≡ true → next ≡ false → v + 1 ≤ w → Progress (suc rounds) k v next (suc a) c
progress-other rounds k w v a c turn next p on off fewer = record {
  halves = halved rounds a turn next p.halves on off;
  turns = (let t = p.turns in omega (arith, t, fewer));
}

next-delay : (k c : ℕ) → k * suc c ≡ k * c + k
next-delay k c = omega arith

-- one that delays the pair
pub progress-delay : (rounds k w v a c : ℕ) (turn next : Bool) → Progress rounds k w turn a c → turn ≡ true → next ≡ false → v + 1 ≤ k → Progress (suc rounds) k v next (suc a) (suc c)
progress-delay rounds k w v a c turn next p on off most = record {
  halves = halved rounds a turn next p.halves on off;
  turns = subst (λ y. suc a + v + 1 ≤ y + k) (sym (next-delay k c)) (sums (k * c) p.turns most);
} where
  sums : (x : ℕ) → a + w + 1 ≤ x + k → v + 1 ≤ k → suc a + v + 1 ≤ (x + k) + k
  sums x t most = omega (arith, t, most)

times-le : (k a b : ℕ) → a ≤ b → k * a ≤ k * b
times-le k zero b le = omega arith
times-le k (suc a) zero le = absurd (none le) where
  none : suc a ≤ 0 → ⊥
  none h = omega (arith, h)
times-le k (suc a) (suc b) le = let i : k * a ≤ k * b = times-le k a b (omega (arith, le)) in omega (arith, i)

le-from : (n m : ℕ) → nat_le n m ≡ true → n ≤ m
le-from n m h = grind (arith, nat_tests, h)

le-fails : (n m : ℕ) → nat_le n m ≡ false → m < n
le-fails n m h = grind (arith, nat_tests, h)

one-at-most : (b : Bool) → one_if b ≤ 1
one-at-most true = omega arith
one-at-most false = omega arith

-- in 2 * k * m rounds m delay it
pub enough-delays : (rounds k w a c m : ℕ) (turn : Bool) → Progress rounds k w turn a c → 2 * (k * m) ≤ rounds → m ≤ c
enough-delays rounds k w a c m turn p enough = by (nat_le m c) refl where
  none : (x y : ℕ) → x + k ≤ y → 2 * y ≤ rounds → rounds ≤ 2 * a + one_if turn → one_if turn ≤ 1 → a + w + 1 ≤ x + k → ⊥
  none x y more enough halves one turns = omega (arith, more, enough, halves, one, turns)

  by : (b : Bool) → nat_le m c ≡ b → m ≤ c
  by true is = le-from m c is
  by false is =
      let over = le-fails m c is in
      absurd (none (k * c) (k * m) (subst (λ z. z ≤ k * m) (next-delay k c) (times-le k (suc c) m (omega (arith, over)))) enough p.halves (one-at-most turn) p.turns)

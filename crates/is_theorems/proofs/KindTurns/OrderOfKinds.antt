-- How many kinds have their turn before one: fewer after each check of another kind, and at most all others.
use Rattle.is_theorems.proofs.Common.{[], ◌&&◌, ◌+◌, ◌<◌, ◌∷◌, ◌≡◌, ◌≤◌, ◌⊎◌, arith, Bool, CandidateKind, CandidateRecord}
use Rattle.is_theorems.proofs.Common.{counted_kind, false, Has, Host, if◌then◌else◌, inl, INNER, inr, is_inner, is_v4, kind_between, kind_rank, KINDS}
use Rattle.is_theorems.proofs.Common.{length, List, nat_le, nat_lt, nat_tests, one_if, PeerReflexive, reach_of, refl, Relayed, remote_rank}
use Rattle.is_theorems.proofs.Common.{ServerReflexive, SocketAddr, subst, sym, true, turn_of, version_rank, ℕ}

le-from : (n m : ℕ) → nat_le n m ≡ true → n ≤ m
le-from n m h = grind (arith, nat_tests, h)

le-fails : (n m : ℕ) → nat_le n m ≡ false → m < n
le-fails n m h = grind (arith, nat_tests, h)

lt-from : (n m : ℕ) → nat_lt n m ≡ true → n < m
lt-from n m h = grind (arith, nat_tests, h)

lt-is : (n m : ℕ) → n < m → nat_lt n m ≡ true
lt-is n m h = grind (arith, nat_tests, h)

lt-not : (n m : ℕ) → m ≤ n → nat_lt n m ≡ false
lt-not n m h = grind (arith, nat_tests, h)

-- ---- kinds

rank-most : (k : CandidateKind) → kind_rank k ≤ 3
rank-most PeerReflexive = omega arith
rank-most ServerReflexive = omega arith
rank-most Relayed = omega arith
rank-most Host = omega arith

version-most : (a : SocketAddr) → version_rank a ≤ 1
version-most a = by (is_v4 a) where
  by : (b : Bool) → (if b then 1 else 0) ≤ 1
  by true = omega arith
  by false = omega arith

pub kind-within : (local : List CandidateRecord) (l r : CandidateRecord) → kind_between local l r < KINDS
kind-within local l r = by (is_inner (reach_of local l) l r) where
  by : (inner : Bool) → (if inner then INNER else remote_rank r) < KINDS
  by true = omega arith
  by false = let rank = rank-most (counted_kind r) in let version = version-most r.addr in omega (arith, rank, version)

-- ---- turns

-- of two turns, what the kinds are
abbrev TurnCase : ℕ → ℕ → ℕ → Type 0
TurnCase next kind turn = ((next ≤ kind) × (turn ≡ kind)) ⊎ ((kind < next) × (turn ≡ kind + KINDS))

turn-case : (next kind : ℕ) → TurnCase next kind (turn_of next kind)
turn-case next kind = by (nat_le next kind) refl where
  by : (b : Bool) → nat_le next kind ≡ b → TurnCase next kind (if b then kind else kind + KINDS)
  by true is = inl (le-from next kind is, refl)
  by false is = inr (le-fails next kind is, refl)

-- two kinds with the same turn are one
pub same-kind : (next i j : ℕ) → i < KINDS → j < KINDS → turn_of next i ≡ turn_of next j → i ≡ j
same-kind next i j i_in j_in same = by (turn_of next i) (turn_of next j) (turn-case next i) (turn-case next j) i_in j_in same where
  by : (x y : ℕ) → TurnCase next i x → TurnCase next j y → i < KINDS → j < KINDS → x ≡ y → i ≡ j
  by x y (inl a) (inl b) i_in j_in same = let c = a.1 in let d = b.1 in omega (arith, c, d, same)
  by x y (inl a) (inr b) i_in j_in same = let c = a.1 in let d = b.1 in omega (arith, c, d, same, i_in)
  by x y (inr a) (inl b) i_in j_in same = let c = a.1 in let d = b.1 in omega (arith, c, d, same, j_in)
  by x y (inr a) (inr b) i_in j_in same = let c = a.1 in let d = b.1 in omega (arith, c, d, same)

-- a kind whose turn is before one after the check of another kind, whose turn was before it, was before it
still-before : (next i j x : ℕ) → i < KINDS → x < KINDS → turn_of next j < turn_of next i → turn_of (j + 1) x < turn_of (j + 1) i → turn_of next x < turn_of next i
still-before next i j x i_in x_in led leads =
    by (turn_of next j) (turn_of next i) (turn_of (j + 1) x) (turn_of (j + 1) i) (turn_of next x) (turn-case next j) (turn-case next i) (turn-case (j + 1) x)
    (turn-case (j + 1) i) (turn-case next x) i_in x_in led leads where
      by : (a b c d e : ℕ) → TurnCase next j a → TurnCase next i b → TurnCase (j + 1) x c → TurnCase (j + 1) i d → TurnCase next x e → i < KINDS → x < KINDS → a < b → c < d → e < b
      by a b c d e ja ib xc id xe i_in x_in led leads = grind (arith, ja, ib, xc, id, xe, i_in, x_in, led, leads)

-- the kind that was checked comes after it then
checked-after : (next i j : ℕ) → i < KINDS → turn_of next j < turn_of next i → turn_of (j + 1) i ≤ turn_of (j + 1) j
checked-after next i j i_in led =
    by (turn_of next j) (turn_of next i) (turn_of (j + 1) j) (turn_of (j + 1) i) (turn-case next j) (turn-case next i) (turn-case (j + 1) j) (turn-case (j + 1) i) i_in led where
      by : (a b c d : ℕ) → TurnCase next j a → TurnCase next i b → TurnCase (j + 1) j c → TurnCase (j + 1) i d → i < KINDS → a < b → d ≤ c
      by a b c d ja ib jc id i_in led = grind (arith, ja, ib, jc, id, i_in, led)

-- ---- how many come before

abbrev is_before : ℕ → ℕ → ℕ → Bool
is_before next i x = nat_lt x KINDS && nat_lt (turn_of next x) (turn_of next i)

abbrev count : (ℕ → Bool) → List ℕ → ℕ
count f [] = 0
count f (x ∷ xs) = one_if (f x) + count f xs

-- of these kinds
abbrev pub kinds_before : ℕ → ℕ → List ℕ → ℕ
kinds_before next i kinds = count (is_before next i) kinds

one-le : (a b : Bool) → (a ≡ true → b ≡ true) → one_if a ≤ one_if b
one-le true b h = subst (λ c. 1 ≤ one_if c) (sym (h refl)) (omega arith)
one-le false b h = omega arith

count-le : (f g : ℕ → Bool) (xs : List ℕ) → ((x : ℕ) → f x ≡ true → g x ≡ true) → count f xs ≤ count g xs
count-le f g [] h = omega arith
count-le f g (x ∷ xs) h = let a = one-le (f x) (g x) (h x) in let b = count-le f g xs h in sums (one_if (f x)) (one_if (g x)) (count f xs) (count g xs) a b where
  sums : (a b c d : ℕ) → a ≤ b → c ≤ d → a + c ≤ b + d
  sums a b c d h k = omega (arith, h, k)

count-less : (f g : ℕ → Bool) (xs : List ℕ) (x : ℕ) → ((y : ℕ) → f y ≡ true → g y ≡ true) → Has xs x → f x ≡ false → g x ≡ true → count f xs + 1 ≤ count g xs
count-less f g [] x h has off on = absurd has
count-less f g (y ∷ ys) x h (inl e) off on =
    subst (λ z. one_if (f z) + count f ys + 1 ≤ one_if (g z) + count g ys) (sym e)
    (subst (λ b. one_if b + count f ys + 1 ≤ one_if (g x) + count g ys) (sym off)
    (subst (λ b. 0 + count f ys + 1 ≤ one_if b + count g ys) (sym on) (sums (count f ys) (count g ys) (count-le f g ys h)))) where
      sums : (a b : ℕ) → a ≤ b → 0 + a + 1 ≤ 1 + b
      sums a b k = omega (arith, k)
count-less f g (y ∷ ys) x h (inr has) off on =
    sums (one_if (f y)) (one_if (g y)) (count f ys) (count g ys) (one-le (f y) (g y) (h y)) (count-less f g ys x h has off on) where
      sums : (a b c d : ℕ) → a ≤ b → c + 1 ≤ d → a + c + 1 ≤ b + d
      sums a b c d h k = omega (arith, h, k)

count-true : (xs : List ℕ) → count (λ x. true) xs ≡ length xs
count-true [] = refl
count-true (x ∷ xs) = let k : count (λ x. true) xs ≡ length xs = count-true xs in omega (arith, k)

both-hold : (a b : Bool) → (a && b) ≡ true → (a ≡ true) × (b ≡ true)
both-hold true b h = (refl, h)
both-hold false b h = absurd (cc)

and-is : (a b : Bool) → a ≡ true → b ≡ true → (a && b) ≡ true
and-is true b h k = k
and-is false b h k = absurd (cc)

and-not : (a b : Bool) → b ≡ false → (a && b) ≡ false
and-not true b k = k
and-not false b k = refl

-- All others at most.
pub others-before : (next i : ℕ) (kinds : List ℕ) → Has kinds i → kinds_before next i kinds + 1 ≤ length kinds
others-before next i kinds has =
    subst (λ n. kinds_before next i kinds + 1 ≤ n) (count-true kinds)
    (count-less (is_before next i) (λ x. true) kinds i (λ y h. refl) has (and-not (nat_lt i KINDS) (nat_lt (turn_of next i) (turn_of next i)) (lt-not (turn_of next i) (turn_of next i) (omega arith))) refl)

-- One fewer after the check of a kind whose turn was before.
pub fewer-before : (next i j : ℕ) (kinds : List ℕ) → i < KINDS → j < KINDS → Has kinds j → turn_of next j < turn_of next i → kinds_before (j + 1) i kinds + 1 ≤ kinds_before next i kinds
fewer-before next i j kinds i_in j_in has led =
    count-less (is_before (j + 1) i) (is_before next i) kinds j
    (λ x h. (let k = both-hold (nat_lt x KINDS) (nat_lt (turn_of (j + 1) x) (turn_of (j + 1) i)) h in
    and-is (nat_lt x KINDS) (nat_lt (turn_of next x) (turn_of next i)) k.0
    (lt-is (turn_of next x) (turn_of next i) (still-before next i j x i_in (lt-from x KINDS k.0) led (lt-from (turn_of (j + 1) x) (turn_of (j + 1) i) k.1)))))
    has (and-not (nat_lt j KINDS) (nat_lt (turn_of (j + 1) j) (turn_of (j + 1) i)) (lt-not (turn_of (j + 1) j) (turn_of (j + 1) i) (checked-after next i j i_in led)))
    (and-is (nat_lt j KINDS) (nat_lt (turn_of next j) (turn_of next i)) (lt-is j KINDS j_in) (lt-is (turn_of next j) (turn_of next i) led))

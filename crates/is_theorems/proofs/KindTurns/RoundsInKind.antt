-- Of the pairs of a kind each delays another one at most once: in rounds in which kinds take turns and urgent pairs go first, a pair that is due
-- is checked, or urgent pairs delay it.
use Rattle.is_theorems.proofs.Common.{[], ◌&&◌, ◌+◌, ◌-◌, ◌<◌, ◌==◌, ◌||◌, ◌∷◌, ◌≡◌, ◌≤◌, AllBelow, ap, AreRising, arith, below-each, Bool}
use Rattle.is_theorems.proofs.Common.{CandidateRecord, entries_of, eq-eqb, eqb-true, false, Has, has-any, if◌then◌else◌, inl, inr, IsHeldUp}
use Rattle.is_theorems.proofs.Common.{IsSound, kind_in, length, List, list_any, nat_lt, nat_tests, not, OfTimeoutsIn, one_if, PairRecord}
use Rattle.is_theorems.proofs.Common.{PairsAreReachedInKind, refl, rising-each, subst, suc, sym, TakesTurnsAmong, true, ℕ}
use Rattle.is_theorems.proofs.CallEffects.PathAndTradeEffects.{path_theorem}
use Rattle.is_theorems.proofs.EarlierChecks.ChecksOfOtherPairs.{lead, leads, own, weight-two, is_early, Measure}
use Rattle.is_theorems.proofs.ExecutionLogs.LogTheorems.{runs_sound}
use Rattle.is_theorems.proofs.KindTurns.CountedTurns.{enough-delays}
use Rattle.is_theorems.proofs.KindTurns.OrderOfKinds.{kinds_before}
use Rattle.is_theorems.proofs.KindTurns.RoundsByKind.{reached-or-went}
use Rattle.is_theorems.proofs.KindTurns.SegmentsInTurn.{fewer-counted, has-path-or, in-turn, InTurn}

-- ---- the other pairs of the kind

-- the number is one of these
abbrev is_one_of : List ℕ → ℕ → Bool
is_one_of others k = list_any (λ r. r == k) others

-- Those with these numbers count, and all that are formed later, if they are not nominated.
abbrev others-of : List ℕ → ℕ → ℕ → Measure
others-of others next number = record { skips = λ k. (k == number) || (nat_lt k next && not (is_one_of others k)); both = false }

counts-other : (others : List ℕ) (next number k : ℕ) → (k ≡ number → ⊥) → (k < next → Has others k) → ((k == number) || (nat_lt k next && not (is_one_of others k))) ≡ false
counts-other others next number k apart listed = by (k == number) (nat_lt k next) refl refl where
  less-than : nat_lt k next ≡ true → k < next
  less-than h = grind (arith, nat_tests, h)

  by : (a b : Bool) → (k == number) ≡ a → nat_lt k next ≡ b → (a || (b && not (is_one_of others k))) ≡ false
  by true b same less = absurd (apart (eqb-true k number same))
  by false false same less = refl
  by false true same less = ap not (has-any (λ r. r == k) others k (listed (less-than less)) (eq-eqb k k refl))

-- ---- each counts once

-- how many of the numbers are below
abbrev below : List ℕ → ℕ → ℕ
below [] k = 0
below (r ∷ rs) k = one_if (nat_lt r k) + below rs k

below-all : (rs : List ℕ) (k : ℕ) → below rs k ≤ length rs
below-all [] k = omega arith
below-all (r ∷ rs) k = one (nat_lt r k) (below-all rs k) where
  one : (b : Bool) → below rs k ≤ length rs → one_if b + below rs k ≤ suc (length rs)
  one true le = omega (arith, le)
  one false le = omega (arith, le)

lt-is : (n m : ℕ) → n < m → nat_lt n m ≡ true
lt-is n m h = grind (arith, nat_tests, h)

lt-from : (n m : ℕ) → nat_lt n m ≡ true → n < m
lt-from n m h = grind (arith, nat_tests, h)

below-step : (rs : List ℕ) (lo k : ℕ) → lo ≤ k → below rs lo + one_if (is_one_of rs k) ≤ below rs (suc k)
below-step [] lo k le = omega arith
below-step (r ∷ rs) lo k le = by (r == k) (nat_lt r lo) refl refl (below-step rs lo k le) where
  later : r < lo → nat_lt r (suc k) ≡ true
  later less = lt-is r (suc k) (omega (arith, less, le))

  here : r ≡ k → nat_lt r (suc k) ≡ true
  here same = lt-is r (suc k) (omega (arith, same))

  one-most : (b : Bool) → one_if b ≤ 1
  one-most true = omega arith
  one-most false = omega arith

  by : (a b : Bool) → (r == k) ≡ a → nat_lt r lo ≡ b → below rs lo + one_if (is_one_of rs k) ≤ below rs (suc k)
      → (one_if b + below rs lo) + one_if (a || is_one_of rs k) ≤ one_if (nat_lt r (suc k)) + below rs (suc k)
  by true true same less h = absurd (no-both (lt-from r lo less) (eqb-true r k same)) where
    no-both : r < lo → r ≡ k → ⊥
    no-both x y = omega (arith, x, y, le)
  by true false same less h =
      subst (λ c. (0 + below rs lo) + 1 ≤ one_if c + below rs (suc k)) (sym (here (eqb-true r k same))) (omega (arith, h))
  by false true same less h = subst (λ c. (1 + below rs lo) + one_if (is_one_of rs k) ≤ one_if c + below rs (suc k)) (sym (later (lt-from r lo less))) (omega (arith, h))
  by false false same less h = let most : 0 ≤ one_if (nat_lt r (suc k)) = omega arith in omega (arith, h, most)

once : (others : List ℕ) (next number : ℕ) (by : ℕ) (x : PairRecord) → x.number < next → own (others-of others next number) by x ≤ one_if (is_one_of others x.number)
once others next number by x less = from (x.number == number) (nat_lt x.number next) (is_one_of others x.number) (lt-is x.number next less) (weight-two false x.nomination (is_early by x.due x.checks)) where
  from : (a b c : Bool) → b ≡ true → lead false by x ≤ 1 → (if a || (b && not c) then 0 else lead false by x) ≤ one_if c
  from true b c is most = omega arith
  from false true true is most = omega (arith, most)
  from false true false is most = omega arith
  from false false c is most = absurd (let no : false ≡ true = is in cc)

each-once : (others : List ℕ) (next number by lo : ℕ) (xs : List PairRecord) → AreRising xs → AllBelow next xs → ((q : PairRecord) → Has xs q → lo ≤ q.number)
    → leads (others-of others next number) by xs + below others lo ≤ length others
each-once others next number by lo [] rising under from = let most = below-all others lo in omega (arith, most)
each-once others next number by lo (x ∷ xs) rising under from =
    let rest : leads (others-of others next number) by xs + below others (suc x.number) ≤ length others =
    each-once others next number by (suc x.number) xs rising.1 (λ q has. under q (inr has)) (λ q has. (let less = rising.0 q has in omega (arith, less))) in
    let step = below-step others lo x.number (from x (inl refl)) in
    let mine = once others next number by x (under x (inl refl)) in
    omega (arith, rest, step, mine)

module _ {H P : Type 0} (mac : H → List ℕ → List ℕ → List ℕ) (answers : P → CandidateRecord → ℕ → ℕ → Type 0) where
  pub pairs-are-reached-in-kind : PairsAreReachedInKind {H = H} {P = P} mac answers
  pairs-are-reached-in-kind first s log fresh before start last rounds p by m kinds others found wait takes enough =
      elim (has-path-or mac answers (TakesTurnsAmong others start.next_number kinds (kind_in start p) p.number) (InTurn (others-of others start.next_number p.number) kinds (kind_in start p) p.number)
      (λ old new off none t. in-turn (others-of others start.next_number p.number) kinds (kind_in start p) p.number old new
      (λ q has same apart. counts-other others start.next_number p.number q.number apart (λ less. search (t.among q has same apart less))) (inr (search (t.urgent))) off none (search (t.turns)))
      before start last found.at found.following (entries_of rounds) found.run takes) [
        | inl path ↦ inr (inr (inr (inl path)))
        | inr turns ↦ elim (reached-or-went mac answers first s log fresh before start last rounds p by found wait (others-of others start.next_number p.number) kinds turns) [
          | inl checks ↦ inl checks
          | inr (inl answered) ↦ inr (inl answered)
          | inr (inr (inl ended)) ↦ inr (inr (inl ended))
          | inr (inr (inr (a, held, own_kind, went, delayed, up, left))) ↦
              (let most : length others + m ≤ held + own_kind =
              enough-delays (length rounds) (length kinds) (kinds_before last.next_kind (kind_in start p) kinds) a (held + own_kind) (length others + m) last.ahead_turn went (omega (arith, enough)) in
              let few : own_kind ≤ length others = few-own own_kind left in
              inr (inr (inr (inr (fewer-counted mac answers (λ now. IsHeldUp p.number now) (held - m) m before start last found.at found.following (entries_of rounds) found.run
              (subst (λ i. OfTimeoutsIn mac answers (λ now. IsHeldUp p.number now) i before start found.at (entries_of rounds) last found.following found.run) (rest held (omega (arith, most, few))) up))))))
        ]
      ] where
        sound : IsSound start
        sound = runs_sound mac answers (path_theorem mac answers) first start s found.at before fresh found.led

        few-own : (c : ℕ) → c + leads (others-of others start.next_number p.number) by last.pairs + 0 ≤ leads (others-of others start.next_number p.number) by start.pairs + 0 → c ≤ length others
        few-own c left =
            let most : leads (others-of others start.next_number p.number) by start.pairs + below others 0 ≤ length others =
            each-once others start.next_number p.number by 0 start.pairs (rising-each start.pairs sound.rising) (below-each start.next_number start.pairs sound.below) (λ q has. omega arith) in
            omega (arith, left, most)

        rest : (c : ℕ) → m ≤ c → c ≡ c - m + m
        rest c le = omega (arith, le)

-- Forming pairs leaves a pair as it is, unless a new pair may replace it or there may be too many pairs.
use Rattle.is_rules.specs.Evicting.{kind_count, EvictsOfMost, EvictsOfMostInTurn, IsLeastOfMost}
use Rattle.is_theorems.proofs.Common.{[], ◌&&◌, ◌*◌, ◌++◌, ◌+◌, ◌<◌, ◌==◌, ◌||◌, ◌∙◌, ◌∷◌, ◌≡◌, ◌≤◌, ◌⊎◌, AddsLocal, AddsRemote}
use Rattle.is_theorems.proofs.Common.{AgentRecord, AllBelow, ap, appended, AreRising, arith, as_own, as_remote, below-each, Bool}
use Rattle.is_theorems.proofs.Common.{candidate_at, candidate_priority, CandidateRecord, Combination, combined_priority, combines_with}
use Rattle.is_theorems.proofs.Common.{comes_again, count-agree, count-all, count-filter, count-head, count-push, count_by, Each, enabled}
use Rattle.is_theorems.proofs.Common.{enabled_again, EnrolsAt, EntersAgain, EntersNew, eqb-true, Err, Evicts, EvictsFor, EvictsInTurn}
use Rattle.is_theorems.proofs.Common.{false, few, filter, Formed, formed_of, FormsAll, Has, IceError, if◌then◌else◌, inl, inr, is_ignored}
use Rattle.is_theorems.proofs.Common.{is_local_at, is_modern, is_numbered, is_placeholder, is_replaced_by, is_rival, is_same_place}
use Rattle.is_theorems.proofs.Common.{is_too_high, is_unwanted, IsNotAdded, IsSound, kind_of, KINDS, length, List, list_any}
use Rattle.is_theorems.proofs.Common.{local_combinations, local_discarded, MatchBool, MayBeRemoved, MayEndByAppending, MayEndByEnrolling}
use Rattle.is_theorems.proofs.Common.{MayEndByLocal, MayEndByRemote, most_pairs, nat_le, nat_lt, nat_tests, None, not, Ok, one_if, Option}
use Rattle.is_theorems.proofs.Common.{pair_of, PairRecord, place_or_end, position, preferred, PriorityTooHigh, ranks_with, refl}
use Rattle.is_theorems.proofs.Common.{remote_combinations, rising-each, sides_of, SidesRecord, Some, subst, sym, taking_over, Tries, true}
use Rattle.is_theorems.proofs.Common.{with_remote, without, ℕ}
use Rattle.is_theorems.proofs.RuleEffects.UnchangedSettings.{either}
use Rattle.is_theorems.proofs.RuleEffects.EarlierAndNewPairs.{Has-filter, Has-push, rising-filter, rising-push}
use Rattle.is_rules.proofs.PairLists.PairKinds.{kind-below}
use Rattle.is_theorems.proofs.RuleEffects.SelectedPaths.{one_pair}
use Rattle.is_theorems.proofs.DuePairs.AfterNominationAndRemoval.{Has-kept}

-- ---- lists

has-front : {X : Type 0} (xs ys : List X) (x : X) → Has xs x → Has (xs ++ ys) x
has-front [] ys x has = absurd has
has-front (y ∷ xs) ys x (inl e) = inl e
has-front (y ∷ xs) ys x (inr has) = inr (has-front xs ys x has)

most-fewer : (b : Bool) (less more : ℕ) → less ≤ more → (if b then KINDS * less else less) ≤ (if b then KINDS * more else more)
most-fewer true less more le = omega (arith, le)
most-fewer false less more le = le

push-length : {X : Type 0} (xs : List X) (x : X) → length (xs ++ x ∷ []) ≡ length xs + 1
push-length [] x = refl
push-length (y ∷ ys) x = omega (arith, push-length ys x)

kept-length : {X : Type 0} (keep : X → Bool) (xs : List X) → length (filter keep xs) ≤ length xs
kept-length keep [] = omega arith
kept-length keep (x ∷ xs) = elim (keep x) as (λ b. length (if b then x ∷ filter keep xs else filter keep xs) ≤ length (x ∷ xs)) [
  | true ↦ omega (arith, kept-length keep xs)
  | false ↦ omega (arith, kept-length keep xs)
]

any-here : {X : Type 0} (t : X → Bool) (x : X) (xs : List X) → t x ≡ true → list_any t (x ∷ xs) ≡ true
any-here t x xs is = rw (is) refl

any-later : {X : Type 0} (t : X → Bool) (x : X) (xs : List X) → list_any t xs ≡ true → list_any t (x ∷ xs) ≡ true
any-later t x xs is = elim (t x) as (λ b. (b || list_any t xs) ≡ true) [ true ↦ refl | false ↦ is ]

le-is : (n m : ℕ) → n ≤ m → nat_le n m ≡ true
le-is n m h = grind (arith, nat_tests, h)

record TakenOver (lite : Bool) (found p : PairRecord) : Type 0 where
  number : (taking_over lite found p).number ≡ p.number
  priority : (taking_over lite found p).priority ≡ p.priority
  local : (taking_over lite found p).local ≡ p.local
  remote : (taking_over lite found p).remote ≡ p.remote

taken-over : (lite : Bool) (found p : PairRecord) → TakenOver lite found p
taken-over true found p = record { number = refl; priority = refl; local = refl; remote = refl }
taken-over false found p = record { number = refl; priority = refl; local = refl; remote = refl }

no-place : {A : Type 0} (place : ℕ) → Some place ≡ None → A
no-place place h = absurd (cc)

no-error : {A R : Type 0} (x : A) (error : IceError) → Ok x ≡ Err error → R
no-error x error h = absurd (cc)

-- ---- how many pairs there are

module _ (s : SidesRecord) where
  -- each combination adds at most one
  adds : (at : Combination) (old new : Formed) → Tries s at old new → length new.pairs ≤ length old.pairs + 1
  adds at old new (None, none, made) =
      let same : length new.pairs ≡ length (old.pairs ++ pair_of s at old.next_number ∷ []) = ap (λ (f : Formed). length f.pairs) made in
      let one = push-length old.pairs (pair_of s at old.next_number) in
      omega (arith, same, one)
  adds at old new (Some found, top, made) = by (nat_lt found.priority (combined_priority s at)) made where
    after : Formed
    after = record { pairs = without (is_numbered found.number) old.pairs ++ taking_over s.lite found (pair_of s at old.next_number) ∷ []; next_number = old.next_number + 1 }

    by : (b : Bool) → new ≡ (if b then after else old) → length new.pairs ≤ length old.pairs + 1
    by true is =
        let same : length new.pairs ≡ length after.pairs = ap (λ (f : Formed). length f.pairs) is in
        let one = push-length (without (is_numbered found.number) old.pairs) (taking_over s.lite found (pair_of s at old.next_number)) in
        let fewer = kept-length (λ q. not (is_numbered found.number q)) old.pairs in
        omega (arith, same, one, fewer)
    by false is = (let same : length new.pairs ≡ length old.pairs = ap (λ (f : Formed). length f.pairs) is in omega (arith, same))

  adds-each : (all : List Combination) (old new : Formed) → Each (Tries s) all old new → length new.pairs ≤ length old.pairs + length all
  adds-each [] old new same = (let is : length new.pairs ≡ length old.pairs = ap (λ (f : Formed). length f.pairs) same in omega (arith, is))
  adds-each (at ∷ all) old new (mid, one, others) =
      (let a = adds at old mid one in let b = adds-each all mid new others in omega (arith, a, b))

  -- Within the limit none is removed.
  over-or-same : (limit : ℕ) (pairs new : List PairRecord) → EvictsFor s limit pairs new → (new ≡ pairs) ⊎ (limit < length pairs)
  over-or-same limit pairs new h = by s.modern h where
    by : (b : Bool) → MatchBool b (EvictsOfMost (kind_of s.local s.remote) limit pairs new) (Evicts limit pairs new) → (new ≡ pairs) ⊎ (limit < length pairs)
    by true ([], (within, same)) = inl same
    by true (q ∷ gone, (over, least, others)) = inr over
    by false ([], (within, same)) = inl same
    by false (q ∷ gone, (over, least, others)) = inr over

-- ---- the pair while combinations are tried

module _ (p : PairRecord) where
  record There (pairs : List PairRecord) (next_number : ℕ) : Type 0 where
    rising : AreRising pairs
    below : AllBelow next_number pairs
    has : Has pairs p

  -- a pair with the next number is added after some of the pairs
  pushed : (pairs rest : List PairRecord) (n : ℕ) (q : PairRecord) → There pairs n → ((r : PairRecord) → Has rest r → Has pairs r) → AreRising rest → Has rest p → q.number ≡ n
      → There (rest ++ q ∷ []) (n + 1)
  pushed pairs rest n q k among rising has number = record {
    rising = rising-push rest q rising (λ r there. subst (λ m. r.number < m) (sym number) (k.below r (among r there)));
    below = λ r there. below-by r (elim (Has-push rest q r there) [ inl was ↦ inl (k.below r (among r was)) | inr now ↦ inr (ap (λ (x : PairRecord). x.number) (sym now) ∙ number) ]);
    has = has-front rest (q ∷ []) p has;
  } where
    below-by : (r : PairRecord) → (r.number < n) ⊎ (r.number ≡ n) → r.number < n + 1
    below-by r (inl lt) = omega (arith, lt)
    below-by r (inr is) = omega (arith, is)

  -- some pairs are removed, and not this one
  thinned : (pairs : List PairRecord) (n : ℕ) (keep : PairRecord → Bool) → There pairs n → keep p ≡ true → There (filter keep pairs) n
  thinned pairs n keep k is = record {
    rising = rising-filter keep pairs k.rising;
    below = λ r there. k.below r (Has-filter keep pairs r there);
    has = Has-kept keep pairs p k.has is;
  }

  same-number : (pairs : List PairRecord) (n : ℕ) (q : PairRecord) → There pairs n → Has pairs q → is_numbered q.number p ≡ true → q ≡ p
  same-number pairs n q k has is = one_pair pairs q p k.rising has k.has (sym (eqb-true p.number q.number is))

  module _ (s : SidesRecord) where
    abbrev ranked : List PairRecord → ℕ
    ranked pairs = count_by (ranks_with s p) pairs

    -- after one combination
    abbrev Leaves : Combination → Formed → Formed → Type 0
    Leaves at old new = There new.pairs new.next_number × (ranked new.pairs ≤ ranked old.pairs + one_if (combines_with s p at))

    pushes : (at : Combination) (old : Formed) (rest : List PairRecord) (q : PairRecord) → There old.pairs old.next_number → ((r : PairRecord) → Has rest r → Has old.pairs r) → AreRising rest → Has rest p
        → ranked rest ≤ ranked old.pairs → q.number ≡ old.next_number → q.priority ≡ combined_priority s at → q.local ≡ at.0 → q.remote ≡ at.1 → (new : Formed)
        → new.pairs ≡ rest ++ q ∷ [] → new.next_number ≡ old.next_number + 1 → Leaves at old new
    pushes at old rest q k among rising has fewer number priority local remote new pairs_are next_is = (
      subst (λ n. There new.pairs n) (sym next_is) (subst (λ ps. There ps (old.next_number + 1)) (sym pairs_are) (pushed old.pairs rest old.next_number q k among rising has number)),
      (let count : ranked (rest ++ q ∷ []) ≡ ranked rest + one_if (ranks_with s p q) = count-push (ranks_with s p) rest q in
          let one : one_if (ranks_with s p q) ≡ one_if (combines_with s p at) = ap one_if (rw (priority, local, remote) refl) in
          let all : ranked new.pairs ≡ ranked (rest ++ q ∷ []) = ap (λ ps. ranked ps) pairs_are in
          omega (arith, count, one, all, fewer)),
    )

    tries : (at : Combination) (old new : Formed) → There old.pairs old.next_number → Tries s at old new → Leaves at old new ⊎ (is_replaced_by s p at ≡ true)
    tries at old new k (None, none, made) =
        inl (pushes at old old.pairs (pair_of s at old.next_number) k (λ r there. there) k.rising k.has (omega arith) refl refl refl refl new (ap (λ (f : Formed). f.pairs) made) (ap (λ (f : Formed). f.next_number) made))
    tries at old new k (Some found, (has, redundant, greatest), made) = by (nat_lt found.priority (combined_priority s at)) refl made where
      own : PairRecord
      own = pair_of s at old.next_number

      after : Formed
      after = record { pairs = without (is_numbered found.number) old.pairs ++ taking_over s.lite found own ∷ []; next_number = old.next_number + 1 }

      replaced : nat_lt found.priority (combined_priority s at) ≡ true → new ≡ after → (b : Bool) → is_numbered found.number p ≡ b → Leaves at old new ⊎ (is_replaced_by s p at ≡ true)
      replaced greater is true same =
          let one : found ≡ p = same-number old.pairs old.next_number found k has same in
          inr (subst (λ (x : PairRecord). is_replaced_by s x at ≡ true) one (rw (redundant) greater))
      replaced greater is false other =
          let kept = thinned old.pairs old.next_number (λ q. not (is_numbered found.number q)) k (ap not other) in
          let rest = taken-over s.lite found own in
          inl (pushes at old (without (is_numbered found.number) old.pairs) (taking_over s.lite found own) k (λ r there. Has-filter (λ q. not (is_numbered found.number q)) old.pairs r there) kept.rising kept.has
          (count-filter (ranks_with s p) (λ q. not (is_numbered found.number q)) old.pairs) rest.number rest.priority rest.local rest.remote new (ap (λ (f : Formed). f.pairs) is) (ap (λ (f : Formed). f.next_number) is))

      by : (b : Bool) → nat_lt found.priority (combined_priority s at) ≡ b → new ≡ (if b then after else old) → Leaves at old new ⊎ (is_replaced_by s p at ≡ true)
      by true greater is = replaced greater is (is_numbered found.number p) refl
      by false smaller is = inl (subst (λ (f : Formed). There f.pairs f.next_number × (ranked f.pairs ≤ ranked old.pairs + one_if (combines_with s p at))) (sym is) (k, omega arith))

    -- after all of them
    tries-each : (all : List Combination) (old new : Formed) → There old.pairs old.next_number → Each (Tries s) all old new
        → (There new.pairs new.next_number × (ranked new.pairs ≤ ranked old.pairs + count_by (combines_with s p) all)) ⊎ (list_any (is_replaced_by s p) all ≡ true)
    tries-each [] old new k same = inl (subst (λ (f : Formed). There f.pairs f.next_number × (ranked f.pairs ≤ ranked old.pairs + 0)) (sym same) (k, omega arith))
    tries-each (at ∷ all) old new k (mid, one, others) = elim (tries at old mid k one) [
      | inr gone ↦ inr (any-here (is_replaced_by s p) at all gone)
      | inl (there, count) ↦ elim (tries-each all mid new there others) [
        | inr gone ↦ inr (any-later (is_replaced_by s p) at all gone)
        | inl (still, more) ↦
            inl (
              still,
              (let head : count_by (combines_with s p) (at ∷ all) ≡ one_if (combines_with s p at) + count_by (combines_with s p) all = count-head (combines_with s p) at all in
                  omega (arith, count, more, head)),
            )
      ]
    ]

    -- ---- eviction

    -- each removal leaves the pair, or removes it because too many rank with it
    module _ (limit n : ℕ) where
      spares : (q : PairRecord) (pairs : List PairRecord) → There pairs n → Has pairs q → (is_numbered q.number p ≡ true → limit < most_pairs s (ranked pairs))
          → There (without (is_numbered q.number) pairs) n ⊎ (limit < most_pairs s (ranked pairs))
      spares q pairs k has full = by (is_numbered q.number p) refl where
        by : (b : Bool) → is_numbered q.number p ≡ b → There (without (is_numbered q.number) pairs) n ⊎ (limit < most_pairs s (ranked pairs))
        by true its = inr (full its)
        by false other = inl (thinned pairs n (λ r. not (is_numbered q.number r)) k (ap not other))

      once : (q : PairRecord) (pairs new : List PairRecord) → There (without (is_numbered q.number) pairs) n ⊎ (limit < most_pairs s (ranked pairs))
          → (There (without (is_numbered q.number) pairs) n → Has new p ⊎ (limit < most_pairs s (ranked (without (is_numbered q.number) pairs))))
          → Has new p ⊎ (limit < most_pairs s (ranked pairs))
      once q pairs new (inr full) later = inr full
      once q pairs new (inl there) later = elim (later there) [
        | inl has ↦ inl has
        | inr full ↦ inr (
            let fewer = most-fewer s.modern (ranked (without (is_numbered q.number) pairs)) (ranked pairs) (count-filter (ranks_with s p) (λ r. not (is_numbered q.number r)) pairs) in
            omega (arith, full, fewer))
      ]

      lowest : s.modern ≡ false → (gone pairs new : List PairRecord) → There pairs n → EvictsInTurn limit gone pairs new → Has new p ⊎ (limit < most_pairs s (ranked pairs))
      lowest off [] pairs new k (within, same) = inl (subst (λ ps. Has ps p) (sym same) k.has)
      lowest off (q ∷ gone) pairs new k (over, least, others) =
          once q pairs new (spares q pairs k least.0 full) (λ there. lowest off gone (without (is_numbered q.number) pairs) new there others) where
            full : is_numbered q.number p ≡ true → limit < most_pairs s (ranked pairs)
            full same =
                let one : q ≡ p = same-number pairs n q k least.0 same in
                let all : ranked pairs ≡ length pairs = count-all (ranks_with s p) pairs (λ r has.
                rw (le-is p.priority r.priority (subst (λ (x : PairRecord). x.priority ≤ r.priority) one (least.1 r has)), off) refl) in
                subst (λ b. limit < (if b then KINDS * ranked pairs else ranked pairs)) (sym off) (omega (arith, all, over))

      of-most : s.modern ≡ true → (gone pairs new : List PairRecord) → There pairs n → EvictsOfMostInTurn (kind_of s.local s.remote) limit gone pairs new
          → Has new p ⊎ (limit < most_pairs s (ranked pairs))
      of-most on [] pairs new k (within, same) = inl (subst (λ ps. Has ps p) (sym same) k.has)
      of-most on (q ∷ gone) pairs new k (over, least, others) =
          once q pairs new (spares q pairs k least.1.0 full) (λ there. of-most on gone (without (is_numbered q.number) pairs) new there others) where
            rank : IsLeastOfMost (kind_of s.local s.remote) pairs p → ranked pairs ≡ kind_count (kind_of s.local s.remote) pairs (kind_of s.local s.remote p)
            rank (most, (has, same, low)) = count-agree (ranks_with s p) (λ q. kind_of s.local s.remote q == kind_of s.local s.remote p) pairs (λ q there.
                by q there (kind_of s.local s.remote q == kind_of s.local s.remote p) refl) where
                  by : (q : PairRecord) → Has pairs q → (b : Bool) → kind_of s.local s.remote q == kind_of s.local s.remote p ≡ b → ranks_with s p q ≡ b
                  by q there true own = rw (le-is p.priority q.priority (low q there (eqb-true (kind_of s.local s.remote q) (kind_of s.local s.remote p) own)), on, own) refl
                  by q there false other = elim (nat_le p.priority q.priority) as (λ b. b && is_rival s p (kind_of s.local s.remote q) ≡ false) [
                    | true ↦ rw (on, other) refl
                    | false ↦ refl
                  ]

            full : is_numbered q.number p ≡ true → limit < most_pairs s (ranked pairs)
            full same =
                let one : q ≡ p = same-number pairs n q k least.1.0 same in
                let its : IsLeastOfMost (kind_of s.local s.remote) pairs p = subst (λ (x : PairRecord). IsLeastOfMost (kind_of s.local s.remote) pairs x) one least in
                let few_pairs = few (kind_of s.local s.remote) pairs (kind_count (kind_of s.local s.remote) pairs (kind_of s.local s.remote p)) its.0 KINDS
                (λ x has. kind-below s.local s.remote x) in
                let all = rank its in
                subst (λ b. limit < (if b then KINDS * ranked pairs else ranked pairs)) (sym on) (omega (arith, few_pairs, all, over))

      evicts : (pairs new : List PairRecord) → There pairs n → EvictsFor s limit pairs new → Has new p ⊎ (limit < most_pairs s (ranked pairs))
      evicts pairs new k h = by s.modern refl h where
        by : (b : Bool) → s.modern ≡ b → MatchBool b (EvictsOfMost (kind_of s.local s.remote) limit pairs new) (Evicts limit pairs new)
            → Has new p ⊎ (limit < most_pairs s (ranked pairs))
        by true on (gone, drops) = of-most on gone pairs new k drops
        by false off (gone, drops) = lowest off gone pairs new k drops

-- ---- forming

module _ {H P : Type 0} where
  forms : (old new : AgentRecord H P) (all : List Combination) (p : PairRecord) → There p old.pairs old.next_number → FormsAll old all new → Has new.pairs p ⊎ MayBeRemoved old all p
  forms old new all p k (f, (mid, each, drops, next_is), made) = elim (tries-each p (sides_of old) all (formed_of old) mid k each) [
    | inr replaced ↦ inr (inl replaced)
    | inl (there, count) ↦ elim (evicts p (sides_of old) old.max_pairs mid.next_number mid.pairs f.pairs there drops) [
      | inl has ↦ inl (subst (λ (a : AgentRecord H P). Has a.pairs p) (sym made) has)
      | inr over ↦ elim (over-or-same (sides_of old) old.max_pairs mid.pairs f.pairs drops) [
        | inl same ↦ inl (subst (λ (a : AgentRecord H P). Has a.pairs p) (sym made) (subst (λ ps. Has ps p) (sym same) there.has))
        | inr many ↦
            inr (inr (
              (let added = adds-each (sides_of old) all (formed_of old) mid each in omega (arith, many, added)),
              (let more = most-fewer (is_modern old.timing) _ _ count in omega (arith, over, more)),
            ))
      ]
    ]
  ]

  there-now : (old : AgentRecord H P) (p : PairRecord) → IsSound old → Has old.pairs p → There p old.pairs old.next_number
  there-now old p sound has = record { rising = rising-each old.pairs sound.rising; below = below-each old.next_number old.pairs sound.below; has = has }

  -- ---- the calls

  pub remote-leaves : (old new : AgentRecord H P) (c : CandidateRecord) (p : PairRecord) → IsSound old → Has old.pairs p → AddsRemote old c (Ok tt) new → Has new.pairs p ⊎ MayEndByRemote old c p
  remote-leaves old new c p sound has h = either (is_ignored old c) h
      (λ _ same. inl (subst (λ (a : AgentRecord H P). Has a.pairs p) (sym same) has))
      (λ not_ignored k. (
      let place = position (is_placeholder (as_remote c)) old.remote in
      elim (forms (with_remote (as_remote c) place old) new (remote_combinations (as_remote c) (place_or_end place old.remote) old.local) p (there-now old p sound has) k.1) [
        | inl x ↦ inl x
        | inr ends ↦ inr (not_ignored, ends)
      ]))

  enrolment-leaves : (old new : AgentRecord H P) (c : CandidateRecord) (at : Option ℕ) (place : ℕ) (p : PairRecord) → IsSound old → Has old.pairs p → EnrolsAt old c at (Ok (Some place)) new
      → Has new.pairs p ⊎ MayEndByEnrolling old c at p
  enrolment-leaves old new c None place p sound has h = forms (appended (as_own old c) old) new (local_combinations (as_own old c) (length old.local) old.remote) p (there-now old p sound has) h.2
  enrolment-leaves old new c (Some k) place p sound has h = by (comes_again c (candidate_at old.local k)) h where
    now : There p old.pairs old.next_number
    now = there-now old p sound has

    superseded : FormsAll (appended (as_own old c) (local_discarded k old)) (local_combinations (as_own old c) (length old.local) old.remote) new → (b : Bool) → is_local_at k p ≡ b
        → Has new.pairs p ⊎ ((p.local ≡ k) ⊎ MayEndByAppending old c (local_discarded k old) p)
    superseded f true is = inr (inl (eqb-true p.local k is))
    superseded f false other =
        elim (forms (appended (as_own old c) (local_discarded k old)) new (local_combinations (as_own old c) (length old.local) old.remote) p
        (thinned p old.pairs old.next_number (λ q. not (is_local_at k q)) now (ap not other)) f) [ inl x ↦ inl x | inr ends ↦ inr (inr ends) ]

    by : (b : Bool) → MatchBool b (EntersAgain old k (Ok (Some place)) new)
        (MatchBool (nat_lt (candidate_priority c) (candidate_priority (candidate_at old.local k))) (IsNotAdded old (Ok (Some place)) new) (EntersNew old c (local_discarded k old) (Ok (Some place)) new))
        → Has new.pairs p ⊎ MatchBool b (MayBeRemoved (enabled_again k old) (local_combinations (enabled (candidate_at old.local k)) k old.remote) p)
        ((p.local ≡ k) ⊎ MayEndByAppending old c (local_discarded k old) p)
    by true again = forms (enabled_again k old) new (local_combinations (enabled (candidate_at old.local k)) k old.remote) p now again.2
    by false other = either (nat_lt (candidate_priority c) (candidate_priority (candidate_at old.local k))) other
        (λ _ n. no-place place n.0)
        (λ _ n. superseded n.2 (is_local_at k p) refl)

  pub local-leaves : (answers : P → CandidateRecord → ℕ → ℕ → Type 0) (old new : AgentRecord H P) (c : CandidateRecord) (place : ℕ) (p : PairRecord) → IsSound old → Has old.pairs p
      → AddsLocal answers old c (Ok (Some place)) new → Has new.pairs p ⊎ MayEndByLocal answers old c p
  local-leaves answers old new c place p sound has h = either (is_too_high c) h
      (λ _ k. no-error (Some place) PriorityTooHigh k.0)
      (λ _ k. either (is_unwanted old c) k
      (λ _ n. no-place place n.0)
      (λ _ n. elim (enrolment-leaves old new (preferred n.0 c) (position (is_same_place (preferred n.0 c)) old.local) place p sound has n.2) [ inl x ↦ inl x | inr ends ↦ inr (n.0, n.1, ends) ]))

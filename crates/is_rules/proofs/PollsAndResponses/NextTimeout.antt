-- The next timeout of an agent: after the last `handle_timeout` call, and no later than the time at which a
-- pair is due or its consent ends, except for the pacing interval.
use Rattle.is_rules.specs.Charging.{CHARGE, EARLY_TA, has_credit}
use Rattle.is_rules.specs.TimeoutTimes.{soonest, TimeoutIsAhead, TimeoutIsInTime, TimeoutIsGiven, TimeoutIsSoon}
use Rattle.is_rules.proofs.Common.{[], ◌*◌, ◌<◌, ◌||◌, ◌∙◌, ◌∷◌, ◌≡◌, ◌≤◌, AgentRecord, ap, arith, scheduled, Bool, call_time_of, earliest_call}
use Rattle.is_rules.proofs.Common.{early_ta, false, fold, Has, IdleTimeout, if◌then◌else◌, inl, inr, is_early, is_empty, is_idle}
use Rattle.is_rules.proofs.Common.{is_pressing, is_some, is_waiting, IsSomeAnd, later, List, map, MatchBool, MAX, max, min, nat_le}
use Rattle.is_rules.proofs.Common.{nat_tests, NextTimeoutFrom, NextTimeouts, None, not, Option, pacing_of, PairRecord, PollsTimeout, refl}
use Rattle.is_rules.proofs.Common.{SECOND, Some, soon, subst, true, WaitingTimeout, ℕ}

pub either : (b : Bool) {P Q R : Type 0} → MatchBool b P Q → (b ≡ true → P → R) → (b ≡ false → Q → R) → R
either true h f g = f refl h
either false h f g = g refl h

-- ---- the least of a list

least-start : {X : Type 0} (f : X → ℕ) (m : ℕ) (xs : List X) → fold min m (map f xs) ≤ m
least-start f m [] = omega arith
least-start f m (x ∷ xs) = let k : fold min (min m (f x)) (map f xs) ≤ min m (f x) = least-start f (min m (f x)) xs in omega (arith, k)

pub least-below : {X : Type 0} (f : X → ℕ) (m : ℕ) (xs : List X) (x : X) → Has xs x → fold min m (map f xs) ≤ f x
least-below f m [] x has = absurd has
least-below f m (y ∷ ys) x (inl e) =
    let k : fold min (min m (f y)) (map f ys) ≤ min m (f y) = least-start f (min m (f y)) ys in
    let same : f y ≡ f x = ap f e in
    omega (arith, k, same)
least-below f m (y ∷ ys) x (inr has) = least-below f (min m (f y)) ys x has

le-of : (n m : ℕ) → nat_le n m ≡ true → n ≤ m
le-of n m h = grind (arith, nat_tests, h)

lt-of-not : (n m : ℕ) → nat_le n m ≡ false → m < n
lt-of-not n m h = grind (arith, nat_tests, h)

-- if the least is below the start, it is that of an element
pub least-is : {X : Type 0} (f : X → ℕ) (m w : ℕ) (xs : List X) → fold min m (map f xs) ≤ w → w < m → (x : X) × Has xs x × (f x ≤ w)
least-is f m w [] low above = absurd (let no : ⊥ = omega (arith, low, above) in no)
least-is f m w (x ∷ xs) low above =
    elim (nat_le (f x) w) as (λ b. nat_le (f x) w ≡ b → (y : _) × Has (x ∷ xs) y × (f y ≤ w)) [
      | true ↦ λ is. (x, inl refl, le-of (f x) w is)
      | false ↦ λ is.
          (let more : w < f x = lt-of-not (f x) w is in
          let rest = least-is f (min m (f x)) w xs low (omega (arith, more, above)) in
          (rest.0, inr rest.1, rest.2))
    ] refl

-- ---- next timeouts

idle-has : (lite : Bool) (pairs : List PairRecord) (p : PairRecord) → lite ≡ false → Has pairs p → lite || is_empty pairs ≡ true → ⊥
idle-has true pairs p full has h = absurd (cc)
idle-has false [] p full has h = absurd has
idle-has false (q ∷ qs) p full has h = absurd (cc)

not-idle : (lite : Bool) (pairs : List PairRecord) → lite ≡ false → is_empty pairs ≡ false → (lite || is_empty pairs) ≡ false
not-idle true pairs full some = absurd (cc)
not-idle false pairs full some = some

-- the pacing interval early on: no longer than that of the agent, and not zero unless that is
short-by : (early : Bool) (ta advance : ℕ) → (if early then min advance ta else advance) ≤ advance
short-by true ta advance = omega arith
short-by false ta advance = omega arith

some-by : (early : Bool) (ta advance : ℕ) → 0 < ta → 0 < advance → 0 < (if early then min advance ta else advance)
some-by true ta advance some set = omega (arith, some, set)
some-by false ta advance some set = set

early-some : (short : Bool) → 0 < (if short then EARLY_TA else CHARGE)
early-some true = omega arith
early-some false = omega arith

module _ {H P : Type 0} where
  pub pacing-short : (last : ℕ) (a : AgentRecord H P) → pacing_of last a ≤ a.timing_advance
  pacing-short last a = short-by (is_early last a) (early_ta last a) a.timing_advance

  pacing-some : (last : ℕ) (a : AgentRecord H P) → 0 < a.timing_advance → 0 < pacing_of last a
  pacing-some last a some = some-by (is_early last a) (early_ta last a) a.timing_advance (early-some (has_credit last a)) some

  pub timeouts-from : (old new : AgentRecord H P) (last deadline : ℕ) → old.last_time ≡ Some last → PollsTimeout old (Some deadline) new → NextTimeouts old last deadline new
  timeouts-from old new last deadline is h = subst (λ o. NextTimeoutFrom o old (Some deadline) new) is h

  pub timeouts-ahead : TimeoutIsAhead H P
  timeouts-ahead old new None h = tt
  timeouts-ahead old new (Some deadline) h = λ last is some early.
      let paced = pacing-some last old some in
      let next : last < soon old last = omega (arith, paced, early) in
      either (is_waiting old) (timeouts-from old new last deadline is h)
      (λ _ k. (let is = k.0 in omega (arith, is, next)))
      (λ _ k. either (is_idle old) k
      (λ _ l. (let is = l.0 in omega (arith, is, early)))
      (λ _ l. (let is = l.0 in omega (arith, is, next))))

  pub timeouts-in-time : TimeoutIsInTime H P
  timeouts-in-time old new None h = tt
  timeouts-in-time old new (Some deadline) h = λ last is full p has.
      either (is_waiting old) (timeouts-from old new last deadline is h)
      (λ _ k. (let is = k.0 in omega (arith, is)))
      (λ _ k. either (is_idle old) k
      (λ idle _. absurd (idle-has old.lite old.pairs p full has idle))
      (λ _ l. (
      let is = l.0 in let least = least-below (call_time_of last old.timing) MAX old.pairs p has in
      omega (arith, is, least))))

  pub timeouts-soon : TimeoutIsSoon H P
  timeouts-soon old new None h = tt
  timeouts-soon old new (Some deadline) h = λ last is presses.
      either (is_waiting old) (timeouts-from old new last deadline is h)
      (λ _ k. (let is = k.0 in omega (arith, is)))
      (λ calm _. absurd (let no : ⊥ = grind (arith, presses, calm) in no))

  given-from : (last deadline : Option ℕ) (old new : AgentRecord H P) → NextTimeoutFrom last old deadline new → is_some deadline ≡ is_some last
  given-from None deadline old new h = let is = h.0 in cc
  given-from (Some last) None old new h = absurd h
  given-from (Some last) (Some at) old new h = refl

  pub timeouts-given : TimeoutIsGiven H P
  timeouts-given old new deadline h = let is = given-from old.last_time deadline old new h in cc

  -- ---- the least time that a next timeout may have

  pub paced : (old new : AgentRecord H P) (last at : ℕ) → NextTimeouts old last at new → soonest old last ≤ at
  paced old new last at h = either (is_waiting old) h
      (λ _ k. (let is = k.0 in grind (arith, is)))
      (λ _ k. either (is_idle old) k
      (λ idle l. (let is = l.0 in grind (arith, is, idle)))
      (λ _ l. (let is = l.0 in grind (arith, is))))

  pub paced-from : (old new : AgentRecord H P) (last : ℕ) (deadline : Option ℕ) → old.last_time ≡ Some last → PollsTimeout old deadline new → IsSomeAnd deadline (λ at. NextTimeouts old last at new)
  paced-from old new last deadline is h = subst (λ o. NextTimeoutFrom o old deadline new) is h

  not-waiting : (a : AgentRecord H P) → a.packets ≡ [] → a.queue ≡ [] → is_pressing a ≡ false → is_waiting a ≡ false
  not-waiting a no_packets no_queue calm =
      ap (λ ps. not (is_empty ps) || not (is_empty a.queue) || is_pressing a) no_packets ∙ ap (λ qs. not (is_empty qs) || is_pressing a) no_queue ∙ calm

  -- if no request is stored, no path is to be selected or nominated at once, and there is a pair to check, the due times of all pairs are fixed
  pub all-are-scheduled : (old new : AgentRecord H P) (last deadline : ℕ) → old.last_time ≡ Some last → old.lite ≡ false → old.packets ≡ [] → old.queue ≡ []
      → is_pressing old ≡ false → is_empty old.pairs ≡ false → PollsTimeout old (Some deadline) new
      → (deadline ≡ max (earliest_call old last) (soon old last)) × (new ≡ record old { pairs = map (scheduled last old.timing) old.pairs })
  all-are-scheduled old new last deadline is full no_packets no_queue calm some h =
      let w : IdleTimeout old last deadline new =
      subst (λ b. MatchBool b (WaitingTimeout old last deadline new) (IdleTimeout old last deadline new)) (not-waiting old no_packets no_queue calm) (timeouts-from old new last deadline is h) in
      subst (λ b. MatchBool b ((deadline ≡ later last (3 * SECOND)) × (new ≡ old))
      ((deadline ≡ max (earliest_call old last) (soon old last)) × (new ≡ record old { pairs = map (scheduled last old.timing) old.pairs })))
      (not-idle old.lite old.pairs full some) w

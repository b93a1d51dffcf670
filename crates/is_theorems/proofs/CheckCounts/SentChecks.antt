-- What a check leaves of the stored checks of a pair, and of its states.
use Rattle.is_pair.specs.declared.pair.states.NominationState.TheVariants.{None as Unnominated}
use Rattle.is_theorems.proofs.Common.{[], ◌++◌, ◌-◌, ◌<◌, ◌∙◌, ◌∷◌, ◌≡◌, ◌≤◌, ap, arith, Attempt, Check, CheckState, computed_due_time}
use Rattle.is_theorems.proofs.Common.{drop, drop-append-le, false, get_or, get_or-append_seam, Has, inl, InProgress, inr, is_answered}
use Rattle.is_theorems.proofs.Common.{is_started_state, is_valid_state, last_check, last_checks, length, length-append, length-drop, List}
use Rattle.is_theorems.proofs.Common.{min, nat_lt, nat_tests, next_due_time, Nominated, nomination_once_sent, NominationState, None, Option}
use Rattle.is_theorems.proofs.Common.{PairRecord, position, position-Some, refl, reverse, reverse-append, slice_get, slice_get-get_or, Some}
use Rattle.is_theorems.proofs.Common.{state_from, state_once_answered, state_once_sent, StunTiming, subst, suc, Succeeded, Success, sym}
use Rattle.is_theorems.proofs.Common.{true, unanswered_count, unwrap_or, Waiting, ℕ}
use Rattle.is_theorems.proofs.CallEffects.ChecksAndResponses.{Has-drop}
use Rattle.is_theorems.proofs.RuleEffects.ChangedPairs.{Has-at}
use Rattle.is_theorems.proofs.RuleEffects.EarlierAndNewPairs.{Has-push}

pub no-case : {X : Type 0} → false ≡ true → X
no-case h = absurd (cc)

pub none-some : {X : Type 0} (d : ℕ) → None ≡ Some d → X
none-some d h = absurd (cc)

pub some-is : (n m : ℕ) → Some n ≡ Some m → n ≡ m
some-is n m h = cc

pub lt-of : (n m : ℕ) → nat_lt n m ≡ true → n < m
lt-of n m h = grind (arith, nat_tests, h)

pub not-lt : (n m : ℕ) → m ≤ n → nat_lt n m ≡ false
not-lt n m h = grind (arith, nat_tests, h)

pub is-lt : (n m : ℕ) → n < m → nat_lt n m ≡ true
is-lt n m h = grind (arith, nat_tests, h)

-- ---- stored checks

-- no check of these got a response
abbrev pub AreOpen : List Check → Type 0
AreOpen cs = (c : Check) → Has cs c → is_answered c ≡ false

has-reversed : (cs : List Check) (c : Check) → Has (reverse cs) c → Has cs c
has-reversed [] c has = absurd has
has-reversed (x ∷ xs) c has = elim (Has-push (reverse xs) x c (subst (λ (ys : List Check). Has ys c) (reverse-append (x ∷ []) xs) has)) [
  | inl there ↦ inr (has-reversed xs c there)
  | inr now ↦ inl now
]

pub all-free : (cs : List Check) → AreOpen cs → unanswered_count cs ≡ length cs
all-free [] free = refl
all-free (x ∷ xs) free = by (position is_answered (reverse (x ∷ xs))) refl where
  by : (o : Option ℕ) → position is_answered (reverse (x ∷ xs)) ≡ o → unwrap_or o (length (x ∷ xs)) ≡ length (x ∷ xs)
  by None is = refl
  by (Some i) is =
      let k = position-Some is_answered (reverse (x ∷ xs)) i x is in
      let has = has-reversed (x ∷ xs) (get_or (reverse (x ∷ xs)) i x) (Has-at (reverse (x ∷ xs)) i x k.0) in
      no-case (sym (free (get_or (reverse (x ∷ xs)) i x) has) ∙ k.1)

-- what a check leaves of them
last-is : (front : List Check) (c : Check) → last_check (front ++ c ∷ []) ≡ Some c
last-is front c =
    let long = length-append front (c ∷ []) in
    let place : length (front ++ c ∷ []) - 1 ≡ length front = omega (arith, long) in
    ap (slice_get (front ++ c ∷ [])) place
    ∙ (slice_get-get_or (front ++ c ∷ []) (length front) c (omega (arith, long)) ∙ ap Some (get_or-append_seam front c [] c))

pub sent-last : (n : ℕ) (cs : List Check) (c : Check) → 0 < n → last_check (last_checks n (cs ++ c ∷ [])) ≡ Some c
sent-last n cs c some =
    let long = length-append cs (c ∷ []) in
    let few : length (cs ++ c ∷ []) - n ≤ length cs = omega (arith, long, some) in
    ap last_check (drop-append-le (length (cs ++ c ∷ []) - n) cs (c ∷ []) few) ∙ last-is (drop (length (cs ++ c ∷ []) - n) cs) c

pub sent-length : (n : ℕ) (cs : List Check) (c : Check) (k : ℕ) → min k n ≤ length cs → min (suc k) n ≤ length (last_checks n (cs ++ c ∷ []))
sent-length n cs c k enough =
    let long = length-append cs (c ∷ []) in
    let left = length-drop (length (cs ++ c ∷ []) - n) (cs ++ c ∷ []) in
    omega (arith, long, left, enough)

pub sent-free : (n : ℕ) (cs : List Check) (c : Check) → is_answered c ≡ false → AreOpen cs → AreOpen (last_checks n (cs ++ c ∷ []))
sent-free n cs c one free d has = elim (Has-push cs c d (Has-drop (length (cs ++ c ∷ []) - n) (cs ++ c ∷ []) d has)) [
  | inl was ↦ free d was
  | inr now ↦ subst (λ (x : Check). is_answered x ≡ false) now one
]

-- ---- states

pub sent-valid : (s : CheckState) → is_valid_state (state_once_sent s) ≡ false → is_valid_state s ≡ false
sent-valid Waiting h = h
sent-valid InProgress h = h
sent-valid Succeeded h = h

pub sent-started : (s : CheckState) → is_started_state (state_once_sent s) ≡ true
sent-started Waiting = refl
sent-started InProgress = refl
sent-started Succeeded = refl

pub answered-valid : (s : CheckState) → is_started_state s ≡ true → is_valid_state (state_once_answered s) ≡ true
answered-valid Waiting h = no-case h
answered-valid InProgress h = refl
answered-valid Succeeded h = refl

pub answered-invalid : (s : CheckState) → is_valid_state (state_once_answered s) ≡ false → is_valid_state s ≡ false
answered-invalid Waiting h = h
answered-invalid InProgress h = no-case (sym h)
answered-invalid Succeeded h = h

pub from-invalid : (s : CheckState) → is_valid_state (state_from s Waiting) ≡ false → is_valid_state s ≡ false
from-invalid Waiting h = h
from-invalid InProgress h = h
from-invalid Succeeded h = h

pub sent-calm : (n : NominationState) → nomination_once_sent (nomination_once_sent n) ≡ nomination_once_sent n
sent-calm Unnominated = refl
sent-calm Nominated = refl
sent-calm Attempt = refl
sent-calm Success = refl

pub calm-next : (now : ℕ) (t : StunTiming) (n : NominationState) (p : PairRecord) → computed_due_time (nomination_once_sent n) now t p ≡ next_due_time now t p
calm-next now t Unnominated p = refl
calm-next now t Nominated p = refl
calm-next now t Attempt p = refl
calm-next now t Success p = refl

-- How many checks are sent in a second, with the default pacing interval.
use Rattle.is_theorems.proofs.Common.{[], ◌*◌, ◌∷◌, ◌≡◌, ◌≤◌, AgentRecord, arith, BeforeEach, Bool, CandidateRecord, CHARGE, checks_in_span}
use Rattle.is_theorems.proofs.Common.{EARLY_TA, false, has_credit, if◌then◌else◌, is_early, IsLateAt, IsPacedAt, IsSlowAt, LEAST_TA, List}
use Rattle.is_theorems.proofs.Common.{Logged, MILLISECOND, min, pacing_of, SECOND, SecondsHaveFewChecks, SharedRun, true, ℕ}
use Rattle.is_theorems.proofs.CheckCounts.ChargedChecks.{charged-are-few}
use Rattle.is_theorems.proofs.CheckCounts.PacedChecks.{checks-are-paced}

module _ {H P : Type 0} where
  pacing-least : (last : ℕ) (a : AgentRecord H P) → 50 * MILLISECOND ≤ a.timing_advance → 5 * MILLISECOND ≤ pacing_of last a
  pacing-least last a slow = by (is_early last a) (has_credit last a) where
    by : (early credit : Bool) → 5 * MILLISECOND ≤ (if early then min a.timing_advance (if credit then EARLY_TA else CHARGE) else a.timing_advance)
    by true true = omega (arith, slow)
    by true false = omega (arith, slow)
    by false credit = omega (arith, slow)

  pacing-late : (last : ℕ) (a : AgentRecord H P) → is_early last a ≡ false → 50 * MILLISECOND ≤ a.timing_advance → 50 * MILLISECOND ≤ pacing_of last a
  pacing-late last a late slow = grind (arith, late, slow)

  module _ (mac : H → List ℕ → List ℕ → List ℕ) (answers : P → CandidateRecord → ℕ → ℕ → Type 0) where
    each : (Has Gives : AgentRecord H P → Logged P → Type 0) → ((a : AgentRecord H P) (x : Logged P) → Has a x → Gives a x)
        → (first last : AgentRecord H P) (log : List (Logged P)) (run : SharedRun mac answers first log last) → BeforeEach mac answers Has first log last run → BeforeEach mac answers Gives first log last run
    each Has Gives gives first last [] run h = tt
    each Has Gives gives first last (x ∷ before) (mid, s, t, run, based, step) (here, earlier) = (gives mid x here, each Has Gives gives first mid before run earlier)

    two : (Has Has_too Gives : AgentRecord H P → Logged P → Type 0) → ((a : AgentRecord H P) (x : Logged P) → Has a x → Has_too a x → Gives a x)
        → (first last : AgentRecord H P) (log : List (Logged P)) (run : SharedRun mac answers first log last) → BeforeEach mac answers Has first log last run → BeforeEach mac answers Has_too first log last run
        → BeforeEach mac answers Gives first log last run
    two Has Has_too Gives gives first last [] run h k = tt
    two Has Has_too Gives gives first last (x ∷ before) (mid, s, t, run, based, step) (here, earlier) (too, earlier_too) =
        (gives mid x here too, two Has Has_too Gives gives first mid before run earlier earlier_too)

    pub seconds-have-few : SecondsHaveFewChecks {H = H} mac answers
    seconds-have-few first last log from new run slow ends = (
      λ patient. (let few : checks_in_span from SECOND log ≤ 200 = checks-are-paced mac answers first last log from SECOND LEAST_TA new run patient
          (each (IsSlowAt from) (IsPacedAt from SECOND LEAST_TA)
          (λ a x is call at last_is le lt. (let least = pacing-least at a (is call at last_is le lt) in omega (arith, least))) first last log run slow)
          (omega arith) ends in omega (arith, few)),
      λ patient late. (let few : checks_in_span from SECOND log ≤ 20 = checks-are-paced mac answers first last log from SECOND (50 * MILLISECOND) new run patient
          (two (IsSlowAt from) (IsLateAt from) (IsPacedAt from SECOND (50 * MILLISECOND))
          (λ a x is early call at last_is le lt. (let least = pacing-late at a (early call at last_is le lt) (is call at last_is le lt) in omega (arith, least))) first last log run slow late)
          (omega arith) ends in omega (arith, few)),
      λ frugal room. (let few : checks_in_span from SECOND log ≤ 49 = charged-are-few from (omega (arith, room)) mac answers first last log new run slow frugal in omega (arith, few)),
    )

-- How many checks an agent sends, along its log.
use Rattle.std.specs.Prelude.{◌≡◌, ℕ, ◌+◌, ◌*◌, ◌<◌, ◌≤◌, true, List, ◌∷◌, ◌++◌}
use Rattle.rand_core.specs.Stream.{Stream}
use Rattle.is_proto.specs.Lists.{Has}
use Rattle.is_proto.specs.Times.{MAX, MILLISECOND, SECOND}
use Rattle.is_candidate.specs.Candidates.{CandidateRecord}
use Rattle.is_pair.specs.Due.{is_asked_first}
use Rattle.is_pair.specs.Pairs.{PairRecord}
use Rattle.is_stun.specs.declared.timing.StunTiming.{StunTiming}
use Rattle.is_rules.specs.Agent.{AgentRecord}
use Rattle.is_rules.specs.Polls.{LEAST_TA}
use Rattle.is_theorems.specs.CheckRate.{begun_in, checks_in_span, IsFrugalAt, IsLateAt, IsPacedAt, IsPatient, IsSlowAt}
use Rattle.is_theorems.specs.Logs.{Logged}
use Rattle.is_theorems.specs.Rounds.{Part}
use Rattle.is_theorems.specs.Runs.{AtEach}
use Rattle.is_theorems.specs.SilentPairs.{AreInOrder, EndsAsked, EndsWith, IsSilent, IsTimedBy, StaysSilent}

module _ {H P : Type 0} (mac : H → List ℕ → List ℕ → List ℕ) (answers : P → CandidateRecord → ℕ → ℕ → Type 0) where
  -- Up to each entry: in any span of time in which the caller was patient, at most as many checks were sent as pacing intervals begin in it.
  abbrev pub ChecksStayPaced : AgentRecord H P → Stream → List (Logged P) → Type 0
  ChecksStayPaced first s log =
      (from long pace : ℕ) → AtEach mac answers first s log (λ before mid x after. IsPacedAt from long pace mid x) → 0 < pace → from + long ≤ MAX
      → AtEach mac answers first s log
      (λ before mid x after. IsPatient from long pace (x ∷ before) → checks_in_span from long (x ∷ before) ≤ begun_in long pace)

  -- With the default pacing interval, in any second in which the caller was patient: at most 200 checks, and 20 if the agent was not early; and
  -- 49 in any in which it was frugal, early or not.
  abbrev pub SecondsStayShort : AgentRecord H P → Stream → List (Logged P) → Type 0
  SecondsStayShort first s log =
      (from : ℕ) → AtEach mac answers first s log (λ before mid x after. IsSlowAt from mid x) → from + SECOND ≤ MAX
      → AtEach mac answers first s log
      (λ before mid x after. IsPatient from SECOND LEAST_TA (x ∷ before) → checks_in_span from SECOND (x ∷ before) ≤ 200)
      × (AtEach mac answers first s log (λ before mid x after. IsLateAt from mid x)
      → AtEach mac answers first s log
      (λ before mid x after. IsPatient from SECOND (50 * MILLISECOND) (x ∷ before) → checks_in_span from SECOND (x ∷ before) ≤ 20))
      × (from + 2 * SECOND ≤ MAX
      → AtEach mac answers first s log
      (λ before mid x after. AtEach mac answers first s (x ∷ before) (λ earlier at y next. IsFrugalAt from earlier at y) → checks_in_span from SECOND (x ∷ before) ≤ 49))

  -- After each entry a pair from which nothing arrived has at most n checks, if none follows the nth with the timing of the log.
  abbrev pub SilentPairsStayFew : AgentRecord H P → Stream → List (Logged P) → Type 0
  SilentPairsStayFew first s log =
      (t : StunTiming) (n : ℕ) → EndsWith t n → AtEach mac answers first s log (λ before mid x after. IsTimedBy t mid x)
      → AtEach mac answers first s log (λ before mid x after. AreInOrder 0 (x ∷ before) → (p : PairRecord) → Has after.pairs p → IsSilent p → p.checks_sent ≤ n)

  -- Along each segment of the log: a pair whose first check followed a request gets at most n checks while no further request and no response
  -- arrives on it, if n suffice for such pairs.
  abbrev pub AskedPairsStayFew : AgentRecord H P → Stream → List (Logged P) → Type 0
  AskedPairsStayFew first s log =
      (t : StunTiming) (n : ℕ) → EndsAsked t n → AtEach mac answers first s log (λ before mid x after. IsTimedBy t mid x)
      → (before part : List (Logged P)) (start last : AgentRecord H P) → Part mac answers first s log before start part last → AreInOrder 0 (part ++ before)
      → (p q : PairRecord) → Has start.pairs p → Has last.pairs q → StaysSilent p q → is_asked_first q ≡ true → q.checks_sent ≤ p.checks_sent + n

-- How many checks an agent sends, along its log.
use Rattle.is_theorems.specs.CheckRate.{ChecksArePaced, IsFrugal, IsFrugalAt, IsLateAt, IsPacedAt, IsSlowAt, SecondsHaveFewChecks}
use Rattle.is_theorems.specs.Rounds.{RunsOn}
use Rattle.is_theorems.specs.Runs as runs
use Rattle.is_theorems.specs.SilentPairs.{AreInOrder, AskedPairsGetFew, IsTimedBy, SilentPairsGetFew, time_after, time_of}
use Rattle.is_theorems.proofs.ExecutionLogs.LogSegments.{run-on}
use Rattle.is.specs.CheckBounds.{AskedPairsStayFew, ChecksStayPaced, SecondsStayShort, SilentPairsStayFew}
use Rattle.is.proofs.Common.{[], ◌++◌, ◌∷◌, ◌≡◌, ◌≤◌, AgentRecord, ap, AtEach, BeforeEach, CandidateRecord, deeper, IsFresh, later_point}
use Rattle.is.proofs.Common.{List, Logged, refl, run_to, shared_run, SharedRun, Stream, subst, ℕ}
use Rattle.is.proofs.AgentLogs.StoredAndQueued.{new_first}

module _ {H P : Type 0} (mac : H → List ℕ → List ℕ → List ℕ) (answers : P → CandidateRecord → ℕ → ℕ → Type 0) where
  -- what holds of each entry of a log holds along the execution
  before_each : (Fits : AgentRecord H P → Logged P → Type 0) (first last : AgentRecord H P) (s t : Stream) (log : List (Logged P)) → (run : runs.Run mac answers first s log last t)
      → AtEach mac answers first s log (λ before mid x after. Fits mid x) → BeforeEach mac answers Fits first log last (shared_run mac answers first s log last t run)
  before_each Fits first last s t [] run fits = tt
  before_each Fits first last s t (x ∷ before) (mid, u, run, number, based, step) fits = (
    fits before mid last x (record { rest = []; split = refl; at = u; led = run; number = number; given = based; following = t; step = step }),
    before_each Fits first mid s u before run (λ b m a y p. fits b m a y (later_point mac answers first s x before b m y a p)),
  )

  frugal_at_each : (from : ℕ) (first last : AgentRecord H P) (s t : Stream) (log : List (Logged P)) → (run : runs.Run mac answers first s log last t)
      → AtEach mac answers first s log (λ before mid x after. IsFrugalAt from before mid x) → IsFrugal mac answers from first log last (shared_run mac answers first s log last t run)
  frugal_at_each from first last s t [] run frugal = tt
  frugal_at_each from first last s t (x ∷ before) (mid, u, run, number, based, step) frugal = (
    frugal before mid last x (record { rest = []; split = refl; at = u; led = run; number = number; given = based; following = t; step = step }),
    frugal_at_each from first mid s u before run (λ b m a y p. frugal b m a y (later_point mac answers first s x before b m y a p)),
  )

  -- ---- segments

  times_join : (earlier : ℕ) (part before : List (Logged P)) → time_of earlier (part ++ before) ≡ time_of (time_of earlier before) part
  times_join earlier [] before = refl
  times_join earlier (x ∷ part) before = ap (λ n. time_after n x.call) (times_join earlier part before)

  in_order : (earlier : ℕ) (part before : List (Logged P)) → AreInOrder earlier (part ++ before) → AreInOrder earlier before × AreInOrder (time_of earlier before) part
  in_order earlier [] before order = (order, tt)
  in_order earlier (x ∷ part) before (forward, order) =
      let k = in_order earlier part before order in
      (k.0, (subst (λ n. n ≤ time_after n x.call) (times_join earlier part before) forward, k.1))

  -- a segment as an execution with shared random words
  abbrev shared_on : (before part : List (Logged P)) (start last : AgentRecord H P) (u t : Stream) → RunsOn mac answers before start u part last t → SharedRun mac answers start part last
  shared_on before [] start last u t run = run.0
  shared_on before (x ∷ part) start last u t run = (run.0, run.1, t, shared_on before part start run.0 u run.1 run.2, run.4, run.5)

  each_on : (Fits : AgentRecord H P → Logged P → Type 0) (first start last : AgentRecord H P) (s u t : Stream) (before part : List (Logged P)) (led : runs.Run mac answers first s before start u)
      → (run : RunsOn mac answers before start u part last t) → AtEach mac answers first s (part ++ before) (λ before mid x after. Fits mid x)
      → BeforeEach mac answers Fits start part last (shared_on before part start last u t run)
  each_on Fits first start last s u t before [] led run fits = tt
  each_on Fits first start last s u t before (x ∷ part) led (mid, v, run, number, based, step) fits = (
    fits (part ++ before) mid last x
        (record { rest = []; split = refl; at = v; led = run-on mac answers first start mid s u v before part led run; number = number; given = based; following = t; step = step }),
    each_on Fits first start mid s u v before part led run (λ b m a y p. fits b m a y (later_point mac answers first s x (part ++ before) b m y a p)),
  )

  module _ (first : AgentRecord H P) (s : Stream) (log : List (Logged P)) (fresh : IsFresh first) where
    pub checks_stay_paced : ChecksArePaced {H = H} mac answers → ChecksStayPaced mac answers first s log
    checks_stay_paced law from long pace paced some ends before mid after x point patient =
        let run = run_to mac answers first s log before mid x after point in
        law first after (x ∷ before) from long pace (new_first mac answers first fresh) (shared_run mac answers first s (x ∷ before) after point.following run) patient
        (before_each (IsPacedAt from long pace) first after s point.following (x ∷ before) run (λ b m a y p. paced b m a y (deeper mac answers first s log (x ∷ before) point.rest b m y a point.split p)))
        some ends

    pub seconds_stay_short : SecondsHaveFewChecks {H = H} mac answers → SecondsStayShort mac answers first s log
    seconds_stay_short law from slow ends = (
      λ before mid after x point patient. (let run = run_to mac answers first s log before mid x after point in
          (law first after (x ∷ before) from (new_first mac answers first fresh) (shared_run mac answers first s (x ∷ before) after point.following run)
          (before_each (IsSlowAt from) first after s point.following (x ∷ before) run (λ b m a y p. slow b m a y (deeper mac answers first s log (x ∷ before) point.rest b m y a point.split p))) ends).0 patient),
      λ late before mid after x point patient. (let run = run_to mac answers first s log before mid x after point in
          (law first after (x ∷ before) from (new_first mac answers first fresh) (shared_run mac answers first s (x ∷ before) after point.following run)
          (before_each (IsSlowAt from) first after s point.following (x ∷ before) run (λ b m a y p. slow b m a y (deeper mac answers first s log (x ∷ before) point.rest b m y a point.split p))) ends).1 patient
          (before_each (IsLateAt from) first after s point.following (x ∷ before) run (λ b m a y p. late b m a y (deeper mac answers first s log (x ∷ before) point.rest b m y a point.split p)))),
      λ room before mid after x point frugal. (let run = run_to mac answers first s log before mid x after point in
          (law first after (x ∷ before) from (new_first mac answers first fresh) (shared_run mac answers first s (x ∷ before) after point.following run)
          (before_each (IsSlowAt from) first after s point.following (x ∷ before) run (λ b m a y p. slow b m a y (deeper mac answers first s log (x ∷ before) point.rest b m y a point.split p))) ends).2
          (frugal_at_each from first after s point.following (x ∷ before) run frugal) room),
    )

    pub silent_pairs_stay_few : SilentPairsGetFew {H = H} mac answers → SilentPairsStayFew mac answers first s log
    silent_pairs_stay_few law t n ends timed before mid after x point order p has silent =
        let run = run_to mac answers first s log before mid x after point in
        law t n first after (x ∷ before) ends (new_first mac answers first fresh) (shared_run mac answers first s (x ∷ before) after point.following run) order
        (before_each (IsTimedBy t) first after s point.following (x ∷ before) run (λ b m a y q. timed b m a y (deeper mac answers first s log (x ∷ before) point.rest b m y a point.split q))) p has silent

    pub asked_pairs_stay_few : AskedPairsGetFew {H = H} mac answers → AskedPairsStayFew mac answers first s log
    asked_pairs_stay_few law t n ends timed before part start last h order p q has has_after silent asked =
        let times = in_order 0 part before order in
        let whole : AtEach mac answers first s (part ++ before) (λ _ mid x _. IsTimedBy t mid x) =
        λ b m a y p. timed b m a y (deeper mac answers first s log (part ++ before) h.rest b m y a h.split p) in
        law t n first start last before part ends (new_first mac answers first fresh) (shared_run mac answers first s before start h.at h.led) times.0
        (before_each (IsTimedBy t) first start s h.at before h.led (λ b m a y p. whole b m a y (deeper mac answers first s (part ++ before) before part b m y a refl p)))
        (shared_on before part start last h.at h.following h.run) times.1 (each_on (IsTimedBy t) first start last s h.at h.following before part h.led h.run whole)
        p q has has_after silent asked

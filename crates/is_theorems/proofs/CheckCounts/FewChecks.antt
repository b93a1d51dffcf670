-- So a pair without a response gets few checks while no request arrives on it.
use Rattle.is_theorems.proofs.Common.{◌+◌, ◌<◌, ◌≡◌, ◌≤◌, ◌⊎◌, AgentRecord, ap, AreInOrder, arith, AskedPairsGetFew, BeforeEach}
use Rattle.is_theorems.proofs.Common.{CandidateRecord, false, Has, inr, IsNewlyCreated, IsSilent, IsTimedBy, List, Logged, MAX, None}
use Rattle.is_theorems.proofs.Common.{PairRecord, refl, RequestRecord, SharedRun, SilencesHaveFewChecks, SilentPairsGetFew, Some}
use Rattle.is_theorems.proofs.Common.{StaysSilent, StunTiming, subst, sym, time_of, ℕ}
use Rattle.is_theorems.proofs.CheckCounts.Bounds.{Bound, Covers, Ends, IsPastRequest, any, any-ends, brought, brought-ends, covers-any}
use Rattle.is_theorems.proofs.CheckCounts.Bounds.{covers-brought}
use Rattle.is_theorems.proofs.CheckCounts.KeptPairs.{IsKept}
use Rattle.is_theorems.proofs.CheckCounts.FollowedPairs.{IsOnSchedule, followed-few, watched}
use Rattle.is_theorems.proofs.CheckCounts.OnSchedule.{few-of}
use Rattle.is_theorems.proofs.CheckCounts.PastTimes.{Watch}
use Rattle.is_theorems.proofs.ExecutionLogs.SharedLogTheorems.{new_sound}
use Rattle.is_theorems.proofs.PathSelection.SelectedPairIsNominated.{IsNamed}
use Rattle.is_theorems.proofs.RuleEffects.SelectedPaths.{one_pair}
use Rattle.is_theorems.proofs.CheckCounts.SilentTimeouts.{latest}
use Rattle.is_theorems.proofs.CheckCounts.SilentPairs.{IsRun, along}

module _ {H P : Type 0} where
  module _ (mac : H → List ℕ → List ℕ → List ℕ) (answers : P → CandidateRecord → ℕ → ℕ → Type 0) (t : StunTiming) (bound : Bound) (ends : Ends t bound) where
    no-watch : {X : Type 0} (w : Watch) → None ≡ Some w → X
    no-watch w is = absurd (cc)

    -- an execution of a new agent
    begun : (first last : AgentRecord H P) (log : List (Logged P)) → IsNewlyCreated first → (run : SharedRun mac answers first log last) → AreInOrder 0 log → BeforeEach mac answers (IsTimedBy t) first log last run
        → IsRun mac answers t bound ends None 0 (λ w is. no-watch w is) (λ w is. no-watch w is) (time_of 0 log) last
    begun first last log (creds, tie, role, is) run order timed =
        along mac answers t bound ends None 0 (λ w is. no-watch w is) (λ w is. no-watch w is) 0 first last log run order timed (record {
          sound = new_sound first (creds, tie, role, is);
          path = None;
          named = subst (λ (a : AgentRecord H P). IsNamed None a) (sym is) (λ p has. absurd has);
          back = subst (λ (a : AgentRecord H P). latest a ≤ 0) (sym is) (omega arith);
          queued = subst (λ (a : AgentRecord H P). (q : RequestRecord) → Has a.queue q → q.time ≤ 0) (sym is) (λ q has. absurd has);
          kept = subst (λ (a : AgentRecord H P). IsKept 0 0 (IsOnSchedule t bound None (latest a) 0) a.next_number a.pairs) (sym is) (record { rising = tt; below = λ p has. absurd has; each = λ p has. absurd has; low = omega arith });
        })

    pub silent-are-few : bound.asked ≡ false → (first last : AgentRecord H P) (log : List (Logged P)) → IsNewlyCreated first → (run : SharedRun mac answers first log last) → AreInOrder 0 log
        → BeforeEach mac answers (IsTimedBy t) first log last run → (p : PairRecord) → Has last.pairs p → IsSilent p → p.checks_sent ≤ bound.checks
    silent-are-few each first last log new run order timed p has silent =
        let k = begun first last log new run order timed in
        let few = few-of t bound 0 (latest last) p ((k.kept.each p has (search silent.unanswered)).unrequested each silent.unheard) in
        omega (arith, few)

    module _ (first start last : AgentRecord H P) (before part : List (Logged P)) (new : IsNewlyCreated first)
        (earlier : SharedRun mac answers first before start) (order : AreInOrder 0 before) (timed : BeforeEach mac answers (IsTimedBy t) first before start earlier)
        (run : SharedRun mac answers start part last) (on_order : AreInOrder (time_of 0 before) part) (on_timed : BeforeEach mac answers (IsTimedBy t) start part last run)
        (p q : PairRecord) (has : Has start.pairs p) (has_after : Has last.pairs q) (silent : StaysSilent p q) (kept : (p.requests ≡ 0) ⊎ IsPastRequest t bound)
        (covers : (q.requests ≡ 0 → q.first_after_request ≡ None) → Covers bound q) where
      abbrev watch : Watch
      watch = record { number = p.number; requests = p.requests; count = p.checks_sent }

      was : IsRun mac answers t bound ends None 0 (λ w is. no-watch w is) (λ w is. no-watch w is) (time_of 0 before) start
      was = begun first start before new earlier order timed

      is-watch : (w : Watch) → Some watch ≡ Some w → watch ≡ w
      is-watch w is = cc

      apart : (w : Watch) → Some watch ≡ Some w → (w.number < start.next_number) × (w.requests < MAX)
      apart w is = subst (λ (v : Watch). (v.number < start.next_number) × (v.requests < MAX)) (is-watch w is) (was.kept.below p has, silent.counted)

      fits : (w : Watch) → Some watch ≡ Some w → (w.requests ≡ 0) ⊎ IsPastRequest t bound
      fits w is = subst (λ (v : Watch). (v.requests ≡ 0) ⊎ IsPastRequest t bound) (is-watch w is) kept

      -- the pair is followed from here on
      each-on : (x : PairRecord) → Has start.pairs x → IsOnSchedule t bound (Some watch) (latest start) (time_of 0 before) x
      each-on x there = watched t bound watch (latest start) (time_of 0 before) x (was.kept.each x there)
          (λ same. (let one : x ≡ p = one_pair start.pairs x p was.kept.rising there has same in (ap (λ (y : PairRecord). y.requests) one, ap (λ (y : PairRecord). y.checks_sent) one)))

      follows : IsRun mac answers t bound ends (Some watch) start.next_number apart fits (time_of (time_of 0 before) part) last
      follows = along mac answers t bound ends (Some watch) start.next_number apart fits (time_of 0 before) start last part run on_order on_timed (record {
        sound = was.sound;
        path = was.path;
        named = was.named;
        back = was.back;
        queued = was.queued;
        kept = record { rising = was.kept.rising; below = was.kept.below; each = each-on; low = omega arith };
      })

      pub few-since : q.checks_sent ≤ p.checks_sent + bound.checks
      few-since =
          let on = follows.kept.each q has_after silent.unanswered in
          followed-few t bound watch (latest last) _ q on (covers on.past.unasked) silent.number (let same = silent.unheard in omega (arith, same))

  pub silent-pairs-get-few : (mac : H → List ℕ → List ℕ → List ℕ) (answers : P → CandidateRecord → ℕ → ℕ → Type 0) → SilentPairsGetFew mac answers
  silent-pairs-get-few mac answers t n first last log ends new run order timed p has silent = silent-are-few mac answers t (any n) (any-ends t n ends) refl first last log new run order timed p has silent

  pub silences-have-few : (mac : H → List ℕ → List ℕ → List ℕ) (answers : P → CandidateRecord → ℕ → ℕ → Type 0) → SilencesHaveFewChecks mac answers
  silences-have-few mac answers t n first start last before part ends new earlier order timed run on_order on_timed p q has has_after since =
      few-since mac answers t (any n) (any-ends t n ends) first start last before part new earlier order timed run on_order on_timed p q has has_after since.silent since.kept (λ _. covers-any n q)

  pub asked-pairs-get-few : (mac : H → List ℕ → List ℕ → List ℕ) (answers : P → CandidateRecord → ℕ → ℕ → Type 0) → AskedPairsGetFew mac answers
  asked-pairs-get-few mac answers t n first start last before part ends new earlier order timed run on_order on_timed p q has has_after silent asked =
      few-since mac answers t (brought n) (brought-ends t n ends) first start last before part new earlier order timed run on_order on_timed p q has has_after silent (inr ends.past)
      (λ unasked. covers-brought n q unasked asked)

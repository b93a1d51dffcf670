-- In the rounds in which the check is due, a success response is accepted or the check is sent. Then a success response comes within the
-- round trip, and the first one selects a path. What mutants/specifications changes is read by tactics.
use Rattle.is_theorems.proofs.Common.{[], ◌*◌, ◌++◌, ◌+◌, ◌<◌, ◌∷◌, ◌≡◌, ◌≤◌, ◌⊎◌, AcceptsBy, AcceptsSuccessAlong, AgentRecord, AreBetween}
use Rattle.is_theorems.proofs.Common.{AreInRound, arith, Awaits, Call, CandidateRecord, ChecksBy, ComeBy, Done, EndsAmong, Entry, Execution}
use Rattle.is_theorems.proofs.Common.{ExecutionRound, ExecutionRounds, ExecutionsCheckFromDue, ExecutionsReachServed}
use Rattle.is_theorems.proofs.Common.{ExecutionsReachUnanswered, ExecutionsSelectInTime, Has, in_any_role, inl, inr, is_modern}
use Rattle.is_theorems.proofs.Common.{IsAnsweredAlong, IsFresh, IsOpenRound, IsPassed, IsReached, IsSound, IsTimed, IsUnanswered, length}
use Rattle.is_theorems.proofs.Common.{List, MAX, PairRecord, PassRounds, Path, path_of, refl, SelectsBy, subst, SuccessesSelect, Suffices}
use Rattle.is_theorems.proofs.Common.{SufficesForServed, sym, true, ℕ}
use Rattle.is_theorems.proofs.DuePairs.NoNominationDue.{Quiet, due-none}
use Rattle.is_theorems.proofs.ExecutionLogs.PerAgentExecutions.{either_has, front_has}
use Rattle.is_theorems.proofs.PathSelection.FirstSuccessInRounds.{selects-by}
use Rattle.is_theorems.proofs.PollingRounds.InTurnAlong.{lined-unanswered}
use Rattle.is_theorems.proofs.PunctualTimeouts.ChecksInTime.{check-or-select, come-all, IsAnsweredBy, never, rounds-come-soon, sound-after}

module _ {P : Type 0} where
  -- ---- an accepted success response

  accepts-later : (one two : ℕ) (rounds : List (ExecutionRound P)) → one ≤ two → AcceptsBy one rounds → AcceptsBy two rounds
  accepts-later one two [] le accepts = absurd accepts
  accepts-later one two (r ∷ later) le (in_time, accepts) = (
    omega (arith, in_time, le),
    elim accepts [ inl here ↦ inl here | inr after ↦ inr (accepts-later one two later (omega (arith, le)) after) ],
  )

  -- in the first ones of the rounds
  accepts-before : (limit : ℕ) (front more : List (ExecutionRound P)) → AcceptsBy limit front → AcceptsBy limit (front ++ more)
  accepts-before limit [] more accepts = absurd accepts
  accepts-before limit (r ∷ front) more (in_time, accepts) = (
    omega (arith, in_time),
    elim accepts [ inl here ↦ inl here | inr after ↦ inr (accepts-before limit front more after) ],
  )

  along-path : (path : Path) (xs : List (Call P × Entry)) → IsAnsweredAlong xs path → AcceptsSuccessAlong xs
  along-path path xs (x, has, (at, by, m, brings, success, on)) = (x, has, (at, by, m, brings, success))

  on-path : (path : Path) (limit : ℕ) (rounds : List (ExecutionRound P)) → IsAnsweredBy path limit rounds → AcceptsBy limit rounds
  on-path path limit [] answered = absurd answered
  on-path path limit (r ∷ later) (in_time, answered) = (
    omega (arith, in_time),
    elim answered [ inl here ↦ inl (along-path path r.following here) | inr after ↦ inr (on-path path limit later after) ],
  )

  -- each of the rounds begins by this time
  among-rounds : (limit : ℕ) (rounds : List (ExecutionRound P)) → ((x : ExecutionRound P) → Has rounds x → x.now ≤ limit) → (y : ExecutionRound P) → Has rounds y → AcceptsSuccessAlong y.following
      → AcceptsBy limit rounds
  among-rounds limit [] begin y has accepts = absurd has
  among-rounds limit (r ∷ later) begin y (inl is) accepts =
      (begin r (inl refl), inl (subst (λ (x : ExecutionRound P). AcceptsSuccessAlong x.following) (sym is) accepts))
  among-rounds limit (r ∷ later) begin y (inr has) accepts =
      (begin r (inl refl), inr (among-rounds limit later (λ x there. begin x (inr there)) y has accepts))

module _ {H P : Type 0} (mac : H → List ℕ → List ℕ → List ℕ) (answers : P → CandidateRecord → ℕ → ℕ → Type 0) where
  -- rounds after rounds
  rounds-on : (front back : List (ExecutionRound P)) (old end last : AgentRecord H P) → ExecutionRounds mac answers front old end → ExecutionRounds mac answers back end last
      → ExecutionRounds mac answers (front ++ back) old last
  rounds-on [] back old end last is more = subst (λ (a : AgentRecord H P). ExecutionRounds mac answers back a last) is more
  rounds-on (r ∷ front) back old end last (mid, next, s, t, step, role, execution, along, rest) more =
      (mid, next, s, t, step, role, execution, along, rounds-on front back next end last rest more)

  -- ---- the check is sent, or a success response is accepted, in time

  abbrev Reached : (limit : ℕ) (r : ExecutionRound P) (later : List (ExecutionRound P)) (start end : AgentRecord H P) → ExecutionRounds mac answers (r ∷ later) start end → Path → Type 0
  Reached limit r later start end run path =
      ChecksBy limit (r ∷ later) path
      ⊎ (AcceptsBy limit (r ∷ later) ⊎ EndsAmong mac answers (r ∷ later) start end (in_any_role mac answers (r ∷ later) start end run) path)

  -- the path is reached in the rounds, or a success response is accepted in them
  abbrev MayReach : (r : ExecutionRound P) (later : List (ExecutionRound P)) (start end : AgentRecord H P) → ExecutionRounds mac answers (r ∷ later) start end → Path → Type 0
  MayReach r later start end run path =
      ((x : ExecutionRound P) × Has (r ∷ later) x × AcceptsSuccessAlong x.following) ⊎ IsReached mac answers (r ∷ later) start end (in_any_role mac answers (r ∷ later) start end run) path

  reached-open : (first start end : AgentRecord H P) (xs : List (Call P × Entry)) (r : ExecutionRound P) (later : List (ExecutionRound P)) (p : PairRecord) (by pace delay : ℕ)
      → IsFresh first → Execution mac answers xs first start → start.controlling ≡ true → Awaits r.now by start p → IsUnanswered start p
      → by ≤ r.now → r.timeout.answer ≡ Done → r.now < MAX → AreInRound (is_modern start.timing) r.following → (run : ExecutionRounds mac answers (r ∷ later) start end)
      → ((x : ExecutionRound P) → Has later x → IsOpenRound (is_modern start.timing) by x) → IsTimed pace delay start r later → MayReach r later start end run (path_of start p)
      → Reached (r.now + length later * (pace + delay)) r later start end run (path_of start p)
  reached-open first start end xs r later p by pace delay fresh execution role waits unanswered from done early between run opens timed found =
      elim (rounds-come-soon mac answers first start end xs r later p by pace delay fresh execution (lined-unanswered r.now by start p waits unanswered) (omega (arith, from)) done (λ y has. between y has)
      pass (λ x has. opens x has) (λ x has valid. never valid (unanswered.invalid p waits.there)) timed) [
        | inr (inl checks) ↦ inl checks
        | inr (inr (inl answered)) ↦ inr (inl (on-path (path_of start p) _ (r ∷ later) answered))
        | inr (inr (inr ends)) ↦ inr (inr ends)
        | inl come ↦ elim found [
          | inl (x, has, accepts) ↦ inr (inl (among-rounds _ (r ∷ later) (in-time come) x has accepts))
          | inr (inl (y, id, has, out)) ↦ inl (y, has, (id, out), in-time come y has)
          | inr (inr (inl (x, has, answered))) ↦ inr (inl (among-rounds _ (r ∷ later) (in-time come) x has (along-path (path_of start p) x.following answered)))
          | inr (inr (inr ends)) ↦ inr (inr ends)
        ]
      ] where
        pass : PassRounds mac answers (r ∷ later) start end
        pass = in_any_role mac answers (r ∷ later) start end run

        in-time : ComeBy r.now (pace + delay) (r ∷ later) → (x : ExecutionRound P) → Has (r ∷ later) x → x.now ≤ r.now + length later * (pace + delay)
        in-time come x has = come-all r.now (pace + delay) r later x has come

  -- ---- the theorem

  pub executions-select-in-time : ExecutionsCheckFromDue {H = H} {P = P} mac answers → ExecutionsReachUnanswered {H = H} {P = P} mac answers → ExecutionsReachServed {H = H} {P = P} mac answers → SuccessesSelect {H = H} {P = P} mac answers
      → ExecutionsSelectInTime {H = H} {P = P} mac answers
  executions-select-in-time check reach serve select first start end last xs r later more p by pace delay trip fresh execution role waits unanswered from done early between run on opens after enough timed answered =
      elim enough [
        | inl (plain, few) ↦
            elim (check-or-select mac answers check select first start end xs r later p by pace delay fresh execution controls waits unanswered (omega (arith, from)) done (omega (arith, early)) (λ x has. (let fits = plain r (inl refl) x has in search fits))
            run (λ x has. passed (λ y there z inside. (let fits = plain y there z inside in search fits)) x has) (search few) timed) [
              | inl checks ↦ inl (by-check checks)
              | inr (c, has, selected, by_then) ↦ inl (c, front_has (r ∷ later) more c has, selected, omega (arith, by_then))
            ]
        | inr many ↦
            elim (reached-open first start end xs r later p by pace delay fresh execution controls waits unanswered (omega (arith, from)) done (omega (arith, early)) (λ x has. between x has) run (λ x has. opens x has) timed (may-reach many)) [
              | inl checks ↦ inl (by-check checks)
              | inr (inl accepts) ↦ inl (by-success (accepts-later _ limit rounds (omega arith) (accepts-before _ (r ∷ later) more accepts)))
              | inr (inr ends) ↦ inr (search ends)
            ]
      ] where
        rounds : List (ExecutionRound P)
        rounds = r ∷ (later ++ more)

        limit : ℕ
        limit = r.now + length later * (pace + delay) + trip

        controls : start.controlling ≡ true
        controls = cc

        may-reach : Suffices by r.now start run.1 end (length later) 0 0 ⊎ SufficesForServed mac answers start p later run.1 end (in_any_role mac answers later run.1 end run.8)
            → MayReach r later start end run (path_of start p)
        may-reach (inl suffices) =
            reach first start end xs r later p by fresh execution controls waits unanswered (omega (arith, from)) done (omega (arith, early)) (λ y has. between y has)
            (in_any_role mac answers (r ∷ later) start end run) (λ x has. opens x has) (search suffices)
        may-reach (inr served) =
            serve first start end xs r later p by fresh execution controls waits unanswered (omega (arith, from)) done (λ y has. between y has)
            (in_any_role mac answers (r ∷ later) start end run) (λ x has. opens x has) (search served)

        sound : IsSound start
        sound = sound-after mac answers first start xs fresh execution

        quiet : Quiet start
        quiet = record {
          full = waits.checking.full;
          invalid = λ q has. (let none = unanswered.invalid in none q has);
          quiet = due-none start sound controls waits.checking.full unanswered.calm;
        }

        passed : ((x : ExecutionRound P) → Has (r ∷ later) x → AreBetween x.following) → (x : ExecutionRound P) → Has later x → IsPassed by x
        passed plain x has =
            let round = opens x has in
            record {
              done = round.done;
              late = (let late = round.late in omega (arith, late));
              early = (let early = round.early in omega (arith, early));
              between = λ y there. plain x (inr has) y there;
            }

        fits : (x : ExecutionRound P) → Has rounds x → AreInRound (is_modern start.timing) x.following
        fits x (inl is) = subst (λ (y : ExecutionRound P). AreInRound (is_modern start.timing) y.following) is (λ y there. between y there)
        fits x (inr has) = elim (either_has later more x has) [
          | inl one_of_them ↦ (let round = opens x one_of_them in λ y there. (let in_round = round.between in in_round y there))
          | inr later_one ↦ λ y there. (let in_round = after x later_one in in_round y there)
        ]

        -- a success response that is accepted selects a path
        by-success : AcceptsBy limit rounds → SelectsBy limit rounds
        by-success accepts =
            selects-by mac answers select first fresh (is_modern start.timing) limit rounds start last xs execution refl sound quiet (rounds-on (r ∷ later) more start end last run on) (λ x there. fits x there) accepts

        by-check : ChecksBy (r.now + length later * (pace + delay)) (r ∷ later) (path_of start p) → SelectsBy limit rounds
        by-check (c, has, checks, by_then) = by-success (accepts-later _ limit rounds (omega (arith, by_then)) (answered c (front_has (r ∷ later) more c has) checks))

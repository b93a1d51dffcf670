-- A controlling agent without a valid pair that is due by its first `handle_timeout` call has none after the round either, or selects
-- a path in it. So what holds of pairs that are due before the rounds holds of it from the second round on.
use Rattle.is_theorems.proofs.Common.{[], ◌++◌, ◌<◌, ◌∙◌, ◌∷◌, ◌≡◌, ◌≤◌, ◌⊎◌, AgentRecord, ap, AreAsManyAsDue, AreBetween, arith, Bool}
use Rattle.is_theorems.proofs.Common.{Call, CandidateRecord, ChecksAmong, ControlsAlong, due_time_of, Entry, eq-eqb, Execution}
use Rattle.is_theorems.proofs.Common.{ExecutionRound, ExecutionRounds, ExecutionsCheck, ExecutionsCheckFromDue, GivesBased, HandleTimeout}
use Rattle.is_theorems.proofs.Common.{Has, inl, inr, is_between, IsFresh, IsPaced, IsPassed, IsSound, length, List, MayEnd, PairRecord}
use Rattle.is_theorems.proofs.Common.{Path, path_of, PollEvent, PollTimeout, PollTransmit, ReceivePacket, refl, SelectsAmong, Some, Step}
use Rattle.is_theorems.proofs.Common.{Stream, StunTiming, subst, SuccessesSelect, SufficeForDue, sym, timeout_begun, times_of, true}
use Rattle.is_theorems.proofs.Common.{unanswered_count, ℕ}
use Rattle.is_theorems.proofs.DuePairs.AfterPackets.{NoneValid}
use Rattle.is_theorems.proofs.DuePairs.NoNominationDue.{NoneIsDue, Quiet, due-none, none-is-due, quiet-call, quiet-timeout}
use Rattle.is_theorems.proofs.PollingRounds.InTurnAlong.{Lined, lined-unanswered}
use Rattle.is_theorems.proofs.PathSelection.FirstSuccessInRounds.{SelectsBySuccess, success-selects}
use Rattle.is_theorems.proofs.PathSelection.NominatedByPeerPerAgent.{execution_on}
use Rattle.is_theorems.proofs.CallEffects.PathAndTradeEffects.{path_theorem}
use Rattle.is_theorems.proofs.ExecutionLogs.LogSegments.{no-case, passed as passed-at}
use Rattle.is_theorems.proofs.EarlierChecks.BetweenTimeouts.{Ground}
use Rattle.is_theorems.proofs.DuePairs.FirstDuePair.{Follows, due-at, timeout-follows}
use Rattle.is_theorems.proofs.CallEffects.FailedCallsAndNewAgents.{fresh_sound}
use Rattle.is_theorems.proofs.DuePairs.PollingCycles.{maintains_pairs-from}
use Rattle.is_theorems.proofs.StoredPairs.PairsThatStay.{pairs-stay}
use Rattle.is_theorems.proofs.StoredPairs.TransactionsOverPackets.{sound-execution}
use Rattle.is_theorems.proofs.DuePairs.AfterNominationAndRemoval.{Base, answered_at, base_of as agent_base}
use Rattle.is_theorems.proofs.EarlierChecks.FirstTimeout.{Other}
use Rattle.is_theorems.proofs.PollingRounds.FirstRound.{Keeps, Waits, asks-keeps, between-keeps, keeps-to, lt-from, timeout-on, only-one}
use Rattle.is_theorems.proofs.PollingRounds.FirstRound.{waits-on}

many-times : {P : Type 0} (rounds : List (ExecutionRound P)) → length (times_of rounds) ≡ length rounds
many-times [] = omega arith
many-times (r ∷ later) = let k = many-times later in omega (arith, k)

module _ {H P : Type 0} where
  -- the pair waits, and none is valid
  pub record Calm (by n : ℕ) (path : Path) (keeps : ℕ → Bool) (at : ℕ) (a : AgentRecord H P) : Type 0 where
    pub waits : Waits by n path keeps at a
    pub invalid : NoneValid a.pairs
    pub role : a.controlling ≡ true
    pub quiet : NoneIsDue a
    pub paced : IsPaced a.timing

  module _ (mac : H → List ℕ → List ℕ → List ℕ) (answers : P → CandidateRecord → ℕ → ℕ → Type 0) (by n : ℕ) (path : Path) (keeps : ℕ → Bool) (at : ℕ) where
    calm-quiet : (a : AgentRecord H P) → Calm by n path keeps at a → Quiet a
    calm-quiet a c = record { full = c.waits.checking.full; invalid = c.invalid; quiet = c.quiet }

    -- ---- what comes after the call

    plain-stays : (old : AgentRecord H P) (c : Call P) (e : Entry) (p : PairRecord) → is_between c ≡ true → MayEnd answers old c e p → ⊥
    plain-stays old (ReceivePacket now via bytes) e p is ends = ends
    plain-stays old PollTransmit e p is ends = ends
    plain-stays old PollTimeout e p is ends = ends
    plain-stays old PollEvent e p is ends = ends
    plain-stays old _ e p is ends = no-case is

    -- the pair still waits, if none became valid
    still : by ≤ at → (call : Call P) (e : Entry) (old new : AgentRecord H P) (s t : Stream) → is_between call ≡ true → GivesBased call → Calm by n path keeps at old → IsSound old → IsSound new
        → Step mac answers old s call e new t → new.controlling ≡ true → NoneValid new.pairs → NoneIsDue new → Keeps n old new → Calm by n path keeps at new
    still from call e old new s t is given c sound sound_new step role invalid quiet held =
        elim (pairs-stay mac answers old new s t call e c.waits.pair sound given step c.waits.there) [
          | inr ends ↦ absurd (plain-stays old call e c.waits.pair is ends)
          | inl stays ↦ record {
            waits = waits-on mac answers by n path keeps at from old new c.waits sound_new held stays;
            invalid = invalid;
            role = role;
            quiet = quiet;
            paced = subst (λ (z : StunTiming). IsPaced z) (sym (ap (λ (g : Ground). g.timing) held.0)) c.paced;
          }
        ]

    -- a success response selects a path
    module _ (select : SuccessesSelect {H = H} {P = P} mac answers) (first : AgentRecord H P) (fresh : IsFresh first) where
      pub on-call : by ≤ at → (call : Call P) (e : Entry) (old new : AgentRecord H P) (s t : Stream) (zs : List (Call P × Entry)) → Execution mac answers zs first old → is_between call ≡ true → GivesBased call
          → Calm by n path keeps at old → IsSound old → IsSound new → Step mac answers old s call e new t → new.controlling ≡ true → SelectsBySuccess call e ⊎ Calm by n path keeps at new
      on-call from (ReceivePacket now via bytes) e old new s t zs led is given c sound sound_new step role =
          elim (quiet-call mac answers (ReceivePacket now via bytes) e old new s t refl sound tt (calm-quiet old c) step) [
            | inl (when, by_path, m, (now_is, path_is, reads, flag), success) ↦ inl (success-selects mac answers select first fresh now via bytes e m old new s t zs led c.invalid step role reads flag success)
            | inr q ↦
                elim (between-keeps mac answers by n path keeps at (ReceivePacket now via bytes) e old new s t c.waits.checking.peer c.waits.last c.waits.pair sound c.waits.there c.waits.number c.waits.on true refl step) [
                  | inl (when, by_path, m, (now_is, path_is, reads, flag), success, back) ↦ inl (success-selects mac answers select first fresh now via bytes e m old new s t zs led c.invalid step role reads flag success)
                  | inr (inl ends) ↦ absurd ends
                  | inr (inr held) ↦ inr (still from (ReceivePacket now via bytes) e old new s t is given c sound sound_new step role q.invalid q.quiet held)
                ]
          ]
      on-call from PollTransmit e old new s t zs led is given c sound sound_new (packet, emitted, (polled, made), drawn) role =
          elim (quiet-call mac answers PollTransmit e old new s t refl sound tt (calm-quiet old c) (packet, emitted, (polled, made), drawn)) [
            | inl (when, by_path, m, none, success) ↦ absurd none
            | inr q ↦ inr (still from PollTransmit e old new s t is given c sound sound_new (packet, emitted, (polled, made), drawn) role q.invalid q.quiet (keeps-to n old _ new (refl, λ d cs le f. f) made))
          ]
      on-call from PollTimeout e old new s t zs led is given c sound sound_new (deadline, emitted, timed_out, drawn) role =
          elim (quiet-call mac answers PollTimeout e old new s t refl sound tt (calm-quiet old c) (deadline, emitted, timed_out, drawn)) [
            | inl (when, by_path, m, none, success) ↦ absurd none
            | inr q ↦ inr (still from PollTimeout e old new s t is given c sound sound_new (deadline, emitted, timed_out, drawn) role q.invalid q.quiet (asks-keeps n at old new deadline c.waits.last timed_out))
          ]
      on-call from PollEvent e old new s t zs led is given c sound sound_new (event, emitted, (polled, made), drawn) role =
          elim (quiet-call mac answers PollEvent e old new s t refl sound tt (calm-quiet old c) (event, emitted, (polled, made), drawn)) [
            | inl (when, by_path, m, none, success) ↦ absurd none
            | inr q ↦ inr (still from PollEvent e old new s t is given c sound sound_new (event, emitted, (polled, made), drawn) role q.invalid q.quiet (keeps-to n old _ new (refl, λ d cs le f. f) made))
          ]
      on-call from _ e old new s t zs led is given c sound sound_new step role = no-case is

      walk : by ≤ at → (xs : List (Call P × Entry)) (old new : AgentRecord H P) (zs : List (Call P × Entry)) → Execution mac answers zs first old → AreBetween xs → IsSound old
          → (execution : Execution mac answers xs old new) → ControlsAlong mac answers xs old new execution → Calm by n path keeps at old
          → ((x : Call P × Entry) × Has xs x × SelectsBySuccess x.0 x.1) ⊎ Calm by n path keeps at new
      walk from [] old new zs led fits sound is along c = inr (subst (λ (a : AgentRecord H P). Calm by n path keeps at a) (sym is) c)
      walk from (x ∷ rest) old new zs led fits sound (mid, s, t, given, step, more) along c =
          let sound_mid : IsSound mid = (path_theorem mac answers old mid s t x.0 x.1 sound given step).1 in
          elim (on-call from x.0 x.1 old mid s t zs led (fits x (inl refl)) given c sound sound_mid step along.0) [
            | inl selected ↦ inl (x, inl refl, selected)
            | inr calm ↦
                elim (walk from rest mid new (zs ++ x ∷ []) (execution_on mac answers zs (x ∷ []) first old mid led (mid, s, t, given, step, refl)) (λ y has. fits y (inr has)) sound_mid more along.1 calm) [
                  | inl (y, has, selected) ↦ inl (y, inr has, selected)
                  | inr after ↦ inr after
                ]
          ]

  module _ (mac : H → List ℕ → List ℕ → List ℕ) (answers : P → CandidateRecord → ℕ → ℕ → Type 0) where
    checks-later : (x : ExecutionRound P) (rounds : List (ExecutionRound P)) (path : Path) → ChecksAmong rounds path ⊎ SelectsAmong rounds → ChecksAmong (x ∷ rounds) path ⊎ SelectsAmong (x ∷ rounds)
    checks-later x rounds path (inl (r, id, has, out)) = inl (r, id, inr has, out)
    checks-later x rounds path (inr (r, has, selected)) = inr (r, inr has, selected)

    pub executions-check-from-due : ExecutionsCheck {H = H} {P = P} mac answers → SuccessesSelect {H = H} {P = P} mac answers → ExecutionsCheckFromDue {H = H} {P = P} mac answers
    executions-check-from-due check select first start last xs r later p by fresh execution role waits unanswered from done early between run passing enough = by-enough enough where
      path : Path
      path = path_of start p

      sound_first : IsSound first
      sound_first = subst (λ (a : AgentRecord H P). IsSound a) (sym fresh.2) (fresh_sound H P first.provider fresh.0 fresh.1)

      sound_start : IsSound start
      sound_start = sound-execution mac answers xs first start sound_first execution

      sound_mid : IsSound run.0
      sound_mid = (path_theorem mac answers start run.0 run.2 run.3 (HandleTimeout r.now) r.timeout sound_start tt run.4).1

      to-mid : Execution mac answers (xs ++ (HandleTimeout r.now, r.timeout) ∷ []) first run.0
      to-mid = execution_on mac answers xs ((HandleTimeout r.now, r.timeout) ∷ []) first start run.0 execution (run.0, run.2, run.3, tt, run.4, refl)

      to-next : Execution mac answers ((xs ++ (HandleTimeout r.now, r.timeout) ∷ []) ++ r.following) first run.1
      to-next = execution_on mac answers (xs ++ (HandleTimeout r.now, r.timeout) ∷ []) r.following first run.0 run.1 to-mid run.6

      line : Lined r.now by start p
      line = lined-unanswered r.now by start p waits unanswered

      quiet : Quiet run.0
      quiet = quiet-timeout mac answers r.now r.timeout start run.0 run.2 run.3 sound_start
          (record { full = waits.checking.full; invalid = λ q has. (let none = unanswered.invalid in none q has); quiet = due-none start sound_start role waits.checking.full unanswered.calm }) run.4

      -- what the call leaves of the others
      after-call : (agent_base run.0 ≡ record (agent_base (timeout_begun r.now start)) { last_time = Some r.now; ahead_turn = run.0.ahead_turn }) × Follows start.pairs run.0.pairs
      after-call = timeout-follows mac r.now (timeout_begun r.now start) run.0 run.2 run.3 r.timeout.emitted waits.checking.peer waits.checking.full
          (maintains_pairs-from mac r.now start run.2 run.3 r.timeout.emitted run.0 waits.queue (passed-at mac answers start run.0 run.2 run.3 r.now r.timeout done run.4))

      -- it is not the only pair
      apart : Other start p → length start.pairs ≤ 1 → ⊥
      apart (o, o_has, is) few =
          let one : o ≡ p = only-one start.pairs o p few o_has waits.there in
          no-case (sym is ∙ eq-eqb p.number o.number (ap (λ (x : PairRecord). x.number) (sym one)))

      from-second : (rounds : List (ExecutionRound P)) → Calm by p.number path (answered_at start p) r.now run.1 → (more : ExecutionRounds mac answers rounds run.1 last) → ((x : ExecutionRound P) → Has rounds x → IsPassed by x)
          → AreAsManyAsDue by run.1 (times_of rounds) → ChecksAmong rounds path ⊎ SelectsAmong rounds
      from-second [] c more passing enough = absurd enough
      from-second (second ∷ rounds) c more passing enough =
          let v = c.waits in
          let many = many-times rounds in
          let due : due_time_of second.now run.1.timing v.pair ≡ v.timeout = due-at second.now v.timeout run.1.timing v.pair v.due in
          subst (λ w. ChecksAmong (second ∷ rounds) w ⊎ SelectsAmong (second ∷ rounds)) v.on
          (check first run.1 last ((xs ++ (HandleTimeout r.now, r.timeout) ∷ []) ++ r.following) second rounds v.pair by fresh to-next c.role
          (record {
            checking = v.checking;
            paced = c.paced;
            queue = v.queue;
            there = v.there;
            due = subst (λ d. d ≤ by) (sym due) v.before;
          })
          (record { calm = none-is-due run.1 c.quiet; invalid = c.invalid; young = lt-from (unanswered_count v.pair.checks) run.1.timing.max_retransmits v.young }) more passing (omega (arith, many, enough)))

      from-first : (length start.pairs ≤ 1) ⊎ AreAsManyAsDue by run.1 (times_of later) → ChecksAmong (r ∷ later) path ⊎ SelectsAmong (r ∷ later)
      from-first enough = elim (timeout-on mac answers by p.number path (answered_at start p) r.now (omega (arith, from)) r.timeout start run.0 run.2 run.3 p done run.4 sound_start sound_mid line (λ m is. is) refl refl) [
        | inl (id, out) ↦ inl (r, id, inl refl, out)
        | inr (other, w) ↦ elim enough [
          | inl few ↦ absurd (apart other (omega (arith, few)))
          | inr many ↦ elim (walk mac answers by p.number path (answered_at start p) r.now select first fresh (omega (arith, from)) r.following run.0 run.1 (xs ++ (HandleTimeout r.now, r.timeout) ∷ []) to-mid (λ x has. between x has) sound_mid run.6 run.7
              (record {
                waits = w;
                invalid = quiet.invalid;
                role = run.5;
                quiet = quiet.quiet;
                paced = subst (λ (z : StunTiming). IsPaced z) (sym (ap (λ (b : Base). b.timing) after-call.0)) waits.paced;
              })) [
                | inl (x, has, (accepts, selected_paths)) ↦ inr (r, inl refl, (x, has, accepts, selected_paths))
                | inr c ↦ checks-later r later path (from-second later c run.8 passing many)
              ]
        ]
      ]

      by-enough : SufficeForDue by r.now start run.1 (times_of later) → ChecksAmong (r ∷ later) path ⊎ SelectsAmong (r ∷ later)
      by-enough (inl (late, enough)) =
          let many = many-times later in
          check first start last xs r later p by fresh execution role waits unanswered run (λ x has. open-from (omega (arith, late)) x has) (omega (arith, many, enough)) where
            open-from : by < r.now → (x : ExecutionRound P) → Has (r ∷ later) x → IsPassed by x
            open-from before x (inl is) = subst (λ (y : ExecutionRound P). IsPassed by y) is (record { done = done; late = before; early = early; between = between })
            open-from before x (inr has) = passing x has
      by-enough (inr enough) = from-first enough

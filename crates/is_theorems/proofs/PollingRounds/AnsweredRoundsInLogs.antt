-- Rounds in a log: if the checks of a pair are answered, a path is selected within as many rounds as there are pairs
-- that are due no later, or within twice as many if checks may go ahead.
use Rattle.is_theorems.proofs.Common.{[], ◌++◌, ◌+◌, ◌<◌, ◌∙◌, ◌∷◌, ◌≡◌, ◌≤◌, ◌⊎◌, AcceptsSuccess, AgentRecord, AnsweredRoundsSelect, ap}
use Rattle.is_theorems.proofs.Common.{append_assoc, arith, began_at, BringsSuccess, Call, CandidateRecord, due_by, entries_of, Entry}
use Rattle.is_theorems.proofs.Common.{GivesBased, HandleTimeout, Has, inl, inr, is_between, is_in_round, is_modern, IsControllingIn}
use Rattle.is_theorems.proofs.Common.{IsFresh, IsRound, IsSound, length, List, Logged, LoggedRound, MAX, Passes, Path, path_of, PollEvent}
use Rattle.is_theorems.proofs.Common.{PollTimeout, PollTransmit, ReceivePacket, refl, Run, RunsOn, SegmentSelects, Some, Step, Stream}
use Rattle.is_theorems.proofs.Common.{subst, sym, true, ℕ}
use Rattle.is_theorems.proofs.CallEffects.PathAndTradeEffects.{path_theorem}
use Rattle.is_theorems.proofs.ExecutionLogs.LogTheorems.{runs_sound}
use Rattle.is_theorems.proofs.DuePairs.ChecksAhead.{calls_left, calls-from}
use Rattle.is_theorems.proofs.DuePairs.AfterNominationAndRemoval.{last_time_of}
use Rattle.is_theorems.proofs.DuePairs.AfterPackets.{Core, Arrived, receives, spares-same}
use Rattle.is_theorems.proofs.DuePairs.NoNominationDue.{NoneIsDue, quiet-call}
use Rattle.is_theorems.proofs.DuePairs.WithoutValidPair.{Calm, Persists, Waits, calm-quiet, begins, persists, passed, pass-on, never}
use Rattle.is_theorems.proofs.PollingRounds.AnsweredRounds.{calm-on, waits-on, asks}
use Rattle.is_theorems.proofs.ExecutionLogs.LogSegments.{no-case, run-on, starts-controlling, Halves, halves, passed as passed-at}
use Rattle.is_theorems.proofs.PathSelection.SelectedAfterFirstResponse.{selects_path-at}
use Rattle.is_theorems.proofs.BasicLemmas.VacantIndices.{keeps-remote-same}

module _ {P : Type 0} where
  falls-late : (by : ℕ) (path : Path) (r : LoggedRound P) → IsRound by path r → by < r.now
  falls-late by path r round = let following = round.late in omega (arith, following)

  falls-early : (by : ℕ) (path : Path) (r : LoggedRound P) → IsRound by path r → r.now < MAX
  falls-early by path r round = let ahead = round.early in omega (arith, ahead)

module _ {H P : Type 0} where
  module _ (mac : H → List ℕ → List ℕ → List ℕ) (answers : P → CandidateRecord → ℕ → ℕ → Type 0) where
    -- ---- between two `handle_timeout` calls

    -- calm, and this was the last `handle_timeout` call
    abbrev Rests : ℕ → AgentRecord H P → Type 0
    Rests at a = Calm a × (a.last_time ≡ Some at)

    module _ (by at : ℕ) (following : by < at) (early : at < MAX) where
      -- nor is a nomination to be sent at once
      abbrev Comes : AgentRecord H P → AgentRecord H P → Type 0
      Comes old new = NoneIsDue new × Arrived mac by at following early old new

      with-quiet : (call : Call P) (e : Entry) (old new : AgentRecord H P) (s t : Stream) → Rests at old → is_in_round (is_modern old.timing) call ≡ true → GivesBased call → Step mac answers old s call e new t
          → Arrived mac by at following early old new → AcceptsSuccess call e ⊎ Comes old new
      with-quiet call e old new s t (calm, last) is given step came = elim (quiet-call mac answers call e old new s t is calm.sound given (calm-quiet old calm) step) [
        | inl success ↦ inl success
        | inr q ↦ inr (q.quiet, came)
      ]

      between-by : (call : Call P) (e : Entry) (old new : AgentRecord H P) (s t : Stream) → Rests at old → is_between call ≡ true → new.controlling ≡ true
          → Step mac answers old s call e new t → AcceptsSuccess call e ⊎ Comes old new
      between-by (ReceivePacket now path bytes) e old new s t (calm, last) is stays step =
          elim (receives mac by at following early answers (record { at = now; via = path; bytes = bytes; entry = e }) old new s t calm.checking.peer calm.role calm.checking.full calm.invalid stays step) [
            | inl success ↦ inl (now, path, success.0, (refl, refl, success.1, success.2), success.3)
            | inr k ↦ with-quiet (ReceivePacket now path bytes) e old new s t (calm, last) refl tt step k
          ]
      between-by PollTransmit e old new s t rests is stays (given, emitted, (polled, made), drawn) =
          with-quiet PollTransmit e old new s t rests refl tt (given, emitted, (polled, made), drawn) (subst (λ (a : AgentRecord H P). Arrived mac by at following early old a) (sym made) (refl, keeps-remote-same old.pairs old.remote old.remote refl, spares-same by (last_time_of old) at old.timing old.next_number old.pairs))
      between-by PollTimeout e old new s t (calm, last) is stays (deadline, emitted, timed_out, drawn) =
          with-quiet PollTimeout e old new s t (calm, last) refl tt (deadline, emitted, timed_out, drawn) (asks mac answers by at following early old new deadline last timed_out)
      between-by PollEvent e old new s t rests is stays (given, emitted, (polled, made), drawn) =
          with-quiet PollEvent e old new s t rests refl tt (given, emitted, (polled, made), drawn) (subst (λ (a : AgentRecord H P). Arrived mac by at following early old a) (sym made) (refl, keeps-remote-same old.pairs old.remote old.remote refl, spares-same by (last_time_of old) at old.timing old.next_number old.pairs))
      between-by _ e old new s t rests is stays step = no-case is

    -- after the rounds so far the pair still waits
    abbrev WaitsAfter : AgentRecord H P → ℕ → ℕ → Path → List (LoggedRound P) → AgentRecord H P → Type 0
    WaitsAfter start by n path [] a = a ≡ start
    WaitsAfter start by n path (r ∷ older) a = Waits by n path r.now (length (r ∷ older)) a

    module _ (first : AgentRecord H P) (s : Stream) (log : List (Logged P)) (fresh : IsFresh first) where
      -- ---- from entry to entry

      module _ (by at : ℕ) (following : by < at) (early : at < MAX) (part : List (Logged P)) (Keeps : AgentRecord H P → Type 0)
          (rests_of : (a : AgentRecord H P) → Keeps a → Rests at a)
          (on : (old new : AgentRecord H P) → Keeps old → IsSound new → Comes by at following early old new → Keeps new) where
        walk : (before : List (Logged P)) (start last : AgentRecord H P) (u t : Stream) (over xs : List (Logged P)) → log ≡ over ++ (xs ++ before)
            → ((x : Logged P) → Has xs x → Has part x) → ((x : Logged P) → Has xs x → is_between x.call ≡ true)
            → Run mac answers first s before start u → (run : RunsOn mac answers before start u xs last t) → IsControllingIn mac answers before start u xs last t run
            → Keeps start → SegmentSelects mac answers first s log part ⊎ Keeps last
        walk before start last u t over [] split within fits led (is, same) role keeps = inr (subst (λ (a : AgentRecord H P). Keeps a) (sym is) keeps)
        walk before start last u t over (x ∷ xs) split within fits led (mid, v, run, number, based, step) role keeps =
            elim (walk before start mid u v (over ++ x ∷ []) xs (split ∙ sym (append_assoc over (x ∷ []) (xs ++ before)))
            (λ y has. within y (inr has)) (λ y has. fits y (inr has)) led run role.1 keeps) [
              | inl selected_paths ↦ inl selected_paths
              | inr k ↦
                  (let here = run-on mac answers first start mid s u v before xs led run in
                  elim (between-by by at following early x.call x.entry mid last v t (rests_of mid k) (fits x (inl refl)) role.0 step) [
                    | inl success ↦
                        inl (selects_path-at mac answers first s log fresh (xs ++ before) part mid last x
                        (record { rest = over; split = split; at = v; led = here; number = number; given = based; following = t; step = step })
                        (rests_of mid k).0.invalid role.0 success (within x (inl refl)))
                    | inr came ↦
                        inr (on mid last k (runs_sound mac answers (path_theorem mac answers) first last s t (x ∷ (xs ++ before)) fresh (mid, v, here, number, based, step)) came)
                  ])
            ]

        meet : (before : List (Logged P)) (start last : AgentRecord H P) (u t : Stream) (over xs : List (Logged P)) → log ≡ over ++ (xs ++ before)
            → ((x : Logged P) → Has xs x → Has part x) → ((x : Logged P) → Has xs x → is_between x.call ≡ true)
            → Run mac answers first s before start u → (run : RunsOn mac answers before start u xs last t) → IsControllingIn mac answers before start u xs last t run
            → Keeps start → (y : Logged P) → Has xs y → BringsSuccess y → SegmentSelects mac answers first s log part
        meet before start last u t over [] split within fits led run role keeps y has success = absurd has
        meet before start last u t over (x ∷ xs) split within fits led (mid, v, run, number, based, step) role keeps y (inl is) success =
            elim (walk before start mid u v (over ++ x ∷ []) xs (split ∙ sym (append_assoc over (x ∷ []) (xs ++ before)))
            (λ z has. within z (inr has)) (λ z has. fits z (inr has)) led run role.1 keeps) [
              | inl selected_paths ↦ selected_paths
              | inr k ↦
                  selects_path-at mac answers first s log fresh (xs ++ before) part mid last x
                  (record { rest = over; split = split; at = v; led = run-on mac answers first start mid s u v before xs led run; number = number; given = based; following = t; step = step })
                  (rests_of mid k).0.invalid role.0 (subst (λ (z : Logged P). BringsSuccess z) (sym is) success) (within x (inl refl))
            ]
        meet before start last u t over (x ∷ xs) split within fits led (mid, v, run, number, based, step) role keeps y (inr has) success =
            meet before start mid u v (over ++ x ∷ []) xs (split ∙ sym (append_assoc over (x ∷ []) (xs ++ before)))
            (λ z there. within z (inr there)) (λ z there. fits z (inr there)) led run role.1 keeps y has success

      -- ---- from round to round

      module _ (before : List (Logged P)) (start : AgentRecord H P) (u : Stream) (led : Run mac answers first s before start u) (part : List (Logged P)) (by n at : ℕ) (path : Path)
          (begin : Persists by n path at 0 start) where
        persists-at : (r : LoggedRound P) (older : List (LoggedRound P)) (old : AgentRecord H P) → began_at (r ∷ older) ≡ Some at → by < r.now → WaitsAfter start by n path older old
            → Persists by n path r.now (length older) old
        persists-at r [] old began late same =
            subst (λ (a : AgentRecord H P). Persists by n path r.now 0 a) (sym same) (subst (λ now. Persists by n path now 0 start) (sym (some-is r.now at began)) begin) where
              some-is : (x y : ℕ) → Some x ≡ Some y → x ≡ y
              some-is x y e = cc
        persists-at r (x ∷ older) old began late w = persists by n path x.now (length (x ∷ older)) r.now old late w

        began-older : (r x : LoggedRound P) (older : List (LoggedRound P)) → began_at (r ∷ x ∷ older) ≡ Some at → began_at (x ∷ older) ≡ Some at
        began-older r x older began = began

        -- what follows a `handle_timeout` call
        following-timeout : (r : LoggedRound P) (older : List (LoggedRound P)) (old mid last : AgentRecord H P) (z v t : Stream) (over : List (Logged P)) → IsRound by path r
            → log ≡ over ++ (r.following ++ ((r.timeout ∷ entries_of older) ++ before)) → ((x : Logged P) → Has r.following x → Has part x)
            → Persists by n path r.now (length older) old → Step mac answers old z (HandleTimeout r.now) r.timeout.entry mid v
            → Run mac answers first s ((r.timeout ∷ entries_of older) ++ before) mid v
            → (back : RunsOn mac answers ((r.timeout ∷ entries_of older) ++ before) mid v r.following last t)
            → IsControllingIn mac answers ((r.timeout ∷ entries_of older) ++ before) mid v r.following last t back
            → SegmentSelects mac answers first s log part ⊎ Waits by n path r.now (length (r ∷ older)) last
        following-timeout r older old mid last z v t over round line within st step to_mid back role =
            let passes : Passes mac old r.now r.timeout.entry.emitted mid = record {
              before = z;
              following = v;
              after = mid;
              timeout = passed-at mac answers old mid z v r.now r.timeout.entry round.done step;
              waiting = mid.packets;
              left = mid.events;
              taken = refl;
            } in
            elim (pass-on mac answers by n path r.now (length older) r.timeout.entry.emitted old mid st (falls-late by path r round) (falls-early by path r round) passes) [
              | inl (id, out) ↦
                  (let met = round.met id out in
                  let p = passed mac answers r.now r.timeout.entry.emitted old mid st.calm passes in
                  inl (meet by r.now (falls-late by path r round) (falls-early by path r round) part (λ a. Rests r.now a) (λ a k. k)
                  (λ a b k sound came. (calm-on mac answers by r.now (falls-late by path r round) (falls-early by path r round) a b k.0 sound came.0 came.1, ap (λ (c : Core). c.last_time) came.1.0 ∙ k.1))
                  ((r.timeout ∷ entries_of older) ++ before) mid last v t over r.following line within round.between to_mid back role (p.calm, p.last) met.0 met.1 met.2))
              | inr still ↦
                  walk by r.now (falls-late by path r round) (falls-early by path r round) part (λ a. Waits by n path r.now (length (r ∷ older)) a) (λ a k. (k.calm, k.last))
                  (λ a b k sound came. waits-on mac answers by r.now (falls-late by path r round) (falls-early by path r round) n path (length (r ∷ older)) a b k sound came.0 came.1)
                  ((r.timeout ∷ entries_of older) ++ before) mid last v t over r.following line within round.between to_mid back role still
            ]

        rounds-go : (rounds : List (LoggedRound P)) (last : AgentRecord H P) (t : Stream) (over : List (Logged P)) → log ≡ over ++ (entries_of rounds ++ before)
            → ((x : Logged P) → Has (entries_of rounds) x → Has part x) → (rounds ≡ [] ⊎ began_at rounds ≡ Some at) → ((r : LoggedRound P) → Has rounds r → IsRound by path r)
            → (run : RunsOn mac answers before start u (entries_of rounds) last t) → IsControllingIn mac answers before start u (entries_of rounds) last t run
            → SegmentSelects mac answers first s log part ⊎ WaitsAfter start by n path rounds last
        rounds-go [] last t over split within began rounds (is, same) role = inr is
        rounds-go (r ∷ older) last t over split within began rounds run role =
            let h = halves mac answers before start last u t r.following (r.timeout ∷ entries_of older) run role in
            on-halves h (rounds-go older h.2.0 h.2.1 ((over ++ r.following) ++ r.timeout ∷ []) line-older in-older (older-began older began) (λ x has. rounds x (inr has)) h.2.2 h.3.1) where
              line : log ≡ (over ++ r.following) ++ ((r.timeout ∷ entries_of older) ++ before)
              line = split ∙ (ap (λ xs. over ++ xs) (append_assoc r.following (r.timeout ∷ entries_of older) before) ∙ sym (append_assoc over r.following ((r.timeout ∷ entries_of older) ++ before)))

              line-following : log ≡ over ++ (r.following ++ ((r.timeout ∷ entries_of older) ++ before))
              line-following = split ∙ ap (λ xs. over ++ xs) (append_assoc r.following (r.timeout ∷ entries_of older) before)

              line-older : log ≡ ((over ++ r.following) ++ r.timeout ∷ []) ++ (entries_of older ++ before)
              line-older = line ∙ sym (append_assoc (over ++ r.following) (r.timeout ∷ []) (entries_of older ++ before))

              in-following : (x : Logged P) → Has r.following x → Has part x
              in-following x has = within x (has-front r.following (r.timeout ∷ entries_of older) x has) where
                has-front : (xs ys : List (Logged P)) (x : Logged P) → Has xs x → Has (xs ++ ys) x
                has-front [] ys x has = absurd has
                has-front (y ∷ xs) ys x (inl e) = inl e
                has-front (y ∷ xs) ys x (inr h) = inr (has-front xs ys x h)

              in-older : (x : Logged P) → Has (entries_of older) x → Has part x
              in-older x has = within x (has-following r.following (r.timeout ∷ entries_of older) x (inr has)) where
                has-following : (xs ys : List (Logged P)) (x : Logged P) → Has ys x → Has (xs ++ ys) x
                has-following [] ys x h = h
                has-following (y ∷ xs) ys x h = inr (has-following xs ys x h)

              here-began : (rs : List (LoggedRound P)) → (r ∷ rs ≡ [] ⊎ began_at (r ∷ rs) ≡ Some at) → began_at (r ∷ rs) ≡ Some at
              here-began rs (inl empty) = absurd (cc)
              here-began rs (inr is) = is

              older-began : (rs : List (LoggedRound P)) → (r ∷ rs ≡ [] ⊎ began_at (r ∷ rs) ≡ Some at) → (rs ≡ [] ⊎ began_at rs ≡ Some at)
              older-began [] is = inl refl
              older-began (x ∷ rs) is = inr (began-older r x rs (here-began (x ∷ rs) is))

              on-halves : (h : Halves mac answers before start u r.following (r.timeout ∷ entries_of older) last t)
                  → SegmentSelects mac answers first s log part ⊎ WaitsAfter start by n path older h.2.0
                  → SegmentSelects mac answers first s log part ⊎ Waits by n path r.now (length (r ∷ older)) last
              on-halves (mid, v, (old, z, run_older, number, based, step), role_front, back, role_back) so_far =
                  elim so_far [
                    | inl selected_paths ↦ inl selected_paths
                    | inr k ↦
                        (let round = rounds r (inl refl) in
                        following-timeout r older old mid last z v t over round line-following in-following (persists-at r older old (here-began older began) (falls-late by path r round) k)
                        (subst (λ (c : Call P). Step mac answers old z c r.timeout.entry mid v) round.comes step)
                        (run-on mac answers first start mid s u v before (r.timeout ∷ entries_of older) led (old, z, run_older, number, based, step)) back role_back)
                  ]

    pub answered-rounds-select : AnsweredRoundsSelect {H = H} {P = P} mac answers
    answered-rounds-select first s log fresh before start last rounds p at by part began waiting unanswered are role enough =
        let sound = runs_sound mac answers (path_theorem mac answers) first start s part.at before fresh part.led in
        let begin = begins mac answers at by start p sound
        (starts-controlling mac answers before start last part.at part.following (entries_of rounds) part.run role) waiting unanswered in
        by-rounds rounds began are
        (calls-from (is_modern start.timing) start.ahead_turn (length (due_by by at start.timing start.pairs)) (length rounds) (omega (arith, enough)))
        (rounds-go first s log fresh before start part.at part.led (entries_of rounds) by
        (calls_left (is_modern start.timing) start.ahead_turn (length (due_by by at start.timing start.pairs))) at (path_of start p) begin
        rounds last part.following part.rest part.split (λ x has. has) (inr began) are part.run role) where
          by-rounds : (rs : List (LoggedRound P)) → began_at rs ≡ Some at → ((r : LoggedRound P) → Has rs r → IsRound by (path_of start p) r)
              → calls_left (is_modern start.timing) start.ahead_turn (length (due_by by at start.timing start.pairs)) ≤ length rs + 1
              → SegmentSelects mac answers first s log (entries_of rounds)
              ⊎ WaitsAfter start by (calls_left (is_modern start.timing) start.ahead_turn (length (due_by by at start.timing start.pairs))) (path_of start p) rs last
              → SegmentSelects mac answers first s log (entries_of rounds)
          by-rounds rs none are enough (inl selected_paths) = selected_paths
          by-rounds [] none are enough (inr w) = absurd (cc)
          by-rounds (r ∷ older) began are enough (inr w) =
              absurd (never by (calls_left (is_modern start.timing) start.ahead_turn (length (due_by by at start.timing start.pairs))) (path_of start p) r.now (length (r ∷ older)) last
              (falls-late by (path_of start p) r (are r (inl refl))) w enough)

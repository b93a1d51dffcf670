-- Round after round: if the checks of a pair are answered, a response is accepted within as many rounds as there are
-- pairs that are due no later, or within twice as many if checks may go ahead.
use Rattle.is_stun.specs.declared.header.Class.TheVariants as class
use Rattle.is_theorems.proofs.Common.{[], ◌+◌, ◌<◌, ◌∙◌, ◌∷◌, ◌≡◌, ◌≤◌, ◌⊎◌, AgentRecord, AnsweredSelect, ap, arith, Arrival, ArriveInTurn}
use Rattle.is_theorems.proofs.Common.{scheduled, base_of, candidate_at, CandidateRecord, due_by, due_time_of, Has, HasSuccess, IceAgentEvent}
use Rattle.is_theorems.proofs.Common.{inl, inr, is_modern, is_some, IsPaced, IsSomeAnd, IsSound, IsSuccess, issued_as, length, List, map}
use Rattle.is_theorems.proofs.Common.{MatchesTop, MAX, MayBeAsked, nat_lt, NextTimeoutFrom, NextTimeouts, None, Option, Packet, PairRecord}
use Rattle.is_theorems.proofs.Common.{Passes, Path, path_of, PollsTimeout, ReceivePacket, refl, Round, Rounds, RoundSelects, SelectsAfter}
use Rattle.is_theorems.proofs.Common.{Some, Step, Stream, StunTiming, subst, suc, sym, true, unanswered_count, unwrap_or, ℕ}
use Rattle.is_theorems.proofs.CallEffects.PathAndTradeEffects.{path_theorem}
use Rattle.is_theorems.proofs.CallEffects.AddedCandidates.{by_deadline}
use Rattle.is_theorems.proofs.DuePairs.NoNominationDue.{NoneIsDue, quiet-call}
use Rattle.is_theorems.proofs.DuePairs.WithoutValidPair.{Calm, Persists, Waits, calm-quiet, polled-sound, asked-quiet, asked-sound, begins}
use Rattle.is_theorems.proofs.DuePairs.WithoutValidPair.{persists, passed, pass-on, never}
use Rattle.is_theorems.proofs.DuePairs.ChecksAhead.{calls_left, calls-kept, calls-from}
use Rattle.is_theorems.proofs.DuePairs.AfterNominationAndRemoval.{last_time_of}
use Rattle.is_theorems.proofs.DuePairs.AfterPackets.{Core, DueAlike, Held, Arrived, arrived-same, receives, spares-map}
use Rattle.is_theorems.proofs.PathSelection.SelectedAfterResponse.{eligible}
use Rattle.is_theorems.proofs.BasicLemmas.VacantIndices.{keeps-remote-same}

via-to : List CandidateRecord → ℕ → CandidateRecord → Path
via-to local l remote = record { proto = (candidate_at local l).proto; source = base_of (candidate_at local l); destination = remote.addr }

met-later : (x : Arrival) (rest : List Arrival) → HasSuccess rest → HasSuccess (x ∷ rest)
met-later x rest (y, has, success) = (y, inr has, success)

module _ {H P : Type 0} where
  grown-path : (a b : AgentRecord H P) (p q : PairRecord) → b.local ≡ a.local → candidate_at b.remote q.remote ≡ candidate_at a.remote p.remote → q.local ≡ p.local → path_of b q ≡ path_of a p
  unfolding via-to
  grown-path a b p q locals remote place =
      ap (λ cs. via-to cs q.local (candidate_at b.remote q.remote)) locals
      ∙ (ap (λ l. via-to a.local l (candidate_at b.remote q.remote)) place ∙ ap (λ c. via-to a.local p.local c) remote)

  module _ (mac : H → List ℕ → List ℕ → List ℕ) (answers : P → CandidateRecord → ℕ → ℕ → Type 0) where
    -- ---- what does not change a pair

    module _ (by at : ℕ) (following : by < at) (early : at < MAX) where
      pub calm-on : (old new : AgentRecord H P) → Calm old → IsSound new → NoneIsDue new → Arrived mac by at following early old new → Calm new
      calm-on old new calm sound quiet (core, grown, spares) = record {
        sound = sound;
        distinct = spares.distinct calm.below calm.distinct;
        checking = record {
          full = ap (λ (c : Core). c.lite) core ∙ calm.checking.full;
          peer = ap (λ (c : Core). is_some c.remote_creds) core ∙ calm.checking.peer;
        };
        queue = ap (λ (c : Core). c.queue) core ∙ calm.queue;
        below = spares.below calm.below;
        invalid = spares.invalid calm.invalid;
        role = ap (λ (c : Core). c.controlling) core ∙ calm.role;
        quiet = quiet;
      }

      pub waits-on : (n : ℕ) (path : Path) (k : ℕ) (old new : AgentRecord H P) → Waits by n path at k old → IsSound new → NoneIsDue new → Arrived mac by at following early old new → Waits by n path at k new
      waits-on n path k old new w sound quiet (core, grown, spares) =
          let late : by < last_time_of old = (let last : last_time_of old ≡ at = ap (λ o. unwrap_or o 0) w.last in omega (arith, last, following)) in
          let x = spares.forth late w.pair w.there in
          let timing : new.timing ≡ old.timing = ap (λ (c : Core). c.timing) core in
          let g = grown w.pair w.there w.placed in
          record {
            calm = calm-on old new w.calm sound quiet (core, grown, spares);
            last = ap (λ (c : Core). c.last_time) core ∙ w.last;
            paced = subst (λ (t : StunTiming). IsPaced t) (sym timing) w.paced;
            pair = x.0;
            there = x.1;
            young = ap (λ cs. nat_lt (unanswered_count cs) new.timing.max_retransmits) x.2.checks ∙ (ap (λ (t : StunTiming). nat_lt (unanswered_count w.pair.checks) t.max_retransmits) timing ∙ w.young);
            due = λ m above. subst (λ (t : StunTiming). due_time_of m t x.0 ≤ by) (sym timing) (due_still m above x.0 x.2);
            held = subst (λ (t : StunTiming). Held by at t new.pairs) (sym timing) (spares.held late w.held);
            placed = subst (λ r. r < length new.remote) (sym x.2.matches.remote) g.1;
            on = grown-path old new w.pair x.0 (ap (λ (c : Core). c.local) core) (ap (λ r. candidate_at new.remote r) x.2.matches.remote ∙ g.0) x.2.matches.local ∙ w.on;
            count = subst (λ (t : StunTiming). calls_left (is_modern new.timing) new.ahead_turn (length (due_by by at t new.pairs)) + k ≤ n) (sym timing)
                (subst (λ (c : Core). calls_left (is_modern c.timing) c.ahead_turn (length (due_by by at old.timing new.pairs)) + k ≤ n) (sym core)
                (calls-kept (is_modern old.timing) old.ahead_turn (length (due_by by at old.timing old.pairs)) (length (due_by by at old.timing new.pairs)) k n (spares.count late) w.count));
          } where
            due_still : (m : ℕ) → by < m → (q : PairRecord) → DueAlike by at old.timing w.pair q → due_time_of m old.timing q ≤ by
            due_still m above q a = a.stays m (w.due m above) (w.due at following)

      -- `poll_timeout`
      pub asks : (old new : AgentRecord H P) (deadline : Option ℕ) → old.last_time ≡ Some at → PollsTimeout old deadline new → Arrived mac by at following early old new
      asks old new deadline last h = some deadline (subst (λ o. NextTimeoutFrom o old deadline new) last h) where
        fixed : new ≡ record old { pairs = map (scheduled at old.timing) old.pairs } → Arrived mac by at following early old new
        fixed made = subst (λ (a : AgentRecord H P). Arrived mac by at following early old a) (sym made) (
          refl,
          keeps-remote-same old.pairs old.remote old.remote refl,
          spares-map by (last_time_of old) at old.timing old.next_number (scheduled at old.timing) old.pairs
              (λ p. record { number = refl; local = refl; remote = refl; valid = refl })
              (λ late p. record { matches = record { number = refl; local = refl; remote = refl; valid = refl }; checks = refl; before = λ m le. inr le; stays = λ m le now. now }),
        )

        some : (deadline : Option ℕ) → IsSomeAnd deadline (λ w. NextTimeouts old at w new) → Arrived mac by at following early old new
        some None k = absurd k
        some (Some w) k = by_deadline old new at w k (λ made. arrived-same mac by at following early old new made) (λ made. fixed made)

      -- ---- arrivals

      came-sound : (x : Arrival) (old after mid : AgentRecord H P) (waiting : List Packet) (left : List IceAgentEvent) (s t : Stream) → IsSound old
          → Step mac answers old s (ReceivePacket x.at x.via x.bytes) x.entry after t → mid ≡ record after { packets = waiting; events = left } → IsSound mid
      came-sound x old after mid waiting left s t sound step taken =
          subst (λ (a : AgentRecord H P). IsSound a) (sym taken)
          (polled-sound after waiting left (path_theorem mac answers old after s t (ReceivePacket x.at x.via x.bytes) x.entry sound tt step).1)

      may-on : (n : ℕ) (path : Path) (k : ℕ) (old new : AgentRecord H P) → Waits by n path at k old → MayBeAsked old new → Waits by n path at k new
      may-on n path k old new w (inl same) = subst (λ (a : AgentRecord H P). Waits by n path at k a) (sym same) w
      may-on n path k old new w (inr (deadline, polls)) = waits-on n path k old new w (asked-sound mac answers old new deadline w.calm.sound polls)
          (asked-quiet mac answers old new deadline w.calm.sound (calm-quiet old w.calm) polls) (asks old new deadline w.last polls)

      all-arrive : (n : ℕ) (path : Path) (k : ℕ) (xs : List Arrival) (old new : AgentRecord H P) → Waits by n path at k old → ArriveInTurn mac answers xs old new → HasSuccess xs ⊎ Waits by n path at k new
      all-arrive n path k [] old new w is = inr (subst (λ (a : AgentRecord H P). Waits by n path at k a) (sym is) w)
      all-arrive n path k (x ∷ rest) old new w (after, mid, polled, waiting, left, s, t, step, stays, taken, may, more) =
          elim (receives mac by at following early answers x old after s t w.calm.checking.peer w.calm.role w.calm.checking.full w.calm.invalid stays step) [
            | inl success ↦ inl (x, inl refl, success)
            | inr came ↦ elim (quiet-call mac answers (ReceivePacket x.at x.via x.bytes) x.entry old after s t refl w.calm.sound tt (calm-quiet old w.calm) step) [
              | inl (when, by_path, m, (now_is, path_is, reads, flag), success) ↦ inl (x, inl refl, (m, reads, flag, success))
              | inr quiet ↦
                  (let mid_waits = waits-on n path k old mid w (came-sound x old after mid waiting left s t w.calm.sound step taken)
                  (subst (λ (a : AgentRecord H P). NoneIsDue a) (sym taken) quiet.quiet)
                  (subst (λ (a : AgentRecord H P). Arrived mac by at following early old a) (sym taken) (came.0, came.1, came.2)) in
                  elim (all-arrive n path k rest polled new (may-on n path k mid polled mid_waits may) more) [
                    | inl met ↦ inl (met-later x rest met)
                    | inr still ↦ inr still
                  ])
            ]
          ]

    -- after an accepted success response a path is selected
    selects_path : (x : Arrival) (old new : AgentRecord H P) (s t : Stream) → IsSound old → new.controlling ≡ true
        → Step mac answers old s (ReceivePacket x.at x.via x.bytes) x.entry new t → IsSuccess x → MatchesTop new
    selects_path x old new s t sound role step (m, reads, flag, success) =
        let effect = (path_theorem mac answers old new s t (ReceivePacket x.at x.via x.bytes) x.entry sound tt step).0 in
        let p = effect.taken x.at x.via m (refl, refl, reads, flag) success in
        (effect.points (x.at, x.via, m, (refl, refl, reads, flag), success), (p.0, p.1, eligible new.controlling p.0 role p.3))

    may-sound : (old new : AgentRecord H P) → IsSound old → MayBeAsked old new → IsSound new
    may-sound old new sound (inl same) = subst (λ (a : AgentRecord H P). IsSound a) (sym same) sound
    may-sound old new sound (inr (deadline, polls)) = asked-sound mac answers old new deadline sound polls

    met-selects_path : (xs : List Arrival) (old new : AgentRecord H P) → IsSound old → (came : ArriveInTurn mac answers xs old new) → HasSuccess xs → SelectsAfter mac answers xs old new came
    met-selects_path [] old new sound came (y, has, success) = absurd has
    met-selects_path (x ∷ rest) old new sound (after, mid, polled, waiting, left, s, t, step, stays, taken, may, more) (y, inl is, success) =
        let here : IsSuccess x = subst (λ (z : Arrival). IsSuccess z) (sym is) success in
        inl (here, selects_path x old after s t sound stays step here)
    met-selects_path (x ∷ rest) old new sound (after, mid, polled, waiting, left, s, t, step, stays, taken, may, more) (y, inr has, success) =
        let mid_sound : IsSound mid = subst (λ (a : AgentRecord H P). IsSound a) (sym taken)
        (polled-sound after waiting left (path_theorem mac answers old after s t (ReceivePacket x.at x.via x.bytes) x.entry sound tt step).1) in
        inr (met-selects_path rest polled new (may-sound mid polled mid_sound may) more (y, has, success))

    -- ---- rounds

    one-round : (by n : ℕ) (path : Path) (k : ℕ) (x : Round) (first mid polled next : AgentRecord H P) → Persists by n path x.now k first → (by < x.now) × (x.now < MAX)
        → Passes mac first x.now x.emitted mid → MayBeAsked mid polled → (came : ArriveInTurn mac answers x.arrivals polled next)
        → ((id : List ℕ) → x.emitted.issued ≡ Some (issued_as path class.Request id) → HasSuccess x.arrivals)
        → SelectsAfter mac answers x.arrivals polled next came ⊎ Waits by n path x.now (suc k) next
    one-round by n path k x first mid polled next st (late, early) passes may came echoes =
        elim (pass-on mac answers by n path x.now k x.emitted first mid st late early passes) [
          | inl (id, out) ↦
              inl (met-selects_path x.arrivals polled next (may-sound mid polled (passed mac answers x.now x.emitted first mid st.calm passes).calm.sound may) came (echoes id out))
          | inr w ↦
              (let w_polled = may-on by x.now late early n path (suc k) mid polled w may in
              elim (all-arrive by x.now late early n path (suc k) x.arrivals polled next w_polled came) [
                | inl met ↦ inl (met-selects_path x.arrivals polled next w_polled.calm.sound came met)
                | inr still ↦ inr still
              ])
        ]

    met-in : (by n : ℕ) (path : Path) (k : ℕ) (x : Round) (rounds : List Round) (first last : AgentRecord H P) → Persists by n path x.now k first
        → ((y : Round) → Has (x ∷ rounds) y → (by < y.now) × (y.now < MAX)) → (run : Rounds mac answers (x ∷ rounds) first last)
        → ((y : Round) (id : List ℕ) → Has (x ∷ rounds) y → y.emitted.issued ≡ Some (issued_as path class.Request id) → HasSuccess y.arrivals)
        → n ≤ k + length (x ∷ rounds) + 1 → RoundSelects mac answers (x ∷ rounds) first last run
    met-in by n path k x [] first last st timeouts (mid, polled, next, passes, may, came, is) echoes enough =
        elim (one-round by n path k x first mid polled next st (timeouts x (inl refl)) passes may came (λ id out. echoes x id (inl refl) out)) [
          | inl selected_paths ↦ inl selected_paths
          | inr w ↦ absurd (never by n path x.now (suc k) next (timeouts x (inl refl)).0 w (omega (arith, enough)))
        ]
    met-in by n path k x (y ∷ rest) first last st timeouts (mid, polled, next, passes, may, came, more) echoes enough =
        elim (one-round by n path k x first mid polled next st (timeouts x (inl refl)) passes may came (λ id out. echoes x id (inl refl) out)) [
          | inl selected_paths ↦ inl selected_paths
          | inr w ↦
              inr (met-in by n path (suc k) y rest next last (persists by n path x.now (suc k) y.now next (timeouts y (inr (inl refl))).0 w)
              (λ z has. timeouts z (inr has)) more (λ z id has out. echoes z id (inr has) out) (omega (arith, enough)))
        ]

    pub answered-select : AnsweredSelect mac answers
    answered-select first last r rounds p by sound role waits unanswered timeouts rounding echoes enough =
        met-in by (calls_left (is_modern first.timing) first.ahead_turn (length (due_by by r.now first.timing first.pairs))) (path_of first p) 0 r rounds first last (begins mac answers r.now by first p sound role waits unanswered)
        (λ x has. (let late = (timeouts x has).0 in let early = (timeouts x has).1 in (omega (arith, late), omega (arith, early)))) rounding echoes
        (at-first (calls_left (is_modern first.timing) first.ahead_turn (length (due_by by r.now first.timing first.pairs))) (length (r ∷ rounds))
        (calls-from (is_modern first.timing) first.ahead_turn (length (due_by by r.now first.timing first.pairs)) (length (r ∷ rounds)) (omega (arith, enough)))) where
          at-first : (n k : ℕ) → n ≤ k + 1 → n ≤ 0 + k + 1
          at-first n k enough = omega (arith, enough)

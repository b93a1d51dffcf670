-- A pair on which a request was served is urgent in rounds until its path is answered: so it is checked like any urgent pair.
use Rattle.is_theorems.proofs.Common.{[], ◌&&◌, ◌++◌, ◌||◌, ◌∙◌, ◌∷◌, ◌≡◌, ◌⊎◌, AgentRecord, ap, arith, began_at, Bool, Call}
use Rattle.is_theorems.proofs.Common.{CandidateRecord, Ends, entries_of, false, gives_way, GivesBased, HandleTimeout, Has, has_few_unanswered, inl, inr}
use Rattle.is_theorems.proofs.Common.{is_expired, is_in_round, is_modern, is_urgent, is_valid, IsAnsweredIn, IsEndedIn}
use Rattle.is_theorems.proofs.Common.{IsFresh, IsPassing, IsServed, IsSound, IsValidOn, length, List, lite_set_by, Logged, LoggedRound}
use Rattle.is_theorems.proofs.Common.{nat_lt, nominates_first, not, PairRecord, Path, path_of, PutsUrgentFirst, PutUrgentFirstIn, refl, rising-each, Run}
use Rattle.is_theorems.proofs.Common.{RunsOn, selects, ServedAreCheckedSoon, Some, Stays, Step, Stream, subst, sym, true, WaitsInRounds, ℕ}
use Rattle.is_theorems.proofs.CallEffects.PathAndTradeEffects.{path_theorem}
use Rattle.is_theorems.proofs.DuePairs.AfterNominationAndRemoval.{answered_at, lasts-young}
use Rattle.is_theorems.proofs.DuePairs.NoNominationDue.{lite_stays}
use Rattle.is_theorems.proofs.ExecutionLogs.LogSegments.{run-on}
use Rattle.is_theorems.proofs.ExecutionLogs.LogTheorems.{runs_sound}
use Rattle.is_theorems.proofs.ExecutionLogs.SegmentsAsExecutions.{ended-fits, split-ended, split-run}
use Rattle.is_theorems.proofs.PollingRounds.DuePairsInLogs.{answered-later, lasts-at}
use Rattle.is_theorems.proofs.PollingRounds.WaitingPairs.{begins, total_at}
use Rattle.is_theorems.proofs.RuleEffects.SelectedPaths.{one_pair}
use Rattle.is_theorems.proofs.StoredPairs.PairsThatStay.{pairs-stay, stays-here, stays-on}
use Rattle.is_theorems.proofs.UrgentPairs.RoundsOfUrgentPairs.{persists-at, reached-later, rounds-urgent, rules-before}
use Rattle.is_theorems.proofs.UrgentPairs.RoundsOfUrgentPairs.{urgent-pairs-are-reached, After, Reached}

-- ---- one pair

is-urgent : (p : PairRecord) → nat_lt 0 p.requests ≡ true → is_valid p ≡ false → is_urgent p ≡ true
is-urgent p asked off = by (nat_lt 0 p.requests) (is_valid p) (nominates_first p.nomination (has_few_unanswered p)) asked off where
  by : (a b c : Bool) → a ≡ true → b ≡ false → ((a && not b) || c) ≡ true
  by true false c asked off = refl
  by true true c asked off = absurd (let no : true ≡ false = off in cc)
  by false b c asked off = absurd (let no : false ≡ true = asked in cc)

-- a call of a segment is one between `handle_timeout` calls, or such a call
abbrev IsOfRounds : {P : Type 0} → (modern : Bool) → Call P → Type 0
IsOfRounds modern call = (is_in_round modern call ≡ true) ⊎ ((now : ℕ) × (call ≡ HandleTimeout now))

no-timeout : {P : Type 0} {R : Type 0} (modern : Bool) (call : Call P) (now : ℕ) → is_in_round modern call ≡ true → call ≡ HandleTimeout now → R
no-timeout modern call now fits called = absurd (let no : false ≡ true = sym (ap (λ c. is_in_round modern c) called) ∙ fits in cc)

still-full : {P : Type 0} (modern : Bool) (call : Call P) (l : Bool) → IsOfRounds modern call → lite_set_by call l ≡ l
still-full modern call l (inl fits) = lite_stays modern call l fits
still-full modern call l (inr (now, called)) = ap (λ c. lite_set_by c l) called

module _ {H P : Type 0} (mac : H → List ℕ → List ℕ → List ℕ) (answers : P → CandidateRecord → ℕ → ℕ → Type 0) (first : AgentRecord H P) (s : Stream) (fresh : IsFresh first) where
  sound-at : (log : List (Logged P)) (a : AgentRecord H P) (t : Stream) → Run mac answers first s log a t → IsSound a
  sound-at log a t run = runs_sound mac answers (path_theorem mac answers) first a s t log fresh run

  -- ---- a valid path was valid at the beginning, or is answered

  valid-back : (modern : Bool) (path : Path) (before : List (Logged P)) (start last : AgentRecord H P) (u t : Stream) (xs : List (Logged P)) → Run mac answers first s before start u
      → (run : RunsOn mac answers before start u xs last t) → ((x : Logged P) → Has xs x → IsOfRounds modern x.call) → start.lite ≡ false
      → (last.lite ≡ false) × (IsValidOn last path → IsValidOn start path ⊎ IsAnsweredIn xs path)
  valid-back modern path before start last u t [] led (is, drawn) fits full =
      subst (λ (a : AgentRecord H P). (a.lite ≡ false) × (IsValidOn a path → IsValidOn start path ⊎ IsAnsweredIn {P = P} [] path)) (sym is) (full, λ valid. inl valid)
  valid-back modern path before start last u t (x ∷ xs) led (mid, v, run, number, given, step) fits full =
      let k = valid-back modern path before start mid u v xs led run (λ y has. fits y (inr has)) full in
      let sound = sound-at (xs ++ before) mid v (run-on mac answers first start mid s u v before xs led run) in
      let f = (path_theorem mac answers mid last v t x.call x.entry sound given step).0 in (
        f.lite ∙ (still-full modern x.call mid.lite (fits x (inl refl)) ∙ k.0),
        λ valid. elim (f.valid k.0 path valid) [
          | inl was ↦ elim (k.1 was) [ inl at_start ↦ inl at_start | inr answered ↦ inr (answered-later path x xs answered) ]
          | inr (at, by, m, role, peer, brings, success, kept, creds, signed, back) ↦ inr (x, inl refl, (at, by, m, brings, success, back))
        ],
      )

  -- ---- the pair stays

  stays-between : (modern : Bool) (path : Path) (p : PairRecord) (before : List (Logged P)) (start a last : AgentRecord H P) (u t : Stream) (xs : List (Logged P)) → Run mac answers first s before a u
      → (run : RunsOn mac answers before a u xs last t) → ((x : Logged P) → Has xs x → is_in_round modern x.call ≡ true) → path_of start p ≡ path → Stays start p a
      → IsEndedIn mac answers before a u xs last t run path ⊎ Stays start p last
  stays-between modern path p before start a last u t [] led (is, drawn) fits on stays = inr (subst (λ (x : AgentRecord H P). Stays start p x) (sym is) stays)
  stays-between modern path p before start a last u t (x ∷ xs) led (mid, v, run, number, given, step) fits on stays =
      elim (stays-between modern path p before start a mid u v xs led run (λ y has. fits y (inr has)) on stays) [
        | inl ended ↦ inl (inr ended)
        | inr k ↦
            (let sound = sound-at (xs ++ before) mid v (run-on mac answers first a mid s u v before xs led run) in
            elim (pairs-stay mac answers mid last v t x.call x.entry k.pair sound given step k.there) [
              | inl l ↦ inr (stays-on mac answers start mid last p k l)
              | inr ends ↦ inl (inl (let ended : Ends answers mid x.call x.entry path = (k.pair, k.there, (ap (λ (w : Path). w.source) (k.path ∙ on), ap (λ (w : Path). w.destination) (k.path ∙ on)), ends) in
                  (ended-fits answers modern mid x.call x.entry path (fits x (inl refl)) ended, ended)))
            ])
      ]

  -- ---- a segment whose newer part has no `handle_timeout` call

  join-urgent : (modern : Bool) (n : ℕ) (path : Path) (before : List (Logged P)) (start last : AgentRecord H P) (u t : Stream) (xs older : List (Logged P)) (run : RunsOn mac answers before start u (xs ++ older) last t)
      → ((x : Logged P) → Has xs x → is_in_round modern x.call ≡ true)
      → PutUrgentFirstIn mac answers n path before start u older (split-run mac answers before start last u t xs older run).0 (split-run mac answers before start last u t xs older run).1
      (split-run mac answers before start last u t xs older run).2
      → PutUrgentFirstIn mac answers n path before start u (xs ++ older) last t run
  join-urgent modern n path before start last u t [] older run fits puts = puts
  join-urgent modern n path before start last u t (x ∷ xs) older (m, v, run, number, given, step) fits puts = (
    (λ now called. no-timeout modern x.call now (fits x (inl refl)) called),
    join-urgent modern n path before start m u v xs older run (λ y has. fits y (inr has)) puts,
  )

  -- ---- rounds

  module _ (before : List (Logged P)) (start : AgentRecord H P) (u : Stream) (led : Run mac answers first s before start u) (p : PairRecord) (by : ℕ) (served : IsServed start p)
      (all : List (LoggedRound P)) (w : WaitsInRounds by start all p) where
    abbrev path : Path
    path = path_of start p

    abbrev keeps : ℕ → Bool
    keeps now = answered_at start p now

    abbrev ReachedIn : List (LoggedRound P) → Type 0
    ReachedIn rounds = Reached mac answers p.number by path keeps (is_modern start.timing) (total_at by start p) start.next_number rounds

    abbrev Urgent : (rounds : List (LoggedRound P)) (last : AgentRecord H P) (t : Stream) → RunsOn mac answers before start u (entries_of rounds) last t → Type 0
    Urgent rounds last t run = PutUrgentFirstIn mac answers p.number path before start u (entries_of rounds) last t run × Stays start p last

    are-of-rounds : (rounds : List (LoggedRound P)) → ((r : LoggedRound P) → Has rounds r → IsPassing (is_modern start.timing) by r) → (x : Logged P) → Has (entries_of rounds) x → IsOfRounds (is_modern start.timing) x.call
    are-of-rounds [] are x has = absurd has
    are-of-rounds (r ∷ older) are x has = among (λ later. are-of-rounds older (λ y k. are y (inr k)) x later) r.following has (are r (inl refl)).between where
      among : (Has (entries_of older) x → IsOfRounds (is_modern start.timing) x.call) → (xs : List (Logged P)) → Has (xs ++ r.timeout ∷ entries_of older) x → ((y : Logged P) → Has xs y → is_in_round (is_modern start.timing) y.call ≡ true)
          → IsOfRounds (is_modern start.timing) x.call
      among in_older [] (inl e) fits = inr (r.now, ap (λ (y : Logged P). y.call) (sym e) ∙ (are r (inl refl)).comes)
      among in_older [] (inr later) fits = in_older later
      among in_older (y ∷ xs) (inl e) fits = inl (subst (λ (z : Logged P). is_in_round (is_modern start.timing) z.call ≡ true) e (fits y (inl refl)))
      among in_older (y ∷ xs) (inr later) fits = among in_older xs later (λ z k. fits z (inr k))

    -- the pair is urgent at the next `handle_timeout` call
    urgent-at : (r : LoggedRound P) (older : List (LoggedRound P)) (old : AgentRecord H P) (z : Stream) (run : RunsOn mac answers before start u (entries_of older) old z)
        → ((x : LoggedRound P) → Has older x → IsPassing (is_modern start.timing) by x) → selects r.timeout.entry ≡ false → is_modern old.timing ≡ is_modern start.timing → Stays start p old
        → PutsUrgentFirst p.number old r.timeout.entry ⊎ IsAnsweredIn (entries_of older) path
    urgent-at r older old z run are quiet rules stays = by-validity (is_valid stays.pair) refl where
      sound : IsSound old
      sound = sound-at (entries_of older ++ before) old z (run-on mac answers first start old s u z before (entries_of older) led run)

      urgent : is_valid stays.pair ≡ false → PutsUrgentFirst p.number old r.timeout.entry
      urgent off = record {
        modern = (let first_rule : is_modern start.timing ≡ true = search (served.modern) in
            let on : is_modern old.timing ≡ true = rules ∙ first_rule in search (on));
        quiet = search (quiet);
        urgent = λ q has is. (let here : is_urgent q ≡ true = subst (λ (x : PairRecord). is_urgent x ≡ true)
            (one_pair old.pairs stays.pair q (rising-each old.pairs sound.rising) stays.there has (stays.number ∙ sym is))
            (is-urgent stays.pair (stays.requested (search (served.requested))) off) in search (here));
      }

      by-validity : (b : Bool) → is_valid stays.pair ≡ b → PutsUrgentFirst p.number old r.timeout.entry ⊎ IsAnsweredIn (entries_of older) path
      by-validity false off = inl (urgent off)
      by-validity true on =
          elim ((valid-back (is_modern start.timing) path before start old u z (entries_of older) led run (are-of-rounds older are) w.line.checking.full).1 (stays.pair, stays.there, on, stays.path)) [
            | inl at_start ↦ absurd (let none : ⊥ = search (served.invalid at_start) in none)
            | inr answered ↦ inr answered
          ]

    served-urgent : (rounds : List (LoggedRound P)) (last : AgentRecord H P) (t : Stream) → (rounds ≡ [] ⊎ began_at rounds ≡ Some w.at) → ((r : LoggedRound P) → Has rounds r → IsPassing (is_modern start.timing) by r)
        → ((r : LoggedRound P) → Has rounds r → keeps r.now ≡ true) → ((r : LoggedRound P) → Has rounds r → selects r.timeout.entry ≡ false) → (run : RunsOn mac answers before start u (entries_of rounds) last t)
        → ReachedIn rounds ⊎ (IsEndedIn mac answers before start u (entries_of rounds) last t run path ⊎ Urgent rounds last t run)
    served-urgent [] last t began are lasting quiet run = inr (inr (tt, subst (λ (a : AgentRecord H P). Stays start p a) (sym run.0) (stays-here mac answers start p w.line.there)))
    served-urgent (r ∷ older) last t began are lasting quiet run =
        let h = split-run mac answers before start last u t r.following (r.timeout ∷ entries_of older) run in
        on-halves (here-began began) h.0 h.1 h.2.0 h.2.1 h.2.2 h.2.3 h.2.4 h.2.5 h.3
        (served-urgent older h.2.0 h.2.1 (older-began older (here-began began)) (λ x has. are x (inr has)) (λ x has. lasting x (inr has)) (λ x has. quiet x (inr has)) h.2.2)
        (λ ended. split-ended mac answers path before start last u t r.following (r.timeout ∷ entries_of older) run ended)
        (λ puts. join-urgent (is_modern start.timing) p.number path before start last u t r.following (r.timeout ∷ entries_of older) run (are r (inl refl)).between puts) where
          here-began : (r ∷ older ≡ [] ⊎ began_at (r ∷ older) ≡ Some w.at) → began_at (r ∷ older) ≡ Some w.at
          here-began (inl empty) = absurd (cc)
          here-began (inr is) = is

          older-began : (rs : List (LoggedRound P)) → began_at (r ∷ rs) ≡ Some w.at → (rs ≡ [] ⊎ began_at rs ≡ Some w.at)
          older-began [] is = inl refl
          older-began (x ∷ rs) is = inr is

          Whole : Type 0
          Whole = ReachedIn (r ∷ older) ⊎ (IsEndedIn mac answers before start u (entries_of (r ∷ older)) last t run path ⊎ Urgent (r ∷ older) last t run)

          on-halves : began_at (r ∷ older) ≡ Some w.at → (mid : AgentRecord H P) (v : Stream) (old : AgentRecord H P) (z : Stream) (run_older : RunsOn mac answers before start u (entries_of older) old z)
              → (number : r.timeout.number ≡ length (entries_of older ++ before)) (given : GivesBased r.timeout.call) (step : Step mac answers old z r.timeout.call r.timeout.entry mid v)
              → (back : RunsOn mac answers ((r.timeout ∷ entries_of older) ++ before) mid v r.following last t)
              → ReachedIn older ⊎ (IsEndedIn mac answers before start u (entries_of older) old z run_older path ⊎ Urgent older old z run_older)
              → (IsEndedIn mac answers ((r.timeout ∷ entries_of older) ++ before) mid v r.following last t back path
              ⊎ IsEndedIn mac answers before start u (r.timeout ∷ entries_of older) mid v (old, z, run_older, number, given, step) path
              → IsEndedIn mac answers before start u (entries_of (r ∷ older)) last t run path)
              → (PutUrgentFirstIn mac answers p.number path before start u (r.timeout ∷ entries_of older) mid v (old, z, run_older, number, given, step)
              → PutUrgentFirstIn mac answers p.number path before start u (entries_of (r ∷ older)) last t run)
              → Whole
          on-halves began mid v old z run_older number given step back (inl reached) ends joins =
              inl (reached-later mac answers p.number by path keeps (is_modern start.timing) (total_at by start p) start.next_number r older reached)
          on-halves began mid v old z run_older number given step back (inr (inl ended)) ends joins = inr (inl (ends (inr (inr ended))))
          on-halves began mid v old z run_older number given step back (inr (inr (puts, stays))) ends joins =
              elim (rounds-urgent mac answers p.number by path keeps (is_modern start.timing) (total_at by start p) start.next_number first s fresh before start u led w.at (begins by start p all w)
              older old z (older-began older began) (λ x has. are x (inr has)) (λ x has. lasting x (inr has)) run_older puts) [
                | inl reached ↦ inl (reached-later mac answers p.number by path keeps (is_modern start.timing) (total_at by start p) start.next_number r older reached)
                | inr (inl ended) ↦ inr (inl (ends (inr (inr ended))))
                | inr (inr done) ↦ goes-on done
              ] where
                goes-on : After mac answers p.number by path keeps (is_modern start.timing) (total_at by start p) start.next_number first s fresh before start u led w.at (begins by start p all w)
                    older old z run_older → Whole
                goes-on done =
                    let at_call = persists-at mac answers p.number by path keeps (is_modern start.timing) (total_at by start p) start.next_number first s fresh before start u led w.at (begins by start p all w)
                    r older old z run_older began (are r (inl refl)) done in
                    let rules : is_modern old.timing ≡ is_modern start.timing =
                    rules-before mac answers p.number by path keeps (is_modern start.timing) (total_at by start p) start.next_number first s fresh before start u led w.at (begins by start p all w)
                    older old z run_older done in
                    let sound = sound-at (entries_of older ++ before) old z (run-on mac answers first start old s u z before (entries_of older) led run_older) in
                    let called : Step mac answers old z (HandleTimeout r.now) r.timeout.entry mid v = subst (λ (c : Call P). Step mac answers old z c r.timeout.entry mid v) (are r (inl refl)).comes step in
                    let one : at_call.pair ≡ stays.pair = one_pair old.pairs at_call.pair stays.pair (rising-each old.pairs sound.rising) at_call.there stays.there (at_call.number ∙ sym stays.number) in
                    elim (pairs-stay mac answers old mid z v (HandleTimeout r.now) r.timeout.entry stays.pair sound tt called stays.there) [
                      | inr (was_done, none, gone) ↦ (let no : false ≡ true = ap not (sym gone) ∙ subst (λ (x : PairRecord). not (is_expired r.now old x || gives_way r.now old x) ≡ true) one
                          (lasts-young r.now old at_call.pair at_call.checking.full (at_call.lasts r.now (lasting r (inl refl))) at_call.young) in absurd (cc))
                      | inl here ↦ elim (stays-between (is_modern start.timing) path p ((r.timeout ∷ entries_of older) ++ before) start mid last v t r.following
                          (run-on mac answers first start mid s u v before (r.timeout ∷ entries_of older) led (old, z, run_older, number, given, step)) back (are r (inl refl)).between refl
                          (stays-on mac answers start old mid p stays here)) [
                            | inl ended ↦ inr (inl (ends (inl ended)))
                            | inr still ↦ inr (inr (joins ((λ now is. urgent-at r older old z run_older (λ x has. are x (inr has)) (quiet r (inl refl)) rules stays), puts), still))
                          ]
                    ]

module _ {H P : Type 0} (mac : H → List ℕ → List ℕ → List ℕ) (answers : P → CandidateRecord → ℕ → ℕ → Type 0) where
  pub served-are-checked-soon : ServedAreCheckedSoon {H = H} {P = P} mac answers
  served-are-checked-soon first s log fresh before start last rounds p by m found h =
      elim (served-urgent mac answers first s fresh before start found.at found.led p by h.served rounds h.waits rounds last found.following (inr h.waits.began) h.waits.passing
      (λ r has. lasts-at mac answers first s log fresh before start last (entries_of rounds) p found h.waits.line.there r.now (search (h.waits.lasting r has))) (λ r has. search (h.quiet r has)) found.run) [
        | inl (inl checks) ↦ inl checks
        | inl (inr answered) ↦ inr (inl answered)
        | inr (inl ended) ↦ inr (inr (inl ended))
        | inr (inr (puts, stays)) ↦ urgent-pairs-are-reached mac answers first s log fresh before start last rounds p by m found h.waits puts (let enough = h.enough in omega (arith, enough))
      ]

-- Rounds in which a pair that is due is urgent: it is checked in one of them, or each second one checks the selected pair or urgent pairs
-- before it.
use Rattle.is_stun.specs.declared.header.Class.TheVariants as class
use Rattle.is_theorems.proofs.Common.{[], ◌*◌, ◌++◌, ◌+◌, ◌-◌, ◌<◌, ◌∙◌, ◌∷◌, ◌≡◌, ◌≤◌, ◌⊎◌, AgentRecord, ap, arith, began_at, Bool, Call}
use Rattle.is_theorems.proofs.Common.{CandidateRecord, ChecksIn, ChecksOn, entries_of, Entry, false, GivesBased, HandleTimeout, Has, inl}
use Rattle.is_theorems.proofs.Common.{inr, is_modern, is_named_by, is_urgent, IsAnsweredIn, IsEndedIn, IsFresh, IsOvertaken, IsOvertakenIn}
use Rattle.is_theorems.proofs.Common.{IsPassing, IsSound, issued_as, length, List, Logged, LoggedRound, MaintainsPairs, MAX, None, not}
use Rattle.is_theorems.proofs.Common.{one_if, PairRecord, Path, path_of, precedence, PutsUrgentFirst, PutUrgentFirstIn, refl, Run, RunsOn}
use Rattle.is_theorems.proofs.Common.{Some, Step, Stream, subst, suc, sym, timeout_begun, true, TurnsBefore, UrgentPairsAreReached, zero, ℕ}
use Rattle.is_theorems.proofs.CallEffects.PathAndTradeEffects.{path_theorem}
use Rattle.is_theorems.proofs.DuePairs.AfterNominationAndRemoval.{Base, answered_at, stays-young, keeps-young}
use Rattle.is_theorems.proofs.DuePairs.FirstDuePair.{timeout-follows}
use Rattle.is_theorems.proofs.DuePairs.PollingCycles.{distinct-sound, maintains_pairs-from}
use Rattle.is_theorems.proofs.EarlierChecks.BetweenTimeouts.{Ground}
use Rattle.is_theorems.proofs.ExecutionLogs.LogSegments.{passed as passed-at, run-on}
use Rattle.is_theorems.proofs.ExecutionLogs.LogTheorems.{runs_sound}
use Rattle.is_theorems.proofs.ExecutionLogs.SegmentsAsExecutions.{split-ended, split-run}
use Rattle.is_theorems.proofs.PollingRounds.CountedSelections.{paid, paid-join}
use Rattle.is_theorems.proofs.PollingRounds.DuePairsInLogs.{answered-later, has-following, has-front, lasts-at, persists, timeout-on, walk}
use Rattle.is_theorems.proofs.PollingRounds.DuePairsInLogs.{Persists, Waits}
use Rattle.is_theorems.proofs.PollingRounds.WaitingPairs.{begins, total_at}
use Rattle.is_theorems.proofs.UrgentPairs.ChecksOfUrgentPairs.{timeout-alternates, Alternates}

-- ---- how many rounds

-- Of so many rounds c checked another pair before it: each second one, at least.
abbrev Progress : ℕ → Bool → ℕ → Type 0
Progress rounds turn c = rounds ≤ 2 * c + one_if turn

progress-none : (turn : Bool) → Progress 0 turn 0
progress-none true = omega arith
progress-none false = omega arith

-- a round whose check is of the pair that is due first
progress-first : (rounds c : ℕ) (turn next : Bool) → Progress rounds turn c → turn ≡ false → next ≡ true → Progress (suc rounds) next c
progress-first rounds c turn next p off on = let h = subst (λ b. rounds ≤ 2 * c + one_if b) off p in subst (λ b. suc rounds ≤ 2 * c + one_if b) (sym on) (omega (arith, h))

-- one whose check goes ahead
progress-ahead : (rounds c : ℕ) (turn next : Bool) → Progress rounds turn c → turn ≡ true → next ≡ false → Progress (suc rounds) next (suc c)
progress-ahead rounds c turn next p on off = let h = subst (λ b. rounds ≤ 2 * c + one_if b) on p in subst (λ b. suc rounds ≤ 2 * suc c + one_if b) (sym off) (omega (arith, h))

-- in 2 * m rounds m do
enough-rounds : (rounds c m : ℕ) (turn : Bool) → Progress rounds turn c → 2 * m ≤ rounds → m ≤ c
enough-rounds rounds c m true p enough = omega (arith, p, enough)
enough-rounds rounds c m false p enough = omega (arith, p, enough)

-- ---- segments

module _ {H P : Type 0} (mac : H → List ℕ → List ℕ → List ℕ) (answers : P → CandidateRecord → ℕ → ℕ → Type 0) where
  module _ (n : ℕ) where
    -- the older part of a segment
    split-urgent : (path : Path) (before : List (Logged P)) (start last : AgentRecord H P) (u t : Stream) (xs older : List (Logged P)) (run : RunsOn mac answers before start u (xs ++ older) last t)
        → PutUrgentFirstIn mac answers n path before start u (xs ++ older) last t run
        → PutUrgentFirstIn mac answers n path before start u older (split-run mac answers before start last u t xs older run).0 (split-run mac answers before start last u t xs older run).1
        (split-run mac answers before start last u t xs older run).2
    split-urgent path before start last u t [] older run turns = turns
    split-urgent path before start last u t (x ∷ xs) older (m, v, run, number, given, step) turns = split-urgent path before start m u v xs older run turns.1

    pub split-overtaken : (c : ℕ) (before : List (Logged P)) (start last : AgentRecord H P) (u t : Stream) (xs older : List (Logged P)) (run : RunsOn mac answers before start u (xs ++ older) last t)
        → IsOvertakenIn mac answers n c before start u older (split-run mac answers before start last u t xs older run).0 (split-run mac answers before start last u t xs older run).1
        (split-run mac answers before start last u t xs older run).2
        → IsOvertakenIn mac answers n c before start u (xs ++ older) last t run
    split-overtaken c before start last u t [] older run overtaken = overtaken
    split-overtaken c before start last u t (x ∷ xs) older (m, v, run, number, given, step) overtaken = inl (split-overtaken c before start m u v xs older run overtaken)

    -- so many or more are at least as many
    one-less : (c : ℕ) (before : List (Logged P)) (start last : AgentRecord H P) (u t : Stream) (xs : List (Logged P)) (run : RunsOn mac answers before start u xs last t)
        → IsOvertakenIn mac answers n (suc c) before start u xs last t run → IsOvertakenIn mac answers n c before start u xs last t run
    one-less c before start last u t [] run none = absurd (no none) where
      no : suc c ≡ 0 → ⊥
      no h = omega (arith, h)
    one-less c before start last u t (x ∷ xs) (m, v, run, number, given, step) (inl overtaken) = inl (one-less c before start m u v xs run overtaken)
    one-less c before start last u t (x ∷ xs) (m, v, run, number, given, step) (inr (now, k, is, called, here, overtaken)) =
        inl (subst (λ i. IsOvertakenIn mac answers n i before start u xs m v run) (same k (omega (arith, is))) overtaken) where
          same : (k : ℕ) → suc c ≡ suc k → k ≡ c
          same k h = omega (arith, h)

    fewer-overtaken : (extra m : ℕ) (before : List (Logged P)) (start last : AgentRecord H P) (u t : Stream) (xs : List (Logged P)) (run : RunsOn mac answers before start u xs last t)
        → IsOvertakenIn mac answers n (extra + m) before start u xs last t run → IsOvertakenIn mac answers n m before start u xs last t run
    fewer-overtaken zero m before start last u t xs run overtaken = subst (λ i. IsOvertakenIn mac answers n i before start u xs last t run) (none m) overtaken where
      none : (m : ℕ) → 0 + m ≡ m
      none m = omega arith
    fewer-overtaken (suc extra) m before start last u t xs run overtaken =
        fewer-overtaken extra m before start last u t xs run (one-less (extra + m) before start last u t xs run
        (subst (λ i. IsOvertakenIn mac answers n i before start u xs last t run) (following extra m) overtaken)) where
          following : (e m : ℕ) → suc e + m ≡ suc (e + m)
          following e m = omega arith

    -- ---- a `handle_timeout` call

    -- the call goes on: it leaves the next check to go ahead, or it checked another pair ahead
    abbrev Goes-on : ℕ → Entry → AgentRecord H P → AgentRecord H P → Type 0
    Goes-on now e old new =
        ((old.ahead_turn ≡ false) × (new.ahead_turn ≡ true))
        ⊎ ((old.ahead_turn ≡ true) × (new.ahead_turn ≡ false) × IsOvertaken n now old e.emitted)

    module _ (by : ℕ) (path : Path) (keeps : ℕ → Bool) (ahead : Bool) (total base : ℕ) where
      abbrev PersistsAt : ℕ → ℕ → ℕ → AgentRecord H P → Type 0
      PersistsAt now k spent a = Persists by n path keeps ahead (λ _. 0) total base now k spent a

      abbrev WaitsAt : ℕ → ℕ → ℕ → AgentRecord H P → Type 0
      WaitsAt at k spent a = Waits by n path keeps ahead (λ _. 0) total base at k spent a

      abbrev Sent : Entry → Type 0
      Sent e = (id : List ℕ) × (e.emitted.issued ≡ Some (issued_as path class.Request id))

      timeout-goes-on : (now k spent : ℕ) (e : Entry) (old new : AgentRecord H P) (s t : Stream) → IsSound old → keeps now ≡ true
          → (st : PersistsAt now k spent old) → PutsUrgentFirst n old e → MaintainsPairs mac now (timeout_begun now old) s e.emitted new t → Sent e ⊎ Goes-on now e old new
      timeout-goes-on now k spent e old new s t sound lasting st first p =
          elim (timeout-alternates mac now (timeout_begun now old) new s t e.emitted st.checking.peer st.checking.full (distinct-sound mac old sound) (search (first.modern)) (search (first.quiet)) st.pair st.there
          (search (first.urgent st.pair st.there st.number)) (let due = st.ready.0 in let late = st.late in omega (arith, due, late)) (stays-young old.lite now old.timing st.pair st.checking.full (st.lasts now lasting) st.young)
          (keeps-young now old st.pair st.young) p) [
            | inl (id, out) ↦ inl (id, out ∙ ap (λ w. Some (issued_as w class.Request id)) st.on)
            | inr turns ↦ inr (by-turn (distinct-sound mac old sound) turns old.ahead_turn refl)
          ] where
            by-turn : ((x y : PairRecord) → Has old.pairs x → Has old.pairs y → x.number ≡ y.number → x ≡ y) → (turns : Alternates now (timeout_begun now old) e.emitted.issued new st.pair)
                → (b : Bool) → old.ahead_turn ≡ b → Goes-on now e old new
            by-turn distinct turns false off = inl (off, turns.alternates ∙ ap not off)
            by-turn distinct turns true on = inr (on, turns.alternates ∙ ap not on, taken (turns.overtakes on)) where
              taken : (o : PairRecord) × Has old.pairs o × ((o.number ≡ st.pair.number) → ⊥) × ChecksOn old e.emitted o
                  × ((is_named_by old.selected_pair o ≡ true) ⊎ ((is_urgent o ≡ true) × TurnsBefore old.local old.remote (precedence old) old.next_kind now old.timing o st.pair))
                  → IsOvertaken n now old e.emitted
              taken (o, there, apart, sent, inl named) = record { other = o; there = there; apart = λ same. apart (same ∙ sym st.number); sent = sent; before = inl (search (named)) }
              taken (o, there, apart, sent, inr (urgent, before)) = record {
                other = o;
                there = there;
                apart = λ one. apart (one ∙ sym st.number);
                sent = sent;
                before = inr (
                  search (urgent),
                  λ q q_has is. (let ahead = subst (λ (x : PairRecord). TurnsBefore old.local old.remote (precedence old) old.next_kind now old.timing o x) (sym (distinct q st.pair q_has st.there (is ∙ sym st.number))) before in search (ahead)),
                );
              }

      -- ---- rounds

      abbrev pub Reached : List (LoggedRound P) → Type 0
      Reached rounds = ChecksIn rounds path ⊎ IsAnsweredIn (entries_of rounds) path

      pub reached-later : (r : LoggedRound P) (older : List (LoggedRound P)) → Reached older → Reached (r ∷ older)
      reached-later r older (inl (x, id, has, out)) = inl (x, id, inr has, out)
      reached-later r older (inr answered) = inr (has-following path r.following (r.timeout ∷ entries_of older) (answered-later path r.timeout (entries_of older) answered))

      abbrev spent_in : List (LoggedRound P) → ℕ
      spent_in rounds = paid (λ _. 1) (entries_of rounds)

      module _ (first : AgentRecord H P) (s : Stream) (fresh : IsFresh first) (before : List (Logged P)) (start : AgentRecord H P) (u : Stream) (led : Run mac answers first s before start u) (at : ℕ)
          (begin : (late : by < at) (early : at < MAX) → PersistsAt at 0 0 start) where
        -- how many of the rounds checked another pair before it
        abbrev Went : ℕ → (part : List (Logged P)) (a last : AgentRecord H P) (t : Stream) → RunsOn mac answers before start u part last t → Type 0
        Went rounds part a last t run = (ahead : ℕ) × Progress rounds a.ahead_turn ahead × IsOvertakenIn mac answers n ahead before start u part last t run

        -- the pair waits, and the rules are those of the beginning
        abbrev pub After : (rounds : List (LoggedRound P)) (a : AgentRecord H P) (t : Stream) → RunsOn mac answers before start u (entries_of rounds) a t → Type 0
        After [] a t run = Unit {0}
        After (r ∷ older) a t run = WaitsAt r.now (length (r ∷ older)) (spent_in (r ∷ older)) a × Went (length (r ∷ older)) (entries_of (r ∷ older)) a a t run × (is_modern a.timing ≡ is_modern start.timing)

        sound-at : (log : List (Logged P)) (a : AgentRecord H P) (t : Stream) → Run mac answers first s log a t → IsSound a
        sound-at log a t run = runs_sound mac answers (path_theorem mac answers) first a s t log fresh run

        some-is : (x y : ℕ) → Some x ≡ Some y → x ≡ y
        some-is x y e = cc

        late-in : (r : LoggedRound P) → IsPassing ahead by r → by < r.now
        late-in r passing = let late = passing.late in omega (arith, late)

        early-in : (r : LoggedRound P) → IsPassing ahead by r → r.now < MAX
        early-in r passing = let early = passing.early in omega (arith, early)

        pub persists-at : (r : LoggedRound P) (older : List (LoggedRound P)) (old : AgentRecord H P) (z : Stream) (run : RunsOn mac answers before start u (entries_of older) old z)
            → began_at (r ∷ older) ≡ Some at → IsPassing ahead by r → After older old z run → PersistsAt r.now (length older) (spent_in older) old
        persists-at r [] old z run began passing done =
            let now : r.now ≡ at = some-is r.now at began in
            let late : by < r.now = late-in r passing in
            let early : r.now < MAX = early-in r passing in
            subst (λ (a : AgentRecord H P). PersistsAt r.now 0 0 a) (sym run.0) (subst (λ m. PersistsAt m 0 0 start) (sym now) (begin (omega (arith, late, now)) (omega (arith, early, now))))
        persists-at r (x ∷ older) old z run began passing done =
            persists by n path keeps ahead (λ _. 0) total base x.now (length (x ∷ older)) (spent_in (x ∷ older)) r.now old (late-in r passing) (early-in r passing) done.0

        went-before : (older : List (LoggedRound P)) (old : AgentRecord H P) (z : Stream) (run : RunsOn mac answers before start u (entries_of older) old z) → After older old z run
            → Went (length older) (entries_of older) old old z run
        went-before [] old z run done = (0, progress-none old.ahead_turn, refl)
        went-before (x ∷ older) old z run done = done.1

        pub rules-before : (older : List (LoggedRound P)) (old : AgentRecord H P) (z : Stream) (run : RunsOn mac answers before start u (entries_of older) old z) → After older old z run
            → is_modern old.timing ≡ is_modern start.timing
        rules-before [] old z run done = ap (λ (a : AgentRecord H P). is_modern a.timing) run.0
        rules-before (x ∷ older) old z run done = done.2

        -- the call of a round, and what follows it
        went-on : (now : ℕ) (x : Logged P) (rounds : ℕ) (part : List (Logged P)) (old mid last : AgentRecord H P) (z v : Stream) (run : RunsOn mac answers before start u part old z)
            → (number : x.number ≡ length (part ++ before)) (given : GivesBased x.call) (step : Step mac answers old z x.call x.entry mid v)
            → x.call ≡ HandleTimeout now → Goes-on now x.entry old mid → Went rounds part old old z run → last.ahead_turn ≡ mid.ahead_turn
            → Went (suc rounds) (x ∷ part) last mid v (old, z, run, number, given, step)
        went-on now x rounds part old mid last z v run number given step called (inl (off, on)) (ahead, p, overtaken) ahead_last =
            (ahead, progress-first rounds ahead old.ahead_turn last.ahead_turn p off (ahead_last ∙ on), inl overtaken)
        went-on now x rounds part old mid last z v run number given step called (inr (on, off, here)) (ahead, p, overtaken) ahead_last =
            (suc ahead, progress-ahead rounds ahead old.ahead_turn last.ahead_turn p on (ahead_last ∙ off), inr (now, ahead, omega arith, called, here, overtaken))

        one-round : (r : LoggedRound P) (older : List (LoggedRound P)) (old mid last : AgentRecord H P) (z v t : Stream) (run_older : RunsOn mac answers before start u (entries_of older) old z)
            → (number : r.timeout.number ≡ length (entries_of older ++ before)) (given : GivesBased r.timeout.call) (step : Step mac answers old z r.timeout.call r.timeout.entry mid v)
            → (back : RunsOn mac answers ((r.timeout ∷ entries_of older) ++ before) mid v r.following last t)
            → began_at (r ∷ older) ≡ Some at → IsPassing ahead by r → keeps r.now ≡ true → PutsUrgentFirst n old r.timeout.entry → After older old z run_older
            → Reached (r ∷ older)
            ⊎ (IsEndedIn mac answers ((r.timeout ∷ entries_of older) ++ before) mid v r.following last t back path
            ⊎ (WaitsAt r.now (length (r ∷ older)) (spent_in (r ∷ older)) last
            × Went (length (r ∷ older)) (r.timeout ∷ entries_of older) last mid v (old, z, run_older, number, given, step) × (is_modern last.timing ≡ is_modern start.timing)))
        one-round r older old mid last z v t run_older number given step back began passing lasting puts done =
            let led_old = run-on mac answers first start old s u z before (entries_of older) led run_older in
            let led_mid = run-on mac answers first start mid s u v before (r.timeout ∷ entries_of older) led (old, z, run_older, number, given, step) in
            let called : Step mac answers old z (HandleTimeout r.now) r.timeout.entry mid v = subst (λ (c : Call P). Step mac answers old z c r.timeout.entry mid v) passing.comes step in
            let sound = sound-at (entries_of older ++ before) old z led_old in
            let st = persists-at r older old z run_older began passing done in
            let maintained : MaintainsPairs mac r.now (timeout_begun r.now old) z r.timeout.entry.emitted mid v =
            maintains_pairs-from mac r.now old z v r.timeout.entry.emitted mid st.queue (passed-at mac answers old mid z v r.now r.timeout.entry passing.done called) in
            let follows = timeout-follows mac r.now (timeout_begun r.now old) mid z v r.timeout.entry.emitted st.checking.peer st.checking.full maintained in
            elim (timeout-goes-on r.now (length older) (spent_in older) r.timeout.entry old mid z v sound lasting st puts maintained) [
              | inl (id, out) ↦ inl (inl (r, id, inl refl, out))
              | inr on ↦
                  elim (timeout-on mac answers by n path keeps ahead (λ _. 0) (λ _. 1) total base r.now (length older) (spent_in older) r.timeout.entry old mid z v passing.done called sound
                  (sound-at ((r.timeout ∷ entries_of older) ++ before) mid v led_mid) st (omega arith)
                  (λ h due. omega arith) lasting) [
                    | inl (id, out) ↦ inl (inl (r, id, inl refl, out))
                    | inr waits ↦
                        elim (walk mac answers by n path keeps ahead (λ _. 0) (λ _. 1) total base (λ call e x y a b fits here. omega arith) first s fresh r.now (length (r ∷ older)) (paid (λ _. 1) (r.timeout ∷ entries_of older))
                        (late-in r passing) (early-in r passing) ((r.timeout ∷ entries_of older) ++ before) mid last v t r.following passing.between led_mid back waits) [
                          | inl answered ↦ inl (inr (has-front path r.following (r.timeout ∷ entries_of older) answered))
                          | inr (inl ended) ↦ inr (inl ended)
                          | inr (inr (goes, still)) ↦ inr (inr (
                            subst (λ k. WaitsAt r.now (length (r ∷ older)) k last) (sym (paid-join (λ _. 1) r.following (r.timeout ∷ entries_of older))) still,
                            went-on r.now r.timeout (length older) (entries_of older) old mid last z v run_older number given step passing.comes on (went-before older old z run_older done)
                                (ap (λ (g : Ground). g.ahead_turn) goes.0),
                            ap (λ (g : Ground). is_modern g.timing) goes.0 ∙ (ap (λ (b : Base). is_modern b.timing) follows.0 ∙ rules-before older old z run_older done),
                          ))
                        ]
                  ]
            ]

        pub rounds-urgent : (rounds : List (LoggedRound P)) (last : AgentRecord H P) (t : Stream) → (rounds ≡ [] ⊎ began_at rounds ≡ Some at) → ((r : LoggedRound P) → Has rounds r → IsPassing ahead by r)
            → ((r : LoggedRound P) → Has rounds r → keeps r.now ≡ true) → (run : RunsOn mac answers before start u (entries_of rounds) last t)
            → PutUrgentFirstIn mac answers n path before start u (entries_of rounds) last t run
            → Reached rounds ⊎ (IsEndedIn mac answers before start u (entries_of rounds) last t run path ⊎ After rounds last t run)
        rounds-urgent [] last t began are lasting run turns = inr (inr tt)
        rounds-urgent (r ∷ older) last t began are lasting run turns =
            let h = split-run mac answers before start last u t r.following (r.timeout ∷ entries_of older) run in
            on-halves (here-began began) h.0 h.1 h.2.0 h.2.1 h.2.2 h.2.3 h.2.4 h.2.5 h.3 (split-urgent path before start last u t r.following (r.timeout ∷ entries_of older) run turns).0
            (rounds-urgent older h.2.0 h.2.1 (older-began older (here-began began)) (λ x has. are x (inr has)) (λ x has. lasting x (inr has)) h.2.2
            (split-urgent path before start last u t r.following (r.timeout ∷ entries_of older) run turns).1)
            (λ ended. split-ended mac answers path before start last u t r.following (r.timeout ∷ entries_of older) run ended)
            (λ c overtaken. split-overtaken c before start last u t r.following (r.timeout ∷ entries_of older) run overtaken) where
              here-began : (r ∷ older ≡ [] ⊎ began_at (r ∷ older) ≡ Some at) → began_at (r ∷ older) ≡ Some at
              here-began (inl empty) = absurd (cc)
              here-began (inr is) = is

              older-began : (rs : List (LoggedRound P)) → began_at (r ∷ rs) ≡ Some at → (rs ≡ [] ⊎ began_at rs ≡ Some at)
              older-began [] is = inl refl
              older-began (x ∷ rs) is = inr is

              on-halves : began_at (r ∷ older) ≡ Some at → (mid : AgentRecord H P) (v : Stream) (old : AgentRecord H P) (z : Stream) (run_older : RunsOn mac answers before start u (entries_of older) old z)
                  → (number : r.timeout.number ≡ length (entries_of older ++ before)) (given : GivesBased r.timeout.call) (step : Step mac answers old z r.timeout.call r.timeout.entry mid v)
                  → (back : RunsOn mac answers ((r.timeout ∷ entries_of older) ++ before) mid v r.following last t)
                  → ((now : ℕ) → r.timeout.call ≡ HandleTimeout now → PutsUrgentFirst n old r.timeout.entry ⊎ IsAnsweredIn (entries_of older) path)
                  → Reached older ⊎ (IsEndedIn mac answers before start u (entries_of older) old z run_older path ⊎ After older old z run_older)
                  → (IsEndedIn mac answers ((r.timeout ∷ entries_of older) ++ before) mid v r.following last t back path
                  ⊎ IsEndedIn mac answers before start u (r.timeout ∷ entries_of older) mid v (old, z, run_older, number, given, step) path
                  → IsEndedIn mac answers before start u (entries_of (r ∷ older)) last t run path)
                  → ((c : ℕ) → IsOvertakenIn mac answers n c before start u (r.timeout ∷ entries_of older) mid v (old, z, run_older, number, given, step)
                  → IsOvertakenIn mac answers n c before start u (entries_of (r ∷ older)) last t run)
                  → Reached (r ∷ older) ⊎ (IsEndedIn mac answers before start u (entries_of (r ∷ older)) last t run path ⊎ After (r ∷ older) last t run)
              on-halves began mid v old z run_older number given step back puts (inl reached) ends overtakes = inl (reached-later r older reached)
              on-halves began mid v old z run_older number given step back puts (inr (inl ended)) ends overtakes = inr (inl (ends (inr (inr ended))))
              on-halves began mid v old z run_older number given step back puts (inr (inr done)) ends overtakes =
                  elim (puts r.now (are r (inl refl)).comes) [
                    | inr answered ↦ inl (reached-later r older (inr answered))
                    | inl first_urgent ↦
                        elim (one-round r older old mid last z v t run_older number given step back began (are r (inl refl)) (lasting r (inl refl)) first_urgent done) [
                          | inl reached ↦ inl reached
                          | inr (inl ended) ↦ inr (inl (ends (inl ended)))
                          | inr (inr (waits, (c, p, overtaken), rules)) ↦ inr (inr (waits, (c, p, overtakes c overtaken), rules))
                        ]
                  ]

  pub urgent-pairs-are-reached : UrgentPairsAreReached mac answers
  urgent-pairs-are-reached first s log fresh before start last rounds p by m found w turns enough =
      by-rounds rounds last found.following found.run w.began (omega (arith, enough))
      (rounds-urgent p.number by (path_of start p) (answered_at start p) (is_modern start.timing) (total_at by start p) start.next_number first s fresh before start found.at found.led w.at (begins by start p rounds w) rounds last found.following
      (inr w.began) w.passing (λ r has. lasts-at mac answers first s log fresh before start last (entries_of rounds) p found w.line.there r.now (search (w.lasting r has))) found.run turns) where
        by-rounds : (rs : List (LoggedRound P)) (a : AgentRecord H P) (t : Stream) (run : RunsOn mac answers before start found.at (entries_of rs) a t) → began_at rs ≡ Some w.at → 2 * m ≤ length rs
            → (ChecksIn rs (path_of start p) ⊎ IsAnsweredIn (entries_of rs) (path_of start p))
            ⊎ (IsEndedIn mac answers before start found.at (entries_of rs) a t run (path_of start p)
            ⊎ After p.number by (path_of start p) (answered_at start p) (is_modern start.timing) (total_at by start p) start.next_number first s fresh before start found.at found.led w.at (begins by start p rounds w) rs a t run)
            → ChecksIn rs (path_of start p)
            ⊎ (IsAnsweredIn (entries_of rs) (path_of start p)
            ⊎ (IsEndedIn mac answers before start found.at (entries_of rs) a t run (path_of start p)
            ⊎ IsOvertakenIn mac answers p.number m before start found.at (entries_of rs) a t run))
        by-rounds rs a t run none enough (inl (inl checks)) = inl checks
        by-rounds rs a t run none enough (inl (inr answered)) = inr (inl answered)
        by-rounds rs a t run none enough (inr (inl ended)) = inr (inr (inl ended))
        by-rounds [] a t run none enough (inr (inr done)) = absurd (let no : None ≡ Some w.at = none in cc)
        by-rounds (r ∷ older) a t run none enough (inr (inr (waits, (c, went, overtaken), rules))) =
            let most : m ≤ c = enough-rounds (length (r ∷ older)) c m a.ahead_turn went (omega (arith, enough)) in
            inr (inr (inr (fewer-overtaken p.number (c - m) m before start a found.at t (entries_of (r ∷ older)) run
            (subst (λ i. IsOvertakenIn mac answers p.number i before start found.at (entries_of (r ∷ older)) a t run) (rest most) overtaken)))) where
              rest : m ≤ c → c ≡ c - m + m
              rest le = omega (arith, le)

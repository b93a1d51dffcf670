-- Rounds in which kinds take turns: a pair that is due is checked in one of them, or they check as many pairs that go before it as they give
-- turns to its kind.
use Rattle.is_stun.specs.declared.header.Class.TheVariants as class
use Rattle.is_theorems.proofs.Common.{[], ◌&&◌, ◌++◌, ◌+◌, ◌-◌, ◌<◌, ◌||◌, ◌∙◌, ◌∷◌, ◌≡◌, ◌≤◌, ◌⊎◌, AgentRecord, all_scheduled, ap, arith}
use Rattle.is_theorems.proofs.Common.{AtTimeoutsIn, began_at, Bool, Call, CandidateRecord, ChecksIn, ChecksOn, due_time_of, entries_of}
use Rattle.is_theorems.proofs.Common.{Entry, false, GivesBased, goes_first, GoesBefore, HandleTimeout, Has, has_few_unanswered, inl, inr, is_modern}
use Rattle.is_theorems.proofs.Common.{is_named_by, is_valid, IsAnsweredIn, IsDelayed, IsDelayedIn, IsEndedIn, IsFresh}
use Rattle.is_theorems.proofs.Common.{IsHeldUp, IsPassing, IsSound, issued_as, kind_in, KINDS, KindsAreReachedInTurn, length, List, Logged}
use Rattle.is_theorems.proofs.Common.{LoggedRound, MaintainsPairs, MAX, nat_lt, Nominated, nominates_at_once, nominates_first, None, not, OfTimeoutsIn}
use Rattle.is_theorems.proofs.Common.{PairRecord, Part, Path, path_of, Precedence, precedence, refl, Run, RunsOn, Some, Step, Stream, subst}
use Rattle.is_theorems.proofs.Common.{suc, sym, TakesTurns, timeout_begun, true, turn_of, unwrap_or, WaitsInRounds, ℕ}
use Rattle.is_theorems.proofs.CallEffects.PathAndTradeEffects.{path_theorem}
use Rattle.is_theorems.proofs.DuePairs.AfterNominationAndRemoval.{Base, answered_at, last_time_of, stays-young}
use Rattle.is_theorems.proofs.DuePairs.FirstDuePair.{timeout-follows}
use Rattle.is_theorems.proofs.DuePairs.PollingCycles.{distinct-sound, maintains_pairs-from}
use Rattle.is_theorems.proofs.EarlierChecks.BetweenTimeouts.{Ground}
use Rattle.is_theorems.proofs.EarlierChecks.ChecksOfOtherPairs.{formed_by, leads, Measure}
use Rattle.is_theorems.proofs.ExecutionLogs.LogSegments.{passed as passed-at, run-on}
use Rattle.is_theorems.proofs.ExecutionLogs.LogTheorems.{runs_sound}
use Rattle.is_theorems.proofs.ExecutionLogs.SegmentsAsExecutions.{split-ended, split-run}
use Rattle.is_theorems.proofs.KindTurns.CountedTurns.{enough-delays, progress-delay, progress-first, progress-none, progress-other}
use Rattle.is_theorems.proofs.KindTurns.CountedTurns.{Progress}
use Rattle.is_theorems.proofs.KindTurns.ChecksByKind.{kind-in-range, timeout-takes, Turns, UsesUp}
use Rattle.is_theorems.proofs.KindTurns.OrderOfKinds.{fewer-before, kinds_before, others-before}
use Rattle.is_theorems.proofs.KindTurns.SegmentsInTurn.{fewer-counted, has-path-or, in-turn, split-counted, split-timeouts, InTurn}
use Rattle.is_theorems.proofs.PollingRounds.CountedSelections.{paid, paid-join}
use Rattle.is_theorems.proofs.PollingRounds.DuePairsInLogs.{answered-later, has-following, has-front, lasts-at, persists, timeout-on, walk}
use Rattle.is_theorems.proofs.PollingRounds.DuePairsInLogs.{Persists, Waits}
use Rattle.is_theorems.proofs.PollingRounds.WaitingPairs.{begins, total_at}

-- ---- sums

-- so many checks of pairs of the kind were sent, so many are left
counted-same : (own lo lm ll fs fo fm fl ls : ℕ) → own + lo + fs ≤ ls + fo → lm ≤ lo → fm ≡ fo → ll + fm ≤ lm + fl → own + ll + fs ≤ ls + fl
counted-same own lo lm ll fs fo fm fl ls before less same following = omega (arith, before, less, same, following)

counted-one : (own lo lm ll fs fo fm fl ls : ℕ) → own + lo + fs ≤ ls + fo → lm + 1 ≤ lo → fm ≡ fo → ll + fm ≤ lm + fl → suc own + ll + fs ≤ ls + fl
counted-one own lo lm ll fs fo fm fl ls before less same following = omega (arith, before, less, same, following)

-- ---- urgent pairs

-- a pair that does not go first does not wait for its nominating check
not-nominating : (pre : Precedence) (o : PairRecord) → pre.urgent ≡ true → goes_first pre o ≡ false → o.nomination ≡ Nominated → ⊥
not-nominating pre o rule off is = by (is_named_by pre.selected o) pre.urgent (nat_lt 0 o.requests && not (is_valid o)) (nominates_first o.nomination (has_few_unanswered o)) off rule (ap (λ n. nominates_first n (has_few_unanswered o)) is) where
  by : (a b c d : Bool) → (a || (b && (c || d))) ≡ false → b ≡ true → d ≡ true → ⊥
  by true b c d off rule on = (let no : true ≡ false = off in cc)
  by false false c d off rule on = (let no : false ≡ true = rule in cc)
  by false true true d off rule on = (let no : true ≡ false = off in cc)
  by false true false false off rule on = (let no : false ≡ true = on in cc)
  by false true false true off rule on = (let no : true ≡ false = off in cc)

due-before : (x y by : ℕ) (Prior : Type 0) → (x < y) ⊎ ((x ≡ y) × Prior) → y ≤ by → x ≤ by
due-before x y by Prior (inl less) le = omega (arith, less, le)
due-before x y by Prior (inr same) le = let e = same.0 in omega (arith, e, le)

module _ {H P : Type 0} (mac : H → List ℕ → List ℕ → List ℕ) (answers : P → CandidateRecord → ℕ → ℕ → Type 0) where
  module _ (w : Measure) (kinds : List ℕ) (kind n : ℕ) where
    -- ---- a `handle_timeout` call

    module _ (by : ℕ) (path : Path) (keeps : ℕ → Bool) (ahead : Bool) (total base : ℕ) where
      -- the call delays the pair: it checks one that goes before all kinds, or uses up a check of a pair of the kind
      abbrev Delays : ℕ → Entry → AgentRecord H P → AgentRecord H P → Type 0
      Delays now e old new = IsDelayed kind n now old e.emitted × (IsHeldUp n now old e.emitted ⊎ (leads w by new.pairs + 1 ≤ leads w by old.pairs))

      -- the call goes on: of k kinds, some have their turn before the pair's kind
      abbrev Moves : ℕ → Entry → AgentRecord H P → AgentRecord H P → Type 0
      Moves now e old new =
          ((old.ahead_turn ≡ false) × (new.ahead_turn ≡ true) × (new.next_kind ≡ old.next_kind))
          ⊎ ((old.ahead_turn ≡ true) × (new.ahead_turn ≡ false) × (Delays now e old new ⊎ (kinds_before new.next_kind kind kinds + 1 ≤ kinds_before old.next_kind kind kinds)))

      abbrev Goes-on : ℕ → Entry → AgentRecord H P → AgentRecord H P → Type 0
      Goes-on now e old new = (leads w by new.pairs ≤ leads w by old.pairs) × Moves now e old new

      abbrev PersistsAt : ℕ → ℕ → ℕ → AgentRecord H P → Type 0
      PersistsAt now k spent a = Persists by n path keeps ahead (λ _. 0) total base now k spent a

      abbrev WaitsAt : ℕ → ℕ → ℕ → AgentRecord H P → Type 0
      WaitsAt at k spent a = Waits by n path keeps ahead (λ _. 0) total base at k spent a

      abbrev Sent : Entry → Type 0
      Sent e = (id : List ℕ) × (e.emitted.issued ≡ Some (issued_as path class.Request id))

      turns-at : (now k spent : ℕ) (e : Entry) (old new : AgentRecord H P) (s t : Stream) → IsSound old → keeps now ≡ true
          → (st : PersistsAt now k spent old) → InTurn w kinds kind n old new → (h : MaintainsPairs mac now (timeout_begun now old) s e.emitted new t)
          → (nominates_at_once (all_scheduled now h.4) ≡ false) × (ChecksOn old e.emitted st.pair ⊎ Turns by now (timeout_begun now old) e.emitted.issued new st.pair)
      turns-at now k spent e old new s t sound lasting st takes h =
          timeout-takes mac now by st.late st.early (timeout_begun now old) new s t e.emitted st.checking.peer st.checking.full (distinct-sound mac old sound) sound.checks takes.turns takes.unselected st.pair st.there
          st.ready.0
          (stays-young old.lite now old.timing st.pair st.checking.full (st.lasts now lasting) st.young) h

      timeout-turns : (now k spent : ℕ) (e : Entry) (old new : AgentRecord H P) (s t : Stream) → IsSound old → keeps now ≡ true
          → (st : PersistsAt now k spent old) → InTurn w kinds kind n old new → MaintainsPairs mac now (timeout_begun now old) s e.emitted new t → Sent e ⊎ Goes-on now e old new
      timeout-turns now k spent e old new s t sound lasting st takes p =
          let distinct = distinct-sound mac old sound in
          let kind_is : kind_in old st.pair ≡ kind = takes.keeps st.pair st.there st.number in
          let h = turns-at now k spent e old new s t sound lasting st takes p in
          elim h.1 [
            | inl (id, out) ↦ inl (id, out ∙ ap (λ w. Some (issued_as w class.Request id)) st.on)
            | inr turns ↦ inr (turns.lessens w, by-turn kind_is distinct st.ready.0 turns old.ahead_turn refl)
          ] where
            by-turn : kind_in old st.pair ≡ kind → ((x y : PairRecord) → Has old.pairs x → Has old.pairs y → x.number ≡ y.number → x ≡ y) → due_time_of now old.timing st.pair ≤ by
                → (turns : Turns by now (timeout_begun now old) e.emitted.issued new st.pair) → (b : Bool) → old.ahead_turn ≡ b → Moves now e old new
            by-turn kind_is distinct due turns false off = inl (off, turns.alternates ∙ ap not off, turns.waits off)
            by-turn kind_is distinct due turns true on = inr (on, turns.alternates ∙ ap not on, taken (turns.takes on)) where
              -- a pair that goes before all kinds
              first-of : (o : PairRecord) → Has old.pairs o → (o.number ≡ st.pair.number → ⊥) → ChecksOn old e.emitted o → goes_first (precedence old) o ≡ true → IsHeldUp n now old e.emitted
              first-of o there apart sent first = record { other = o; there = there; apart = λ same. apart (same ∙ sym st.number); sent = sent; first = search (first) }

              -- another one of the kind
              costs : (o : PairRecord) → Has old.pairs o → (o.number ≡ st.pair.number → ⊥) → ChecksOn old e.emitted o → kind_in old o ≡ kind → due_time_of now old.timing o ≤ by
                  → UsesUp by now (timeout_begun now old) new o → (b : Bool) → goes_first (precedence old) o ≡ b → IsHeldUp n now old e.emitted ⊎ (leads w by new.pairs + 1 ≤ leads w by old.pairs)
              costs o there apart sent same o_due uses true first = inl (first-of o there apart sent first)
              costs o there apart sent same o_due uses false off =
                  inr (uses w (takes.counted o there same (λ one. apart (one ∙ sym st.number))) o_due (elim takes.counts [
                    | inl both ↦ inl both
                    | inr rule ↦ inr (not-nominating (precedence old) o rule off)
                  ]))

              taken : (o : PairRecord) × Has old.pairs o × ((o.number ≡ st.pair.number) → ⊥) × ChecksOn old e.emitted o × (new.next_kind ≡ kind_in old o + 1)
                  × ((goes_first (precedence old) o ≡ true) ⊎ (((kind_in old o ≡ kind_in old st.pair) × GoesBefore now old.timing o st.pair)
                  ⊎ (turn_of old.next_kind (kind_in old o) < turn_of old.next_kind (kind_in old st.pair)))) × UsesUp by now (timeout_begun now old) new o
                  → Delays now e old new ⊎ (kinds_before new.next_kind kind kinds + 1 ≤ kinds_before old.next_kind kind kinds)
              taken (o, there, apart, sent, next, inl first, uses) = inl (
                record { other = o; there = there; apart = λ same. apart (same ∙ sym st.number); sent = sent; before = inl (search (first)) },
                inl (first-of o there apart sent first),
              )
              taken (o, there, apart, sent, next, inr (inl (same, before)), uses) = inl (
                record {
                  other = o;
                  there = there;
                  apart = λ one. apart (one ∙ sym st.number);
                  sent = sent;
                  before = inr (
                    same ∙ kind_is,
                    λ q q_has is. (let ahead = subst (λ (x : PairRecord). GoesBefore now old.timing o x) (sym (distinct q st.pair q_has st.there (is ∙ sym st.number))) before in search (ahead)),
                  );
                },
                costs o there apart sent (same ∙ kind_is) (due-before (due_time_of now old.timing o) (due_time_of now old.timing st.pair) by (st.pair.priority ≤ o.priority) before due) uses
                    (goes_first (precedence old) o) refl,
              )
              taken (o, there, apart, sent, next, inr (inr led), uses) =
                  inr (subst (λ i. kinds_before i kind kinds + 1 ≤ kinds_before old.next_kind kind kinds) (sym next)
                  (fewer-before old.next_kind kind (kind_in old o) kinds (subst (λ i. i < KINDS) kind_is (kind-in-range old st.pair)) (kind-in-range old o) (takes.listed o there)
                  (subst (λ i. turn_of old.next_kind (kind_in old o) < turn_of old.next_kind i) kind_is led)))

      -- ---- rounds

      abbrev Reached : List (LoggedRound P) → Type 0
      Reached rounds = ChecksIn rounds path ⊎ IsAnsweredIn (entries_of rounds) path

      reached-later : (r : LoggedRound P) (older : List (LoggedRound P)) → Reached older → Reached (r ∷ older)
      reached-later r older (inl (x, id, has, out)) = inl (x, id, inr has, out)
      reached-later r older (inr answered) = inr (has-following path r.following (r.timeout ∷ entries_of older) (answered-later path r.timeout (entries_of older) answered))

      abbrev spent_in : List (LoggedRound P) → ℕ
      spent_in rounds = paid (λ _. 0) (entries_of rounds)

      module _ (first : AgentRecord H P) (s : Stream) (fresh : IsFresh first) (before : List (Logged P)) (start : AgentRecord H P) (u : Stream) (led : Run mac answers first s before start u) (at : ℕ)
          (begin : (late : by < at) (early : at < MAX) → PersistsAt at 0 0 start) where
        -- how far the turns went, and how often pairs that go before all kinds, and others of the kind, delayed the pair
        abbrev pub Went : ℕ → (part : List (Logged P)) (a last : AgentRecord H P) (t : Stream) → RunsOn mac answers before start u part last t → Type 0
        Went rounds part a last t run =
            (turns held own : ℕ) × Progress rounds (length kinds) (kinds_before a.next_kind kind kinds) a.ahead_turn turns (held + own)
            × IsDelayedIn mac answers kind n (held + own) before start u part last t run × OfTimeoutsIn mac answers (λ now. IsHeldUp n now) held before start u part last t run
            × (own + leads w by a.pairs + formed_by w start.next_number ≤ leads w by start.pairs + formed_by w a.next_number)

        abbrev After : (rounds : List (LoggedRound P)) (a : AgentRecord H P) (t : Stream) → RunsOn mac answers before start u (entries_of rounds) a t → Type 0
        After [] a t run = Unit {0}
        After (r ∷ older) a t run = WaitsAt r.now (length (r ∷ older)) (spent_in (r ∷ older)) a × Went (length (r ∷ older)) (entries_of (r ∷ older)) a a t run

        sound-at : (log : List (Logged P)) (a : AgentRecord H P) (t : Stream) → Run mac answers first s log a t → IsSound a
        sound-at log a t run = runs_sound mac answers (path_theorem mac answers) first a s t log fresh run

        some-is : (x y : ℕ) → Some x ≡ Some y → x ≡ y
        some-is x y e = cc

        late-in : (r : LoggedRound P) → IsPassing ahead by r → by < r.now
        late-in r passing = let late = passing.late in omega (arith, late)

        early-in : (r : LoggedRound P) → IsPassing ahead by r → r.now < MAX
        early-in r passing = let early = passing.early in omega (arith, early)

        persists-at : (r : LoggedRound P) (older : List (LoggedRound P)) (old : AgentRecord H P) (z : Stream) (run : RunsOn mac answers before start u (entries_of older) old z)
            → began_at (r ∷ older) ≡ Some at → IsPassing ahead by r → After older old z run → PersistsAt r.now (length older) (spent_in older) old
        persists-at r [] old z run began passing done =
            let now : r.now ≡ at = some-is r.now at began in
            let late : by < r.now = late-in r passing in
            let early : r.now < MAX = early-in r passing in
            subst (λ (a : AgentRecord H P). PersistsAt r.now 0 0 a) (sym run.0) (subst (λ m. PersistsAt m 0 0 start) (sym now) (begin (omega (arith, late, now)) (omega (arith, early, now))))
        persists-at r (x ∷ older) old z run began passing done =
            persists by n path keeps ahead (λ _. 0) total base x.now (length (x ∷ older)) (spent_in (x ∷ older)) r.now old (late-in r passing) (early-in r passing) done.0

        went-before : (older : List (LoggedRound P)) (old : AgentRecord H P) (z : Stream) (run : RunsOn mac answers before start u (entries_of older) old z) → Has kinds kind → After older old z run
            → Went (length older) (entries_of older) old old z run
        went-before [] old z run listed done = (
          0,
          0,
          0,
          progress-none (length kinds) (kinds_before old.next_kind kind kinds) old.ahead_turn (others-before old.next_kind kind kinds listed),
          refl,
          refl,
          subst (λ (a : AgentRecord H P). 0 + leads w by a.pairs + formed_by w start.next_number ≤ leads w by start.pairs + formed_by w a.next_number) (sym run.0) (omega arith),
        )
        went-before (x ∷ older) old z run listed done = done.1

        -- the call of a round, and what follows it
        went-on : (now : ℕ) (x : Logged P) (rounds : ℕ) (part : List (Logged P)) (old mid last : AgentRecord H P) (z v : Stream) (run : RunsOn mac answers before start u part old z)
            → (number : x.number ≡ length (part ++ before)) (given : GivesBased x.call) (step : Step mac answers old z x.call x.entry mid v)
            → x.call ≡ HandleTimeout now → Has kinds kind → Goes-on now x.entry old mid → Went rounds part old old z run → last.ahead_turn ≡ mid.ahead_turn → last.next_kind ≡ mid.next_kind
            → formed_by w mid.next_number ≡ formed_by w old.next_number → leads w by last.pairs + formed_by w mid.next_number ≤ leads w by mid.pairs + formed_by w last.next_number
            → Went (suc rounds) (x ∷ part) last mid v (old, z, run, number, given, step)
        went-on now x rounds part old mid last z v run number given step called listed (less, inl (off, on, same)) (turns, held, own, p, delayed, up, left) ahead_last next_last formed following = (
          turns,
          held,
          own,
          progress-first rounds (length kinds) (kinds_before old.next_kind kind kinds) (kinds_before last.next_kind kind kinds) turns (held + own) old.ahead_turn last.ahead_turn p off (ahead_last ∙ on)
              (ap (λ i. kinds_before i kind kinds) (next_last ∙ same)),
          inl delayed,
          inl up,
          counted-same own _ _ _ _ _ _ _ _ left less formed following,
        )
        went-on now x rounds part old mid last z v run number given step called listed (less, inr (on, off, inl (here, inl first))) (turns, held, own, p, delayed, up, left) ahead_last next_last formed following = (
          suc turns,
          suc held,
          own,
          subst (λ c. Progress (suc rounds) (length kinds) (kinds_before last.next_kind kind kinds) last.ahead_turn (suc turns) c) (sum-held held own)
              (progress-delay rounds (length kinds) (kinds_before old.next_kind kind kinds) (kinds_before last.next_kind kind kinds) turns (held + own) old.ahead_turn last.ahead_turn p on (ahead_last ∙ off)
              (others-before last.next_kind kind kinds listed)),
          inr (now, held + own, omega arith, called, here, delayed),
          inr (now, held, omega arith, called, first, up),
          counted-same own _ _ _ _ _ _ _ _ left less formed following,
        ) where
          sum-held : (h o : ℕ) → suc (h + o) ≡ suc h + o
          sum-held h o = omega arith
        went-on now x rounds part old mid last z v run number given step called listed (less, inr (on, off, inl (here, inr one))) (turns, held, own, p, delayed, up, left) ahead_last next_last formed following = (
          suc turns,
          held,
          suc own,
          subst (λ c. Progress (suc rounds) (length kinds) (kinds_before last.next_kind kind kinds) last.ahead_turn (suc turns) c) (sum-own held own)
              (progress-delay rounds (length kinds) (kinds_before old.next_kind kind kinds) (kinds_before last.next_kind kind kinds) turns (held + own) old.ahead_turn last.ahead_turn p on (ahead_last ∙ off)
              (others-before last.next_kind kind kinds listed)),
          inr (now, held + own, omega arith, called, here, delayed),
          inl up,
          counted-one own _ _ _ _ _ _ _ _ left one formed following,
        ) where
          sum-own : (h o : ℕ) → suc (h + o) ≡ h + suc o
          sum-own h o = omega arith
        went-on now x rounds part old mid last z v run number given step called listed (less, inr (on, off, inr fewer)) (turns, held, own, p, delayed, up, left) ahead_last next_last formed following = (
          suc turns,
          held,
          own,
          progress-other rounds (length kinds) (kinds_before old.next_kind kind kinds) (kinds_before last.next_kind kind kinds) turns (held + own) old.ahead_turn last.ahead_turn p on (ahead_last ∙ off)
              (subst (λ i. kinds_before i kind kinds + 1 ≤ kinds_before old.next_kind kind kinds) (sym next_last) fewer),
          inl delayed,
          inl up,
          counted-same own _ _ _ _ _ _ _ _ left less formed following,
        )

        one-round : (r : LoggedRound P) (older : List (LoggedRound P)) (old mid last : AgentRecord H P) (z v t : Stream) (run_older : RunsOn mac answers before start u (entries_of older) old z)
            → (number : r.timeout.number ≡ length (entries_of older ++ before)) (given : GivesBased r.timeout.call) (step : Step mac answers old z r.timeout.call r.timeout.entry mid v)
            → (back : RunsOn mac answers ((r.timeout ∷ entries_of older) ++ before) mid v r.following last t)
            → began_at (r ∷ older) ≡ Some at → IsPassing ahead by r → keeps r.now ≡ true → InTurn w kinds kind n old mid → After older old z run_older
            → Reached (r ∷ older)
            ⊎ (IsEndedIn mac answers ((r.timeout ∷ entries_of older) ++ before) mid v r.following last t back path
            ⊎ (WaitsAt r.now (length (r ∷ older)) (spent_in (r ∷ older)) last
            × Went (length (r ∷ older)) (r.timeout ∷ entries_of older) last mid v (old, z, run_older, number, given, step)))
        one-round r older old mid last z v t run_older number given step back began passing lasting takes done =
            let led_old = run-on mac answers first start old s u z before (entries_of older) led run_older in
            let led_mid = run-on mac answers first start mid s u v before (r.timeout ∷ entries_of older) led (old, z, run_older, number, given, step) in
            let called : Step mac answers old z (HandleTimeout r.now) r.timeout.entry mid v = subst (λ (c : Call P). Step mac answers old z c r.timeout.entry mid v) passing.comes step in
            let sound = sound-at (entries_of older ++ before) old z led_old in
            let st = persists-at r older old z run_older began passing done in
            let maintained : MaintainsPairs mac r.now (timeout_begun r.now old) z r.timeout.entry.emitted mid v =
            maintains_pairs-from mac r.now old z v r.timeout.entry.emitted mid st.queue (passed-at mac answers old mid z v r.now r.timeout.entry passing.done called) in
            let kind_is : kind_in old st.pair ≡ kind = takes.keeps st.pair st.there st.number in
            let of_pair : Has kinds (kind_in old st.pair) = takes.listed st.pair st.there in
            let listed : Has kinds kind = subst (λ i. Has kinds i) kind_is of_pair in
            let follows = timeout-follows mac r.now (timeout_begun r.now old) mid z v r.timeout.entry.emitted st.checking.peer st.checking.full maintained in
            elim (timeout-turns r.now (length older) (spent_in older) r.timeout.entry old mid z v sound lasting st takes maintained) [
              | inl (id, out) ↦ inl (inl (r, id, inl refl, out))
              | inr on ↦
                  elim (timeout-on mac answers by n path keeps ahead (λ _. 0) (λ _. 0) total base r.now (length older) (spent_in older) r.timeout.entry old mid z v passing.done called sound
                  (sound-at ((r.timeout ∷ entries_of older) ++ before) mid v led_mid) st (omega arith)
                  (λ h due. absurd (no-both (nominates_at_once (all_scheduled r.now h.4)) due (turns-at r.now (length older) (spent_in older) r.timeout.entry old mid z v sound lasting st takes h).0)) lasting) [
                    | inl (id, out) ↦ inl (inl (r, id, inl refl, out))
                    | inr waits ↦
                        elim (walk mac answers by n path keeps ahead (λ _. 0) (λ _. 0) total base (λ call e x y a b fits here. omega arith) first s fresh r.now (length (r ∷ older)) (paid (λ _. 0) (r.timeout ∷ entries_of older))
                        (late-in r passing) (early-in r passing) ((r.timeout ∷ entries_of older) ++ before) mid last v t r.following passing.between led_mid back waits) [
                          | inl answered ↦ inl (inr (has-front path r.following (r.timeout ∷ entries_of older) answered))
                          | inr (inl ended) ↦ inr (inl ended)
                          | inr (inr (goes, still)) ↦ inr (inr (
                            subst (λ k. WaitsAt r.now (length (r ∷ older)) k last) (sym (paid-join (λ _. 0) r.following (r.timeout ∷ entries_of older))) still,
                            went-on r.now r.timeout (length older) (entries_of older) old mid last z v run_older number given step passing.comes listed on (went-before older old z run_older listed done)
                                (ap (λ (g : Ground). g.ahead_turn) goes.0) (ap (λ (g : Ground). g.next_kind) goes.0)
                                (ap (λ (b : Base). formed_by w b.next_number) follows.0)
                                (goes.1.less w (let late = late-in r passing in let same : last_time_of mid ≡ r.now = ap (λ o. unwrap_or o 0) waits.last in omega (arith, late, same))),
                          ))
                        ]
                  ]
            ] where
              no-both : (b : Bool) → b ≡ true → b ≡ false → ⊥
              no-both b on off = let no : true ≡ false = sym on ∙ off in cc

        rounds-turn : (rounds : List (LoggedRound P)) (last : AgentRecord H P) (t : Stream) → (rounds ≡ [] ⊎ began_at rounds ≡ Some at) → ((r : LoggedRound P) → Has rounds r → IsPassing ahead by r)
            → ((r : LoggedRound P) → Has rounds r → keeps r.now ≡ true) → (run : RunsOn mac answers before start u (entries_of rounds) last t)
            → AtTimeoutsIn mac answers (InTurn w kinds kind n) before start u (entries_of rounds) last t run
            → Reached rounds ⊎ (IsEndedIn mac answers before start u (entries_of rounds) last t run path ⊎ After rounds last t run)
        rounds-turn [] last t began are lasting run turns = inr (inr tt)
        rounds-turn (r ∷ older) last t began are lasting run turns =
            let h = split-run mac answers before start last u t r.following (r.timeout ∷ entries_of older) run in
            on-halves (here-began began) h.0 h.1 h.2.0 h.2.1 h.2.2 h.2.3 h.2.4 h.2.5 h.3 (split-timeouts mac answers (InTurn w kinds kind n) before start last u t r.following (r.timeout ∷ entries_of older) run turns).0
            (rounds-turn older h.2.0 h.2.1 (older-began older (here-began began)) (λ x has. are x (inr has)) (λ x has. lasting x (inr has)) h.2.2
            (split-timeouts mac answers (InTurn w kinds kind n) before start last u t r.following (r.timeout ∷ entries_of older) run turns).1)
            (λ ended. split-ended mac answers path before start last u t r.following (r.timeout ∷ entries_of older) run ended)
            (λ c delayed. split-counted mac answers (IsDelayed kind n) c before start last u t r.following (r.timeout ∷ entries_of older) run delayed)
            (λ c up. split-counted mac answers (λ now. IsHeldUp n now) c before start last u t r.following (r.timeout ∷ entries_of older) run up) where
              here-began : (r ∷ older ≡ [] ⊎ began_at (r ∷ older) ≡ Some at) → began_at (r ∷ older) ≡ Some at
              here-began (inl empty) = absurd (cc)
              here-began (inr is) = is

              older-began : (rs : List (LoggedRound P)) → began_at (r ∷ rs) ≡ Some at → (rs ≡ [] ⊎ began_at rs ≡ Some at)
              older-began [] is = inl refl
              older-began (x ∷ rs) is = inr is

              on-halves : began_at (r ∷ older) ≡ Some at → (mid : AgentRecord H P) (v : Stream) (old : AgentRecord H P) (z : Stream) (run_older : RunsOn mac answers before start u (entries_of older) old z)
                  → (number : r.timeout.number ≡ length (entries_of older ++ before)) (given : GivesBased r.timeout.call) (step : Step mac answers old z r.timeout.call r.timeout.entry mid v)
                  → (back : RunsOn mac answers ((r.timeout ∷ entries_of older) ++ before) mid v r.following last t)
                  → ((now : ℕ) → r.timeout.call ≡ HandleTimeout now → InTurn w kinds kind n old mid)
                  → Reached older ⊎ (IsEndedIn mac answers before start u (entries_of older) old z run_older path ⊎ After older old z run_older)
                  → (IsEndedIn mac answers ((r.timeout ∷ entries_of older) ++ before) mid v r.following last t back path
                  ⊎ IsEndedIn mac answers before start u (r.timeout ∷ entries_of older) mid v (old, z, run_older, number, given, step) path
                  → IsEndedIn mac answers before start u (entries_of (r ∷ older)) last t run path)
                  → ((c : ℕ) → IsDelayedIn mac answers kind n c before start u (r.timeout ∷ entries_of older) mid v (old, z, run_older, number, given, step)
                  → IsDelayedIn mac answers kind n c before start u (entries_of (r ∷ older)) last t run)
                  → ((c : ℕ) → OfTimeoutsIn mac answers (λ now. IsHeldUp n now) c before start u (r.timeout ∷ entries_of older) mid v (old, z, run_older, number, given, step)
                  → OfTimeoutsIn mac answers (λ now. IsHeldUp n now) c before start u (entries_of (r ∷ older)) last t run)
                  → Reached (r ∷ older) ⊎ (IsEndedIn mac answers before start u (entries_of (r ∷ older)) last t run path ⊎ After (r ∷ older) last t run)
              on-halves began mid v old z run_older number given step back takes (inl reached) ends delays ups = inl (reached-later r older reached)
              on-halves began mid v old z run_older number given step back takes (inr (inl ended)) ends delays ups = inr (inl (ends (inr (inr ended))))
              on-halves began mid v old z run_older number given step back takes (inr (inr done)) ends delays ups =
                  elim (one-round r older old mid last z v t run_older number given step back began (are r (inl refl)) (lasting r (inl refl)) (takes r.now (are r (inl refl)).comes) done) [
                    | inl reached ↦ inl reached
                    | inr (inl ended) ↦ inr (inl (ends (inl ended)))
                    | inr (inr (waits, (turns, held, own, p, delayed, up, left))) ↦ inr (inr (waits, (turns, held, own, p, delays (held + own) delayed, ups held up, left)))
                  ]

  -- ---- the rounds of a pair

  module _ (first : AgentRecord H P) (s : Stream) (log : List (Logged P)) (fresh : IsFresh first) (before : List (Logged P)) (start last : AgentRecord H P) (rounds : List (LoggedRound P)) (p : PairRecord) (by : ℕ)
      (found : Part mac answers first s log before start (entries_of rounds) last) (wait : WaitsInRounds by start rounds p) (w : Measure) (kinds : List ℕ) where
    -- how far the turns went in all rounds
    abbrev pub WentInAll : Type 0
    WentInAll =
        Went w kinds (kind_in start p) p.number by (path_of start p) (answered_at start p) (is_modern start.timing) (total_at by start p) start.next_number first s fresh before start found.at found.led
        wait.at (begins by start p rounds wait) (length rounds) (entries_of rounds) last last found.following found.run

    pub reached-or-went : AtTimeoutsIn mac answers (InTurn w kinds (kind_in start p) p.number) before start found.at (entries_of rounds) last found.following found.run
        → ChecksIn rounds (path_of start p)
        ⊎ (IsAnsweredIn (entries_of rounds) (path_of start p)
        ⊎ (IsEndedIn mac answers before start found.at (entries_of rounds) last found.following found.run (path_of start p) ⊎ WentInAll))
    reached-or-went turns =
        by-rounds rounds last found.following found.run wait.began
        (rounds-turn w kinds (kind_in start p) p.number by (path_of start p) (answered_at start p) (is_modern start.timing) (total_at by start p) start.next_number first s fresh before start found.at found.led
        wait.at (begins by start p rounds wait) rounds last found.following
        (inr wait.began) wait.passing (λ r has. lasts-at mac answers first s log fresh before start last (entries_of rounds) p found wait.line.there r.now (search (wait.lasting r has))) found.run turns) where
          by-rounds : (rs : List (LoggedRound P)) (a : AgentRecord H P) (t : Stream) (run : RunsOn mac answers before start found.at (entries_of rs) a t) → began_at rs ≡ Some wait.at
              → (ChecksIn rs (path_of start p) ⊎ IsAnsweredIn (entries_of rs) (path_of start p))
              ⊎ (IsEndedIn mac answers before start found.at (entries_of rs) a t run (path_of start p)
              ⊎ After w kinds (kind_in start p) p.number by (path_of start p) (answered_at start p) (is_modern start.timing) (total_at by start p) start.next_number first s fresh before start found.at
              found.led wait.at (begins by start p rounds wait) rs a t run)
              → ChecksIn rs (path_of start p)
              ⊎ (IsAnsweredIn (entries_of rs) (path_of start p)
              ⊎ (IsEndedIn mac answers before start found.at (entries_of rs) a t run (path_of start p)
              ⊎ Went w kinds (kind_in start p) p.number by (path_of start p) (answered_at start p) (is_modern start.timing) (total_at by start p) start.next_number first s fresh before start found.at
              found.led wait.at (begins by start p rounds wait) (length rs) (entries_of rs) a a t run))
          by-rounds rs a t run began (inl (inl checks)) = inl checks
          by-rounds rs a t run began (inl (inr answered)) = inr (inl answered)
          by-rounds rs a t run began (inr (inl ended)) = inr (inr (inl ended))
          by-rounds [] a t run began (inr (inr done)) = absurd (let none : None ≡ Some wait.at = began in cc)
          by-rounds (r ∷ older) a t run began (inr (inr (waits, went))) = inr (inr (inr went))

  -- all pairs count
  abbrev all-pairs : Measure
  all-pairs = record { skips = λ k. false; both = true }

  pub kinds-are-reached-in-turn : KindsAreReachedInTurn mac answers
  kinds-are-reached-in-turn first s log fresh before start last rounds p by m kinds found wait takes enough =
      elim (has-path-or mac answers (TakesTurns kinds (kind_in start p) p.number) (InTurn all-pairs kinds (kind_in start p) p.number)
      (λ old new off none t. in-turn all-pairs kinds (kind_in start p) p.number old new (λ q has same apart. refl) (inl refl) off none t) before start last found.at found.following (entries_of rounds) found.run takes) [
        | inl path ↦ inr (inr (inr (inl path)))
        | inr turns ↦ elim (reached-or-went first s log fresh before start last rounds p by found wait all-pairs kinds turns) [
          | inl checks ↦ inl checks
          | inr (inl answered) ↦ inr (inl answered)
          | inr (inr (inl ended)) ↦ inr (inr (inl ended))
          | inr (inr (inr (a, held, own, went, delayed, up, left))) ↦
              (let most : m ≤ held + own = enough-delays (length rounds) (length kinds) (kinds_before last.next_kind (kind_in start p) kinds) a (held + own) m last.ahead_turn went (omega (arith, enough)) in
              inr (inr (inr (inr (fewer-counted mac answers (IsDelayed (kind_in start p) p.number) (held + own - m) m before start last found.at found.following (entries_of rounds) found.run
              (subst (λ i. IsDelayedIn mac answers (kind_in start p) p.number i before start found.at (entries_of rounds) last found.following found.run) (rest (held + own) most) delayed))))))
        ]
      ] where
        rest : (c : ℕ) → m ≤ c → c ≡ c - m + m
        rest c le = omega (arith, le)

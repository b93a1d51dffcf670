-- A pair that waits for its check is due at each `poll_timeout` call, so this returns a time at most one pacing interval after the last
-- `handle_timeout` call.
use Rattle.is_pair.proofs.ConsentTimes.EndOfConsent.{calls-when-due}
use Rattle.is_theorems.proofs.Common.{[], ◌*◌, ◌++◌, ◌+◌, ◌<◌, ◌∙◌, ◌∷◌, ◌≡◌, ◌≤◌, ◌⊎◌, AgentRecord, ap, AreBetween, AreInRound, arith}
use Rattle.is_theorems.proofs.Common.{Awaits, Bool, Call, call_time_of, CandidateRecord, ChecksBy, ComeBy, ControlsAlong, Done, due_time_of}
use Rattle.is_theorems.proofs.Common.{Ends, EndsAlong, EndsAmong, Entry, Execution, ExecutionRound, ExecutionRounds, ExecutionsCheckFromDue}
use Rattle.is_theorems.proofs.Common.{ExecutionsCheckInTime, ExecutionsReachFromDue, ExecutionsReachInTime, false, HandleTimeout, Has, inl}
use Rattle.is_theorems.proofs.Common.{inr, is_modern, is_some, IsAnsweredAlong, IsAnsweredAmong, IsFresh, IsInLine, IsLasting, IsOpenRound}
use Rattle.is_theorems.proofs.Common.{IsPaced, IsPassed, IsPrompt, IsPunctual, IsReachedBy, IsSound, IsTimed, IsUnanswered, KeepsPace}
use Rattle.is_theorems.proofs.Common.{length, List, MAX, max, MayEnd, NextComesInTime, NextTimeout, nominations_ahead, Option, pacing-short}
use Rattle.is_theorems.proofs.Common.{PairRecord, PassRounds, Path, path_of, PollsTimeout, PollTimeout, refl, RoundsComeInTime}
use Rattle.is_theorems.proofs.Common.{RoundsSuffice, selections_among, SelectsBy, SetTimingAdvance, Some, soon, Step, Stream, StunTiming}
use Rattle.is_theorems.proofs.Common.{subst, suc, suc-mul, SuccessesSelect, SufficeForDue, Suffices, sym, timeout_begun, timeouts-in-time}
use Rattle.is_theorems.proofs.Common.{times_of, true, unanswered_count, zero, ℕ}
use Rattle.is_theorems.proofs.CallEffects.PathAndTradeEffects.{path_theorem}
use Rattle.is_theorems.proofs.ExecutionLogs.LogSegments.{passed as passed-at}
use Rattle.is_theorems.proofs.DuePairs.FirstDuePair.{due-at, timeout-follows}
use Rattle.is_theorems.proofs.DuePairs.ChecksAhead.{times, times-kept}
use Rattle.is_theorems.proofs.CallEffects.FailedCallsAndNewAgents.{fresh_sound}
use Rattle.is_theorems.proofs.DuePairs.PollingCycles.{maintains_pairs-from}
use Rattle.is_theorems.proofs.DuePairs.AfterNominationAndRemoval.{Base, answered-if, answered_at}
use Rattle.is_theorems.proofs.DuePairs.AfterPackets.{NoneValid}
use Rattle.is_theorems.proofs.PathSelection.FirstSuccessInRounds.{SelectsBySuccess}
use Rattle.is_theorems.proofs.PathSelection.NominatedByPeerPerAgent.{execution_on}
use Rattle.is_theorems.proofs.StoredPairs.PairsThatStay.{pairs-stay}
use Rattle.is_theorems.proofs.StoredPairs.TransactionsOverPackets.{sound-execution}
use Rattle.is_theorems.specs.Pacing.{advance_after}
use Rattle.is_theorems.proofs.PollingRounds.CountedSelections.{ahead-fewer}
use Rattle.is_theorems.proofs.PollingRounds.FirstRoundWithoutValidPair.{Calm, on-call}
use Rattle.is_theorems.proofs.DuePairs.NoNominationDue.{NoneIsDue, Quiet, due-none, quiet-timeout}
use Rattle.is_theorems.proofs.PollingRounds.InTurnAlong.{Lined, lined, lined-unanswered}
use Rattle.is_theorems.proofs.PollingRounds.FirstRound.{Waits, between-keeps, lt-from, timeout-on, waits-on}
use Rattle.is_theorems.proofs.PunctualTimeouts.UnchangedPacing.{pacing-is-set}

-- a pacing interval that only `set_timing_advance` changes
pub stays-slow : {P : Type 0} (call : Call P) (old new pace : ℕ) → new ≡ advance_after call old → old ≤ pace → ((by : ℕ) → call ≡ SetTimingAdvance by → by ≤ pace) → new ≤ pace
stays-slow (SetTimingAdvance by) old new pace is slow keeps = let k : by ≤ pace = keeps by refl in omega (arith, is, k)
stays-slow _ old new pace is slow keeps = omega (arith, is, slow)

deadline-is : (a b : Option ℕ) → NextTimeout a ≡ NextTimeout b → a ≡ b
deadline-is a b h = cc

-- what is both valid and not
pub never : {X : Type 0} {b : Bool} → b ≡ true → b ≡ false → X
never is isnt = let no : true ≡ false = sym is ∙ isnt in absurd (cc)

-- ---- the times of rounds

module _ {P : Type 0} where
  come-later : (one two each : ℕ) (rounds : List (ExecutionRound P)) → one ≤ two → ComeBy one each rounds → ComeBy two each rounds
  come-later one two each [] le come = tt
  come-later one two each (r ∷ later) le (here, more) =
      (omega (arith, here, le), come-later (one + each) (two + each) each later (omega (arith, le)) more)

  -- the last of them comes by this time, so each of them does
  pub come-all : (limit each : ℕ) (r : ExecutionRound P) (later : List (ExecutionRound P)) (x : ExecutionRound P) → Has (r ∷ later) x → ComeBy limit each (r ∷ later)
      → x.now ≤ limit + length later * each
  come-all limit each r later x (inl is) (here, more) =
      let same : r.now ≡ x.now = ap (λ (y : ExecutionRound P). y.now) is in omega (arith, here, same)
  come-all limit each r [] x (inr has) come = absurd has
  come-all limit each r (y ∷ later) x (inr has) (here, more) =
      let k : x.now ≤ (limit + each) + length later * each = come-all (limit + each) each y later x has more in
      let m : suc (length later) * each ≡ length later * each + each = suc-mul (length later) each in
      omega (arith, k, m)

  -- ---- a success response on the path

  -- It is received in one of the rounds. This round, and each one before it, begins at this time or earlier.
  abbrev pub IsAnsweredBy : Path → ℕ → List (ExecutionRound P) → Type 0
  IsAnsweredBy path limit [] = ⊥
  IsAnsweredBy path limit (r ∷ later) = (r.now ≤ limit) × (IsAnsweredAlong r.following path ⊎ IsAnsweredBy path limit later)

  answered-later : (path : Path) (one two : ℕ) (rounds : List (ExecutionRound P)) → one ≤ two → IsAnsweredBy path one rounds → IsAnsweredBy path two rounds
  answered-later path one two [] le answered = absurd answered
  answered-later path one two (r ∷ later) le (here, answered) = (
    omega (arith, here, le),
    elim answered [ inl in_it ↦ inl in_it | inr after ↦ inr (answered-later path one two later (omega (arith, le)) after) ],
  )

  answered-among : (path : Path) (limit : ℕ) (rounds : List (ExecutionRound P)) → IsAnsweredBy path limit rounds → IsAnsweredAmong rounds path
  answered-among path limit [] answered = absurd answered
  answered-among path limit (r ∷ later) (here, inl in_it) = (r, inl refl, in_it)
  answered-among path limit (r ∷ later) (here, inr after) = let k = answered-among path limit later after in (k.0, inr k.1, k.2)

module _ {H P : Type 0} where
  -- the path is reached (`IsReachedBy`), and if by a success response, in a round that begins by this time
  abbrev pub IsReachedSoon : (mac : H → List ℕ → List ℕ → List ℕ) (answers : P → CandidateRecord → ℕ → ℕ → Type 0) (limit : ℕ) (rounds : List (ExecutionRound P)) (old new : AgentRecord H P)
      → PassRounds mac answers rounds old new → Path → Type 0
  IsReachedSoon mac answers limit rounds old new run path = ChecksBy limit rounds path ⊎ (IsAnsweredBy path limit rounds ⊎ EndsAmong mac answers rounds old new run path)

  module _ (mac : H → List ℕ → List ℕ → List ℕ) (answers : P → CandidateRecord → ℕ → ℕ → Type 0) (pace delay by n : ℕ) (path : Path) (keeps : ℕ → Bool) where
    -- ---- one round

    -- `poll_timeout` while the pair waits
    deadline-soon : (at : ℕ) → by ≤ at → (old new : AgentRecord H P) (deadline : ℕ) → Waits by n path keeps at old → old.timing_advance ≤ pace → PollsTimeout old (Some deadline) new
        → deadline ≤ at + pace
    deadline-soon at from old new deadline w slow h =
        let polled : deadline ≤ max (call_time_of at old.timing w.pair) (soon old at) = timeouts-in-time old new (Some deadline) h at w.last w.checking.full w.pair w.there in
        let called : call_time_of at old.timing w.pair ≤ due_time_of at old.timing w.pair = calls-when-due at old.timing w.pair in
        let k : deadline ≤ max (due_time_of at old.timing w.pair) (soon old at) = omega (arith, polled, called) in
        let due : due_time_of at old.timing w.pair ≡ w.timeout = due-at at w.timeout old.timing w.pair w.due in
        let l : deadline ≤ max w.timeout (soon old at) = subst (λ d. deadline ≤ max d (soon old at)) due k in
        let before = w.before in
        let paced = pacing-short at old in
        omega (arith, l, before, from, paced, slow)

    prompt-here : (at : ℕ) → by ≤ at → (call : Call P) (e : Entry) (old mid : AgentRecord H P) (s t : Stream) (deadline next : ℕ) → Waits by n path keeps at old → Step mac answers old s call e mid t
        → call ≡ PollTimeout → old.timing_advance ≤ pace → e.answer ≡ NextTimeout (Some deadline) → next ≤ deadline + delay → next ≤ at + (pace + delay)
    prompt-here at from call e old mid s t deadline next w step called slow reported close =
        let polled : Step mac answers old s PollTimeout e mid t = subst (λ (c : Call P). Step mac answers old s c e mid t) called step in
        let same : polled.0 ≡ Some deadline = deadline-is polled.0 (Some deadline) (sym (ap (λ (x : Entry). x.answer) polled.1) ∙ reported) in
        let k : deadline ≤ at + pace = deadline-soon at from old mid deadline w slow (subst (λ o. PollsTimeout old o mid) same polled.2) in
        omega (arith, k, close)

    -- after the `handle_timeout` call: a success response is received on the path, or a pair of the path may be removed, or the pair waits and
    -- the next call comes in time
    abbrev Passed : (at : ℕ) (xs : List (Call P × Entry)) (old new : AgentRecord H P) → Execution mac answers xs old new → Type 0
    Passed at xs old new execution =
        IsAnsweredAlong xs path
        ⊎ (EndsAlong mac answers xs old new execution path
        ⊎ (Waits by n path keeps at new × (new.timing_advance ≤ pace) × ((next : ℕ) → IsPrompt delay next xs → next ≤ at + (pace + delay))))

    walk : (modern : Bool) (at : ℕ) → by ≤ at → (xs : List (Call P × Entry)) (old new : AgentRecord H P) → Waits by n path keeps at old → IsSound old → old.timing_advance ≤ pace → KeepsPace pace xs → AreInRound modern xs
        → (execution : Execution mac answers xs old new) → Passed at xs old new execution
    walk modern at from [] old new w sound slow keeping fits is =
        inr (inr (
          subst (λ (a : AgentRecord H P). Waits by n path keeps at a) (sym is) w,
          subst (λ (a : AgentRecord H P). a.timing_advance ≤ pace) (sym is) slow,
          λ next none. absurd none.2,
        ))
    walk modern at from (x ∷ rest) old new w sound slow keeping fits (mid, s, t, given, step, more) =
        let sound_mid : IsSound mid = (path_theorem mac answers old mid s t x.0 x.1 sound given step).1 in
        let slow_mid : mid.timing_advance ≤ pace = stays-slow x.0 old.timing_advance mid.timing_advance pace (pacing-is-set mac answers old mid s t x.0 x.1 step) (omega (arith, slow)) (λ k is. keeping x k (inl refl) is) in
        let ends-here : MayEnd answers old x.0 x.1 w.pair → Ends answers old x.0 x.1 path =
        λ ends. (w.pair, w.there, (ap (λ (y : Path). y.source) w.on, ap (λ (y : Path). y.destination) w.on), ends) in
        elim (between-keeps mac answers by n path keeps at x.0 x.1 old mid s t w.checking.peer w.last w.pair sound w.there w.number w.on modern (fits x (inl refl)) step) [
          | inl accepts ↦ inl (x, inl refl, accepts)
          | inr (inl ends) ↦ inr (inl (inl (ends-here ends)))
          | inr (inr kept) ↦ elim (pairs-stay mac answers old mid s t x.0 x.1 w.pair sound given step w.there) [
            | inr ends ↦ inr (inl (inl (ends-here ends)))
            | inl stays ↦
                elim (walk modern at from rest mid new (waits-on mac answers by n path keeps at from old mid w sound_mid kept stays) sound_mid slow_mid (λ y k has. keeping y k (inr has)) (λ y has. fits y (inr has)) more) [
                  | inl (y, has, accepts) ↦ inl (y, inr has, accepts)
                  | inr (inl ends) ↦ inr (inl (inr ends))
                  | inr (inr (after, slow_after, prompt)) ↦
                      inr (inr (
                        after,
                        slow_after,
                        λ next k. by-place next k.0 k.1 k.2 k.3 k.4 k.5 prompt,
                      ))
                ]
          ]
        ] where
          by-place : (next : ℕ) (y : Call P × Entry) (deadline : ℕ) → Has (x ∷ rest) y → y.0 ≡ PollTimeout → y.1.answer ≡ NextTimeout (Some deadline) → next ≤ deadline + delay
              → ((next : ℕ) → IsPrompt delay next rest → next ≤ at + (pace + delay)) → next ≤ at + (pace + delay)
          by-place next y deadline (inl is) called reported close prompt =
              prompt-here at (omega (arith, from)) x.0 x.1 old mid s t deadline next w step (ap (λ (z : Call P × Entry). z.0) is ∙ called) (omega (arith, slow))
              (ap (λ (z : Call P × Entry). z.1.answer) is ∙ reported) (omega (arith, close))
          by-place next y deadline (inr has) called reported close prompt = prompt next (y, deadline, has, called, reported, close)

    -- ---- rounds

    in-line : (at now : ℕ) (a : AgentRecord H P) → (w : Waits by n path keeps at a) → IsLasting now a w.pair → Lined now by a w.pair
    in-line at now a w lasting =
        let due : due_time_of now a.timing w.pair ≡ w.timeout = due-at now w.timeout a.timing w.pair w.due in
        record {
          checking = w.checking;
          queue = w.queue;
          there = w.there;
          due = subst (λ d. d ≤ by) (sym due) w.before;
          settled = inr (ap is_some w.due);
          young = lt-from (unanswered_count w.pair.checks) a.timing.max_retransmits w.young;
          lasting = lasting;
        }

    timely : (modern : Bool) (r : ExecutionRound P) (later : List (ExecutionRound P)) (old last : AgentRecord H P) (p : PairRecord) → IsSound old → Lined r.now by old p
        → ((m : ℕ) → keeps m ≡ true → answered_at old p m ≡ true) → p.number ≡ n → path_of old p ≡ path
        → by ≤ r.now → r.timeout.answer ≡ Done → AreInRound modern r.following → (run : PassRounds mac answers (r ∷ later) old last) → ((x : ExecutionRound P) → Has later x → IsOpenRound modern by x)
        → ((x : ExecutionRound P) → Has later x → keeps x.now ≡ true) → old.timing_advance ≤ pace → ((x : ExecutionRound P) → Has (r ∷ later) x → KeepsPace pace x.following) → IsPunctual delay r later
        → ComeBy r.now (pace + delay) (r ∷ later) ⊎ IsReachedSoon mac answers (r.now + length later * (pace + delay)) (r ∷ later) old last run path
    timely modern r [] old last p sound line lasts number on from done between run opens lasting slow keeping punctual = inl (omega arith, tt)
    timely modern r (x ∷ later) old last p sound line lasts number on from done between (mid, after, s, t, step, execution, more) opens lasting slow keeping (prompt, punctual) =
        let sound_mid : IsSound mid = (path_theorem mac answers old mid s t (HandleTimeout r.now) r.timeout sound tt step).1 in
        let same : mid.timing_advance ≡ old.timing_advance = pacing-is-set mac answers old mid s t (HandleTimeout r.now) r.timeout step in
        let m : suc (length later) * (pace + delay) ≡ length later * (pace + delay) + (pace + delay) = suc-mul (length later) (pace + delay) in
        elim (timeout-on mac answers by n path keeps r.now (omega (arith, from)) r.timeout old mid s t p done step sound sound_mid line lasts number on) [
          | inl (id, out) ↦ inr (inl (r, inl refl, (id, out), omega arith))
          | inr (other, w) ↦ elim (walk modern r.now (omega (arith, from)) r.following mid after w sound_mid (omega (arith, slow, same)) (keeping r (inl refl)) (λ y has. between y has) execution) [
            | inl answered ↦ inr (inr (inl (omega arith, inl answered)))
            | inr (inl ends) ↦ inr (inr (inr (inl ends)))
            | inr (inr (v, slow_after, in_time)) ↦
                (let close : x.now ≤ r.now + (pace + delay) = in_time x.now prompt in
                let round : IsOpenRound modern by x = opens x (inl refl) in
                let late = round.late in
                elim (timely modern x later after last v.pair (sound-execution mac answers r.following mid after sound_mid execution) (in-line r.now x.now after v (λ valid. v.lasts x.now (lasting x (inl refl)))) v.lasts v.number v.on
                (omega (arith, late)) round.done (λ y has. (let fits = round.between in fits y has)) more (λ y has. opens y (inr has))
                (λ y has. lasting y (inr has)) (omega (arith, slow_after)) (λ y has. keeping y (inr has)) punctual) [
                  | inl come ↦ inl (omega arith, come-later x.now (r.now + (pace + delay)) (pace + delay) (x ∷ later) (omega (arith, close)) come)
                  | inr (inl (y, has, out, by_then)) ↦ inr (inl (y, inr has, out, omega (arith, by_then, close, m)))
                  | inr (inr (inl answered)) ↦ inr (inr (inl (omega arith, inr (answered-later path _ _ (x ∷ later) (omega (arith, close, m)) answered))))
                  | inr (inr (inr ends)) ↦ inr (inr (inr (inr ends)))
                ])
          ]
        ]

  -- ---- the theorems

  module _ (mac : H → List ℕ → List ℕ → List ℕ) (answers : P → CandidateRecord → ℕ → ℕ → Type 0) where
    pub sound-after : (first start : AgentRecord H P) (xs : List (Call P × Entry)) → IsFresh first → Execution mac answers xs first start → IsSound start
    sound-after first start xs fresh execution =
        sound-execution mac answers xs first start (subst (λ (a : AgentRecord H P). IsSound a) (sym fresh.2) (fresh_sound H P first.provider fresh.0 fresh.1)) execution

    pub next-comes-in-time : NextComesInTime {H = H} {P = P} mac answers
    next-comes-in-time first start mid after xs following s t timeout p by pace delay now next fresh execution line from done step between more slow keeps prompt =
        let sound : IsSound start = sound-after first start xs fresh execution in
        let sound_mid : IsSound mid = (path_theorem mac answers start mid s t (HandleTimeout now) timeout sound tt step).1 in
        let same : mid.timing_advance ≡ start.timing_advance = pacing-is-set mac answers start mid s t (HandleTimeout now) timeout step in
        elim (timeout-on mac answers by p.number (path_of start p) (answered_at start p) now (omega (arith, from)) timeout start mid s t p done step sound sound_mid (lined now by start p line) (λ m is. is) refl refl) [
          | inl checks ↦ inr (inl checks)
          | inr (other, w) ↦ elim (walk mac answers pace delay by p.number (path_of start p) (answered_at start p) (is_modern start.timing) now (omega (arith, from)) following mid after w sound_mid (omega (arith, slow, same)) (λ y k has. keeps y k has) (λ y has. between y has) more) [
            | inl answered ↦ inr (inr (inl answered))
            | inr (inl ends) ↦ inr (inr (inr ends))
            | inr (inr (v, slow_after, in_time)) ↦ inl (in_time next prompt)
          ]
        ]

    -- the rounds of a punctual caller come in time, with a bound on the round of a success response
    pub rounds-come-soon : (first start last : AgentRecord H P) (xs : List (Call P × Entry)) (r : ExecutionRound P) (later : List (ExecutionRound P)) (p : PairRecord) (by pace delay : ℕ)
        → IsFresh first → Execution mac answers xs first start → Lined r.now by start p → by ≤ r.now → r.timeout.answer ≡ Done → AreInRound (is_modern start.timing) r.following
        → (run : PassRounds mac answers (r ∷ later) start last) → ((x : ExecutionRound P) → Has later x → IsOpenRound (is_modern start.timing) by x)
        → ((x : ExecutionRound P) → Has later x → IsLasting x.now start p) → IsTimed pace delay start r later
        → ComeBy r.now (pace + delay) (r ∷ later) ⊎ IsReachedSoon mac answers (r.now + length later * (pace + delay)) (r ∷ later) start last run (path_of start p)
    rounds-come-soon first start last xs r later p by pace delay fresh execution line from done between run opens lasting timed =
        timely mac answers pace delay by p.number (path_of start p) (answered_at start p) (is_modern start.timing) r later start last p (sound-after first start xs fresh execution) line (λ m is. is) refl refl (omega (arith, from)) done
        (λ y has. between y has) run opens (λ x has. answered-if start p x.now (sound-after first start xs fresh execution) line.there (lasting x has)) (let begins = timed.begins in omega (arith, begins)) timed.keeps timed.punctual

    pub rounds-come-in-time : RoundsComeInTime {H = H} {P = P} mac answers
    rounds-come-in-time first start last xs r later p by pace delay fresh execution line from done early between run opens lasting timed =
        elim (rounds-come-soon first start last xs r later p by pace delay fresh execution (lined r.now by start p line) (omega (arith, from)) done (λ y has. between y has) run (λ x has. opens x has) (λ x has. lasting x has) timed) [
          | inl come ↦ inl come
          | inr (inl checks) ↦ inr (inl checks)
          | inr (inr (inl answered)) ↦ inr (inr (inl (answered-among (path_of start p) _ (r ∷ later) answered)))
          | inr (inr (inr ends)) ↦ inr (inr (inr ends))
        ]

    -- ---- the rounds that suffice

    grows-execution : (xs : List (Call P × Entry)) (old new : AgentRecord H P) → IsSound old → Execution mac answers xs old new → old.next_number ≤ new.next_number
    grows-execution [] old new sound is = let same : new.next_number ≡ old.next_number = ap (λ (a : AgentRecord H P). a.next_number) is in omega (arith, same)
    grows-execution (x ∷ rest) old new sound (mid, s, t, given, step, more) =
        let law = path_theorem mac answers old mid s t x.0 x.1 sound given step in
        let one : old.next_number ≤ mid.next_number = law.0.counter in
        let two : mid.next_number ≤ new.next_number = grows-execution rest mid new law.1 more in
        omega (arith, one, two)

    sound-round : (r : ExecutionRound P) (later : List (ExecutionRound P)) (old last : AgentRecord H P) → IsSound old → (run : PassRounds mac answers (r ∷ later) old last)
        → IsSound run.1 × (old.next_number ≤ run.1.next_number)
    sound-round r later old last sound (mid, after, s, t, step, execution, more) =
        let law = path_theorem mac answers old mid s t (HandleTimeout r.now) r.timeout sound tt step in
        let one : old.next_number ≤ mid.next_number = law.0.counter in
        let two : mid.next_number ≤ after.next_number = grows-execution r.following mid after law.1 execution in
        (sound-execution mac answers r.following mid after law.1 execution, omega (arith, one, two))

    grows : (rounds : List (ExecutionRound P)) (old last : AgentRecord H P) → IsSound old → PassRounds mac answers rounds old last → old.next_number ≤ last.next_number
    grows [] old last sound is = let same : last.next_number ≡ old.next_number = ap (λ (a : AgentRecord H P). a.next_number) is in omega (arith, same)
    grows (r ∷ later) old last sound run =
        let k = sound-round r later old last sound run in
        let one : old.next_number ≤ run.1.next_number = k.1 in
        let two : run.1.next_number ≤ last.next_number = grows later run.1 last k.0 run.6 in
        omega (arith, one, two)

    -- the first so many of the rounds that follow a first one
    record Cut (delay many : ℕ) (r : ExecutionRound P) (later : List (ExecutionRound P)) (old last : AgentRecord H P) (run : PassRounds mac answers (r ∷ later) old last) : Type 0 where
      front : List (ExecutionRound P)
      end : AgentRecord H P
      more : PassRounds mac answers front run.1 end
      count : length front ≡ many
      within : (x : ExecutionRound P) → Has front x → Has later x
      fewer : end.next_number ≤ last.next_number
      selections : selections_among front ≤ selections_among later
      punctual : IsPunctual delay r front
      ends : (path : Path) → EndsAmong mac answers front run.1 end more path → EndsAmong mac answers later run.1 last run.6 path

    cut : (delay many : ℕ) (r : ExecutionRound P) (later : List (ExecutionRound P)) (old last : AgentRecord H P) → IsSound old → (run : PassRounds mac answers (r ∷ later) old last)
        → many ≤ length later → IsPunctual delay r later → Cut delay many r later old last run
    cut delay zero r later old last sound run enough punctual = record {
      front = [];
      end = run.1;
      more = refl;
      count = refl;
      within = λ x none. absurd none;
      fewer = grows later run.1 last (sound-round r later old last sound run).0 run.6;
      selections = omega arith;
      punctual = tt;
      ends = λ path none. absurd none;
    }
    cut delay (suc many) r [] old last sound run enough punctual = absurd (let no : ⊥ = omega (arith, enough) in no)
    cut delay (suc many) r (x ∷ later) old last sound run enough (prompt, punctual) =
        let c = cut delay many x later run.1 last (sound-round r (x ∷ later) old last sound run).0 run.6 (omega (arith, enough)) punctual in record {
          front = x ∷ c.front;
          end = c.end;
          more = (run.6.0, run.6.1, run.6.2, run.6.3, run.6.4, run.6.5, c.more);
          count = ap suc c.count;
          within = λ y has. elim has [ inl is ↦ inl is | inr there ↦ inr (c.within y there) ];
          fewer = (let fewer = c.fewer in omega (arith, fewer));
          selections = (let selections = c.selections in omega (arith, selections));
          punctual = (prompt, c.punctual);
          ends = λ path ended. elim ended [ inl here ↦ inl here | inr others ↦ inr (c.ends path others) ];
        }

    -- what suffices if more pairs are added, and more nominations may be sent at once
    suffices-for : (ahead : Bool) (size i j begun most more k : ℕ) → i ≤ j → most ≤ more → times ahead (2 * size + j + more) ≤ k + times ahead begun → times ahead (2 * size + i + most) ≤ k + times ahead begun
    suffices-for ahead size i j begun most more k fewer le enough =
        times-kept ahead (2 * size + j + more) (2 * size + i + most) (k + times ahead begun) (omega (arith, fewer, le)) enough

    suffices-earlier : (by now many : ℕ) (first second end last : AgentRecord H P) (all_most all_more most more : ℕ) → end.next_number ≤ last.next_number → all_most ≤ all_more → most ≤ more
        → Suffices by now first second last many all_more more → Suffices by now first second end many all_most most
    suffices-earlier by now many first second end last all_most all_more most more fewer all_le le (inl (late, enough)) =
        let k = suffices-for (is_modern first.timing) (length first.pairs) end.next_number last.next_number first.next_number all_most all_more (many + 2) (omega (arith, fewer)) (omega (arith, all_le)) (omega (arith, enough)) in
        inl (omega (arith, late), omega (arith, k))
    suffices-earlier by now many first second end last all_most all_more most more fewer all_le le (inr (inl few)) = inr (inl (omega (arith, few)))
    suffices-earlier by now many first second end last all_most all_more most more fewer all_le le (inr (inr enough)) =
        let k = suffices-for (is_modern second.timing) (length second.pairs) end.next_number last.next_number second.next_number most more (many + 1) (omega (arith, fewer)) (omega (arith, le)) (omega (arith, enough)) in
        inr (inr (omega (arith, k)))

    -- all of them
    reach-all : ExecutionsReachFromDue {H = H} {P = P} mac answers
        → (first start last : AgentRecord H P) (xs : List (Call P × Entry)) (r : ExecutionRound P) (later : List (ExecutionRound P)) (p : PairRecord) (by pace delay : ℕ)
        → IsFresh first → Execution mac answers xs first start → IsInLine r.now by start p → by ≤ r.now → r.timeout.answer ≡ Done → r.now < MAX → AreInRound (is_modern start.timing) r.following
        → (run : PassRounds mac answers (r ∷ later) start last) → ((x : ExecutionRound P) → Has later x → IsOpenRound (is_modern start.timing) by x)
        → ((x : ExecutionRound P) → Has later x → IsLasting x.now start p) → RoundsSuffice by start run.1 last r later (length later)
        → IsTimed pace delay start r later → IsReachedBy mac answers (r.now + length later * (pace + delay)) (r ∷ later) start last run (path_of start p)
    reach-all reach first start last xs r later p by pace delay fresh execution line from done early between run opens lasting enough timed =
        elim (rounds-come-in-time first start last xs r later p by pace delay fresh execution line (omega (arith, from)) done (omega (arith, early)) (λ y has. between y has) run opens (λ x has. lasting x has) timed) [
          | inr reached ↦ reached
          | inl come ↦ elim (reach first start last xs r later p by fresh execution line (omega (arith, from)) done (omega (arith, early)) (λ y has. between y has) run opens (λ x has. lasting x has) enough) [
            | inl (y, id, has, out) ↦ inl (y, has, (id, out), come-all r.now (pace + delay) r later y has come)
            | inr others ↦ inr others
          ]
        ]

    pub executions-reach-in-time : ExecutionsReachFromDue {H = H} {P = P} mac answers → ExecutionsReachInTime {H = H} {P = P} mac answers
    executions-reach-in-time reach first start last xs r later p by pace delay many fresh execution line from done early between run opens lasting enough long timed =
        let c = cut delay many r later start last (sound-after first start xs fresh execution) run (omega (arith, long)) timed.punctual in
        let fewer = c.fewer in
        let count : length c.front ≡ many = c.count in
        elim (reach-all reach first start c.end xs r c.front p by pace delay fresh execution line (omega (arith, from)) done (omega (arith, early)) (λ y has. between y has)
        (run.0, run.1, run.2, run.3, run.4, run.5, c.more) (λ y has. opens y (c.within y has)) (λ y has. lasting y (c.within y has))
        (subst (λ k. RoundsSuffice by start run.1 c.end r c.front k) (sym count) (suffices-earlier by r.now many start run.1 c.end last
        (nominations_ahead start (selections_among (r ∷ c.front))) (nominations_ahead start (selections_among (r ∷ later))) (nominations_ahead run.1 (selections_among c.front)) (nominations_ahead run.1 (selections_among later))
        (omega (arith, fewer)) (ahead-fewer start (selections_among (r ∷ c.front)) (selections_among (r ∷ later)) (let le = c.selections in omega (arith, le)))
        (ahead-fewer run.1 (selections_among c.front) (selections_among later) (let le = c.selections in omega (arith, le))) enough))
        (record { begins = (let begins = timed.begins in omega (arith, begins)); keeps = λ y has. timed.keeps y (elim has [ inl is ↦ inl is | inr there ↦ inr (c.within y there) ]); punctual = c.punctual })) [
          | inl (y, inl is, out, by_then) ↦ inl (y, inl is, out, subst (λ k. y.now ≤ r.now + k * (pace + delay)) count by_then)
          | inl (y, inr has, out, by_then) ↦ inl (y, inr (c.within y has), out, subst (λ k. y.now ≤ r.now + k * (pace + delay)) count by_then)
          | inr (inl (y, inl is, answered)) ↦ inr (inl (y, inl is, answered))
          | inr (inl (y, inr has, answered)) ↦ inr (inl (y, inr (c.within y has), answered))
          | inr (inr (inl here)) ↦ inr (inr (inl here))
          | inr (inr (inr others)) ↦ inr (inr (inr (c.ends (path_of start p) others)))
        ]

    -- ---- rounds in which only packets and polls come

    module _ (pace delay by n : ℕ) (path : Path) (keeps : ℕ → Bool) (select : SuccessesSelect {H = H} {P = P} mac answers) (first : AgentRecord H P) (fresh : IsFresh first) where
      -- a success response selects a path, or the pair waits and the next call comes in time
      calm-walk : (at : ℕ) → by ≤ at → (xs : List (Call P × Entry)) (old new : AgentRecord H P) (zs : List (Call P × Entry)) → Execution mac answers zs first old → AreBetween xs → IsSound old
          → (execution : Execution mac answers xs old new) → ControlsAlong mac answers xs old new execution → Calm by n path keeps at old → old.timing_advance ≤ pace → KeepsPace pace xs
          → ((x : Call P × Entry) × Has xs x × SelectsBySuccess x.0 x.1)
          ⊎ (Calm by n path keeps at new × (new.timing_advance ≤ pace) × ((next : ℕ) → IsPrompt delay next xs → next ≤ at + (pace + delay)))
      calm-walk at from [] old new zs led fits sound is along c slow keeping =
          inr (
            subst (λ (a : AgentRecord H P). Calm by n path keeps at a) (sym is) c,
            subst (λ (a : AgentRecord H P). a.timing_advance ≤ pace) (sym is) slow,
            λ next none. absurd none.2,
          )
      calm-walk at from (x ∷ rest) old new zs led fits sound (mid, s, t, given, step, more) along c slow keeping =
          let sound_mid : IsSound mid = (path_theorem mac answers old mid s t x.0 x.1 sound given step).1 in
          let slow_mid : mid.timing_advance ≤ pace = stays-slow x.0 old.timing_advance mid.timing_advance pace (pacing-is-set mac answers old mid s t x.0 x.1 step) (omega (arith, slow)) (λ k is. keeping x k (inl refl) is) in
          elim (on-call mac answers by n path keeps at select first fresh from x.0 x.1 old mid s t zs led (fits x (inl refl)) given c sound sound_mid step along.0) [
            | inl selected ↦ inl (x, inl refl, selected)
            | inr calm ↦
                elim (calm-walk at from rest mid new (zs ++ x ∷ []) (execution_on mac answers zs (x ∷ []) first old mid led (mid, s, t, given, step, refl)) (λ y has. fits y (inr has)) sound_mid more along.1 calm slow_mid
                (λ y k has. keeping y k (inr has))) [
                  | inl (y, has, selected) ↦ inl (y, inr has, selected)
                  | inr (after, slow_after, prompt) ↦ inr (after, slow_after, λ next k. by-place next k.0 k.1 k.2 k.3 k.4 k.5 prompt)
                ]
          ] where
            by-place : (next : ℕ) (y : Call P × Entry) (deadline : ℕ) → Has (x ∷ rest) y → y.0 ≡ PollTimeout → y.1.answer ≡ NextTimeout (Some deadline) → next ≤ deadline + delay
                → ((next : ℕ) → IsPrompt delay next rest → next ≤ at + (pace + delay)) → next ≤ at + (pace + delay)
            by-place next y deadline (inl is) called reported close prompt =
                prompt-here mac answers pace delay by n path keeps at (omega (arith, from)) x.0 x.1 old mid s t deadline next c.waits step (ap (λ (z : Call P × Entry). z.0) is ∙ called) (omega (arith, slow))
                (ap (λ (z : Call P × Entry). z.1.answer) is ∙ reported) (omega (arith, close))
            by-place next y deadline (inr has) called reported close prompt = prompt next (y, deadline, has, called, reported, close)

      -- no pair is valid, and this one is due
      record Open (now : ℕ) (a : AgentRecord H P) (p : PairRecord) : Type 0 where
        line : Lined now by a p
        number : p.number ≡ n
        on : path_of a p ≡ path
        invalid : NoneValid a.pairs
        role : a.controlling ≡ true
        quiet : NoneIsDue a
        paced : IsPaced a.timing

      calm-timely : (r : ExecutionRound P) (later : List (ExecutionRound P)) (old last : AgentRecord H P) (zs : List (Call P × Entry)) (p : PairRecord) → Execution mac answers zs first old → IsSound old
          → Open r.now old p → by ≤ r.now → r.timeout.answer ≡ Done → AreBetween r.following → ExecutionRounds mac answers (r ∷ later) old last
          → ((x : ExecutionRound P) → Has later x → IsPassed by x)
          → old.timing_advance ≤ pace → ((x : ExecutionRound P) → Has (r ∷ later) x → KeepsPace pace x.following) → IsPunctual delay r later
          → ComeBy r.now (pace + delay) (r ∷ later) ⊎ (ChecksBy (r.now + length later * (pace + delay)) (r ∷ later) path ⊎ SelectsBy (r.now + length later * (pace + delay)) (r ∷ later))
      calm-timely r [] old last zs p led sound unchanged_step from done between run opens slow keeping punctual = inl (omega arith, tt)
      calm-timely r (x ∷ later) old last zs p led sound unchanged_step from done between (mid, after, s, t, step, role, execution, along, more) opens slow keeping (prompt, punctual) =
          let sound_mid : IsSound mid = (path_theorem mac answers old mid s t (HandleTimeout r.now) r.timeout sound tt step).1 in
          let same : mid.timing_advance ≡ old.timing_advance = pacing-is-set mac answers old mid s t (HandleTimeout r.now) r.timeout step in
          let m : suc (length later) * (pace + delay) ≡ length later * (pace + delay) + (pace + delay) = suc-mul (length later) (pace + delay) in
          let to-mid : Execution mac answers (zs ++ (HandleTimeout r.now, r.timeout) ∷ []) first mid =
          execution_on mac answers zs ((HandleTimeout r.now, r.timeout) ∷ []) first old mid led (mid, s, t, tt, step, refl) in
          let still : Quiet mid = quiet-timeout mac answers r.now r.timeout old mid s t sound
          (record { full = unchanged_step.line.checking.full; invalid = unchanged_step.invalid; quiet = unchanged_step.quiet }) step in
          let after-call = timeout-follows mac r.now (timeout_begun r.now old) mid s t r.timeout.emitted unchanged_step.line.checking.peer unchanged_step.line.checking.full
          (maintains_pairs-from mac r.now old s t r.timeout.emitted mid unchanged_step.line.queue (passed-at mac answers old mid s t r.now r.timeout done step)) in
          elim (timeout-on mac answers by n path keeps r.now (omega (arith, from)) r.timeout old mid s t p done step sound sound_mid unchanged_step.line
          (λ m _. answered-if old p m sound unchanged_step.line.there (λ valid. never valid (unchanged_step.invalid p unchanged_step.line.there))) unchanged_step.number unchanged_step.on) [
            | inl (id, out) ↦ inr (inl (r, inl refl, (id, out), omega arith))
            | inr (other, w) ↦ elim (calm-walk r.now (omega (arith, from)) r.following mid after (zs ++ (HandleTimeout r.now, r.timeout) ∷ []) to-mid (λ y has. between y has) sound_mid execution along
                (record {
                  waits = w;
                  invalid = still.invalid;
                  role = role;
                  quiet = still.quiet;
                  paced = subst (λ (z : StunTiming). IsPaced z) (sym (ap (λ (b : Base). b.timing) after-call.0)) unchanged_step.paced;
                }) (omega (arith, slow, same)) (keeping r (inl refl))) [
                  | inl (y, has, (accepts, selected_paths)) ↦ inr (inr (r, inl refl, (y, has, accepts, selected_paths), omega arith))
                  | inr (c, slow_after, in_time) ↦
                      (let close : x.now ≤ r.now + (pace + delay) = in_time x.now prompt in
                      let round : IsPassed by x = opens x (inl refl) in
                      let late = round.late in
                      elim (calm-timely x later after last ((zs ++ (HandleTimeout r.now, r.timeout) ∷ []) ++ r.following) c.waits.pair
                      (execution_on mac answers (zs ++ (HandleTimeout r.now, r.timeout) ∷ []) r.following first mid after to-mid execution)
                      (sound-execution mac answers r.following mid after sound_mid execution)
                      (record {
                        line = in-line mac answers pace delay by n path keeps r.now x.now after c.waits (λ valid. never valid (c.invalid c.waits.pair c.waits.there));
                        number = c.waits.number;
                        on = c.waits.on;
                        invalid = c.invalid;
                        role = c.role;
                        quiet = c.quiet;
                        paced = c.paced;
                      })
                      (omega (arith, late)) round.done (λ y has. (let fits = round.between in fits y has)) more (λ y has. opens y (inr has))
                      (omega (arith, slow_after)) (λ y has. keeping y (inr has)) punctual) [
                        | inl come ↦ inl (omega arith, come-later x.now (r.now + (pace + delay)) (pace + delay) (x ∷ later) (omega (arith, close)) come)
                        | inr (inl (y, has, out, by_then)) ↦ inr (inl (y, inr has, out, omega (arith, by_then, close, m)))
                        | inr (inr (y, has, selected, by_then)) ↦ inr (inr (y, inr has, selected, omega (arith, by_then, close, m)))
                      ])
                ]
          ]

    -- a path is selected by this time, or the check is sent
    pub check-or-select : ExecutionsCheckFromDue {H = H} {P = P} mac answers → SuccessesSelect {H = H} {P = P} mac answers
        → (first start last : AgentRecord H P) (xs : List (Call P × Entry)) (r : ExecutionRound P) (later : List (ExecutionRound P)) (p : PairRecord) (by pace delay : ℕ)
        → IsFresh first → Execution mac answers xs first start → start.controlling ≡ true → Awaits r.now by start p → IsUnanswered start p
        → by ≤ r.now → r.timeout.answer ≡ Done → r.now < MAX → AreBetween r.following
        → (run : ExecutionRounds mac answers (r ∷ later) start last) → ((x : ExecutionRound P) → Has later x → IsPassed by x)
        → SufficeForDue by r.now start run.1 (times_of later) → IsTimed pace delay start r later
        → ChecksBy (r.now + length later * (pace + delay)) (r ∷ later) (path_of start p) ⊎ SelectsBy (r.now + length later * (pace + delay)) (r ∷ later)
    check-or-select check select first start last xs r later p by pace delay fresh execution role waits unanswered from done early between run passing enough timed =
        elim (calm-timely pace delay by p.number (path_of start p) (answered_at start p) select first fresh r later start last xs p execution (sound-after first start xs fresh execution)
        (record {
          line = lined-unanswered r.now by start p waits unanswered;
          number = refl;
          on = refl;
          invalid = λ q has. (let none = unanswered.invalid in none q has);
          role = role;
          quiet = due-none start (sound-after first start xs fresh execution) role waits.checking.full unanswered.calm;
          paced = waits.paced;
        }) (omega (arith, from)) done (λ y has. between y has) run passing (let begins = timed.begins in omega (arith, begins)) timed.keeps timed.punctual) [
          | inr reached ↦ reached
          | inl come ↦ elim (check first start last xs r later p by fresh execution role waits unanswered (omega (arith, from)) done (omega (arith, early)) (λ y has. between y has) run passing enough) [
            | inl (y, id, has, out) ↦ inl (y, has, (id, out), come-all r.now (pace + delay) r later y has come)
            | inr (y, has, selected) ↦ inr (y, has, selected, come-all r.now (pace + delay) r later y has come)
          ]
        ]

    pub executions-check-in-time : ExecutionsCheckFromDue {H = H} {P = P} mac answers → SuccessesSelect {H = H} {P = P} mac answers → ExecutionsCheckInTime {H = H} {P = P} mac answers
    executions-check-in-time check select first start last xs r later p by pace delay fresh execution role waits unanswered from done early between run passing enough timed =
        elim (check-or-select check select first start last xs r later p by pace delay fresh execution role waits unanswered (omega (arith, from)) done (omega (arith, early)) (λ y has. between y has) run passing enough timed) [
          | inl checks ↦ inl checks
          | inr (y, has, selected, by_then) ↦ inr (y, has, selected)
        ]

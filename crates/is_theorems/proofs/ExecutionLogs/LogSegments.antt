-- Segments of a log: their final states, the packets polled before them, and their polling cycles. Polls between `poll_timeout` and
-- `handle_timeout` change only the events.
use Rattle.is_theorems.proofs.Common.{[], ◌++◌, ◌∙◌, ◌∷◌, ◌≡◌, ◌⊎◌, AgentRecord, answer_by, ap, append_assoc, AreTaken, arith}
use Rattle.is_theorems.proofs.Common.{scheduled, Bool, Call, CandidateRecord, CyclesAreOfUse, Done, done, Emitted, Entry, Err, false}
use Rattle.is_theorems.proofs.Common.{HandleTimeout, Has, IceAgentEvent, IceError, if◌then◌else◌, inl, inr, is_idle, is_modern, is_poll}
use Rattle.is_theorems.proofs.Common.{is_waiting, IsControllingIn, IsOfUse, IsPolled, IsSound, length, List, Logged, map, MatchBool}
use Rattle.is_theorems.proofs.Common.{NextTimeout, NextTimeoutFrom, None, not, Ok, Option, Packet, PairRecord, PartsAreRuns, Polled}
use Rattle.is_theorems.proofs.Common.{PollEvent, PollsTimeout, PollTimeout, PollTransmit, refl, Result, Run, RunsOn, Some, Step, Stream}
use Rattle.is_theorems.proofs.Common.{StunTiming, subst, sym, TimesOut, true, ℕ}
use Rattle.is_theorems.proofs.CallEffects.AddedCandidates.{by_deadline}
use Rattle.is_theorems.proofs.RuleEffects.UnchangedSettings.{either}
use Rattle.is_theorems.proofs.CallEffects.PathAndTradeEffects.{path_theorem}
use Rattle.is_theorems.proofs.ExecutionLogs.LogTheorems.{runs_sound}
use Rattle.is_theorems.proofs.DuePairs.WithoutValidPair.{polled-sound}
use Rattle.is_theorems.proofs.DuePairs.PollingCycles.{timeouts-are-of-use}

pub no-case : {A : Type 0} → false ≡ true → A
no-case h = absurd (cc)

deadline-is : (a b : Option ℕ) → NextTimeout a ≡ NextTimeout b → a ≡ b
deadline-is a b h = cc

polled-is : (a b : Option Packet) → Polled a ≡ Polled b → a ≡ b
polled-is a b h = cc

-- a `handle_timeout` call that is done is one that did not fail
none-rejected : (r : Result (Unit {0}) IceError) → answer_by done r ≡ Done → r ≡ Ok tt
none-rejected (Ok u) is = refl
none-rejected (Err error) is = absurd (cc)

none-left : (given : Option Packet) (old new : List Packet) → IsPolled old given new → given ≡ None → new ≡ []
none-left None old new h is = h.1
none-left (Some packet) old new h is = absurd (cc)

none-still : (given : Option Packet) (old new : List Packet) → IsPolled old given new → old ≡ [] → new ≡ []
none-still None old new h is = h.1
none-still (Some packet) old new h is = let no : packet ∷ new ≡ [] = sym h ∙ is in absurd (cc)

in-both : {A B C D : Type 0} (b : Bool) → MatchBool b A B → (A → C) → (B → D) → MatchBool b C D
in-both true k f g = f k
in-both false k f g = g k

scheduled-twice : (at : ℕ) (t : StunTiming) (ps : List PairRecord) → map (scheduled at t) (map (scheduled at t) ps) ≡ map (scheduled at t) ps
scheduled-twice at t [] = refl
scheduled-twice at t (p ∷ ps) = ap (λ qs. scheduled at t p ∷ qs) (scheduled-twice at t ps)

module _ {H P : Type 0} where
  timeouts-keep : (o deadline : Option ℕ) (old new : AgentRecord H P) → NextTimeoutFrom o old deadline new → new.packets ≡ old.packets
  timeouts-keep None deadline old new h = ap (λ (a : AgentRecord H P). a.packets) h.1
  timeouts-keep (Some last) None old new h = absurd h
  timeouts-keep (Some last) (Some at) old new h = by_deadline old new last at h (λ made. ap (λ (a : AgentRecord H P). a.packets) made) (λ made. ap (λ (a : AgentRecord H P). a.packets) made)

  -- ---- `poll_timeout`

  abbrev with_events : List IceAgentEvent → AgentRecord H P → AgentRecord H P
  with_events es a = record a { events = es }

  -- the due times of all pairs are fixed
  abbrev all_fixed : ℕ → AgentRecord H P → AgentRecord H P
  all_fixed at a = record a { pairs = map (scheduled at a.timing) a.pairs }

  -- it reads no events
  timeouts-other : (start old : AgentRecord H P) (es fs : List IceAgentEvent) (deadline : ℕ) → PollsTimeout (with_events es start) (Some deadline) old
      → PollsTimeout (with_events fs start) (Some deadline) (with_events fs old)
  timeouts-other start old es fs deadline h = by start.last_time h where
    by : (o : Option ℕ) → NextTimeoutFrom o (with_events es start) (Some deadline) old → NextTimeoutFrom o (with_events fs start) (Some deadline) (with_events fs old)
    by None (nothing, is) = (nothing, ap (λ (a : AgentRecord H P). with_events fs a) is)
    by (Some last) k =
        in-both (is_waiting start) k
        (λ w. (w.0, in-both (is_modern start.timing) w.1 (λ made. ap (λ (a : AgentRecord H P). with_events fs a) made) (λ made. ap (λ (a : AgentRecord H P). with_events fs a) made)))
        (λ i. in-both (is_idle start) i (λ l. (l.0, ap (λ (a : AgentRecord H P). with_events fs a) l.1)) (λ l. (l.0, ap (λ (a : AgentRecord H P). with_events fs a) l.1)))

  -- it fixes the due times, or leaves the agent unchanged
  abbrev is_fixing : AgentRecord H P → Bool
  is_fixing a = if is_waiting a then is_modern a.timing else not (is_idle a)

  abbrev Fixes : ℕ → AgentRecord H P → AgentRecord H P → Type 0
  Fixes at old new = ((new ≡ old) × (is_fixing old ≡ false)) ⊎ ((new ≡ all_fixed at old) × (is_fixing old ≡ true))

  fixes : (at : ℕ) (old new : AgentRecord H P) (deadline : Option ℕ) → NextTimeoutFrom (Some at) old deadline new → Fixes at old new
  fixes at old new None k = absurd k
  fixes at old new (Some deadline) k = either (is_waiting old) k
      (λ waits w. either (is_modern old.timing) w.1
      (λ on made. inr (made, waiting waits ∙ on))
      (λ off made. inl (made, waiting waits ∙ off)))
      (λ free i. either (is_idle old) i
      (λ idle l. inl (l.1, unwaiting free ∙ ap not idle))
      (λ busy l. inr (l.1, unwaiting free ∙ ap not busy))) where
        waiting : is_waiting old ≡ true → is_fixing old ≡ is_modern old.timing
        waiting waits = ap (λ b. if b then is_modern old.timing else not (is_idle old)) waits

        unwaiting : is_waiting old ≡ false → is_fixing old ≡ not (is_idle old)
        unwaiting free = ap (λ b. if b then is_modern old.timing else not (is_idle old)) free

  -- called again, it changes nothing
  timeouts-twice : (start old new : AgentRecord H P) (deadline : ℕ) (again : Option ℕ) → PollsTimeout start (Some deadline) old → PollsTimeout old again new → new ≡ old
  timeouts-twice start old new deadline again h k = by start.last_time refl h where
    on : (at : ℕ) → start.last_time ≡ Some at → old.last_time ≡ start.last_time → Fixes at start old → new ≡ old
    on at is kept one = elim (fixes at old new again (subst (λ o. NextTimeoutFrom o old again new) (kept ∙ is) k)) [
      | inl same ↦ same.0
      | inr (made, fixing) ↦ elim one [
        | inl (same, off) ↦ (let wrong : true ≡ false = sym fixing ∙ (ap (λ (a : AgentRecord H P). is_fixing a) same ∙ off) in absurd (cc))
        | inr (fixed, again_fixing) ↦
            made ∙ (ap (λ (a : AgentRecord H P). all_fixed at a) fixed
            ∙ (ap (λ ps. record start { pairs = ps }) (scheduled-twice at start.timing start.pairs) ∙ sym fixed))
      ]
    ]

    by : (o : Option ℕ) → start.last_time ≡ o → NextTimeoutFrom o start (Some deadline) old → new ≡ old
    by None is (nothing, same) = absurd (cc)
    by (Some at) is w = let f = fixes at start old (Some deadline) w in on at is (elim f [ inl l ↦ ap (λ (a : AgentRecord H P). a.last_time) l.0 | inr l ↦ ap (λ (a : AgentRecord H P). a.last_time) l.0 ]) f

  module _ (mac : H → List ℕ → List ℕ → List ℕ) (answers : P → CandidateRecord → ℕ → ℕ → Type 0) where
    -- ---- segments of a log

    pub run-on : (first start last : AgentRecord H P) (s u t : Stream) (before part : List (Logged P)) → Run mac answers first s before start u
        → RunsOn mac answers before start u part last t → Run mac answers first s (part ++ before) last t
    run-on first start last s u t before [] led (is, same) =
        subst (λ (a : AgentRecord H P). Run mac answers first s before a t) (sym is) (subst (λ v. Run mac answers first s before start v) (sym same) led)
    run-on first start last s u t before (x ∷ part) led (mid, v, run, number, based, step) =
        (mid, v, run-on first start mid s u v before part led run, number, based, step)

    pub cut : (first last : AgentRecord H P) (s t : Stream) (part before : List (Logged P)) → Run mac answers first s (part ++ before) last t
        → (start : AgentRecord H P) × (u : Stream) × Run mac answers first s before start u × RunsOn mac answers before start u part last t
    cut first last s t [] before run = (last, t, run, (refl, refl))
    cut first last s t (x ∷ part) before (mid, v, run, number, based, step) =
        let k = cut first mid s v part before run in
        (k.0, k.1, k.2, (mid, v, k.3, number, based, step))

    pub parts-are-runs : PartsAreRuns {H = H} {P = P} mac answers
    parts-are-runs first last s t log run rest part before split =
        let whole = cut first last s t rest (part ++ before) (subst (λ (l : List (Logged P)). Run mac answers first s l last t) split run) in
        let k = cut first whole.0 s whole.1 part before whole.2 in
        (k.0, whole.0, record { rest = rest; split = split; at = k.1; led = k.2; following = whole.1; run = k.3 })

    pub now-controlling : (before : List (Logged P)) (start last : AgentRecord H P) (u t : Stream) (part : List (Logged P)) (run : RunsOn mac answers before start u part last t)
        → IsControllingIn mac answers before start u part last t run → last.controlling ≡ true
    now-controlling before start last u t [] run role = role
    now-controlling before start last u t (x ∷ part) run role = role.0

    pub starts-controlling : (before : List (Logged P)) (start last : AgentRecord H P) (u t : Stream) (part : List (Logged P)) (run : RunsOn mac answers before start u part last t)
        → IsControllingIn mac answers before start u part last t run → start.controlling ≡ true
    starts-controlling before start last u t [] run role = ap (λ (a : AgentRecord H P). a.controlling) (sym run.0) ∙ role
    starts-controlling before start last u t (x ∷ part) (mid, v, run, number, based, step) role = starts-controlling before start mid u v part run role.1

    -- a segment of two segments
    apart : (before : List (Logged P)) (start last : AgentRecord H P) (u t : Stream) (xs older : List (Logged P)) → RunsOn mac answers before start u (xs ++ older) last t
        → (mid : AgentRecord H P) × (v : Stream) × RunsOn mac answers before start u older mid v × RunsOn mac answers (older ++ before) mid v xs last t
    apart before start last u t [] older run = (last, t, run, (refl, refl))
    apart before start last u t (x ∷ xs) older (m, v, run, number, based, step) =
        let k = apart before start m u v xs older run in (k.0, k.1, k.2, (m, v, k.3, number ∙ ap length (append_assoc xs older before), based, step))

    abbrev pub Halves : List (Logged P) → AgentRecord H P → Stream → List (Logged P) → List (Logged P) → AgentRecord H P → Stream → Type 0
    Halves before start u xs older last t =
        (mid : AgentRecord H P) × (v : Stream)
        × (front : RunsOn mac answers before start u older mid v) × IsControllingIn mac answers before start u older mid v front
        × (back : RunsOn mac answers (older ++ before) mid v xs last t) × IsControllingIn mac answers (older ++ before) mid v xs last t back

    pub halves : (before : List (Logged P)) (start last : AgentRecord H P) (u t : Stream) (xs older : List (Logged P)) (run : RunsOn mac answers before start u (xs ++ older) last t)
        → IsControllingIn mac answers before start u (xs ++ older) last t run → Halves before start u xs older last t
    halves before start last u t [] older run role = (last, t, run, role, (refl, refl), now-controlling before start last u t older run role)
    halves before start last u t (x ∷ xs) older (m, v, run, number, based, step) role =
        let k = halves before start m u v xs older run role.1 in
        (k.0, k.1, k.2, k.3, (m, v, k.4, number ∙ ap length (append_assoc xs older before), based, step), (role.0, k.5))

    -- ---- packets that were polled

    pub poll-keeps : (call : Call P) (e : Entry) (old new : AgentRecord H P) (s t : Stream) → is_poll call ≡ true → Step mac answers old s call e new t → old.packets ≡ [] → new.packets ≡ []
    poll-keeps PollTransmit e old new s t is (given, emitted, (polled, made), drawn) none = none-still given old.packets new.packets polled none
    poll-keeps PollTimeout e old new s t is (deadline, emitted, timed_out, drawn) none = timeouts-keep old.last_time deadline old new timed_out ∙ none
    poll-keeps PollEvent e old new s t is (given, emitted, (polled, made), drawn) none = ap (λ (a : AgentRecord H P). a.packets) made ∙ none
    poll-keeps _ e old new s t is step none = no-case is

    pub all-taken : (first last : AgentRecord H P) (s t : Stream) (log : List (Logged P)) → Run mac answers first s log last t → AreTaken log → last.packets ≡ []
    all-taken first last s t [] run taken = absurd taken
    all-taken first last s t (x ∷ before) (mid, u, run, number, based, step) (inl (call, answer)) =
        gone (subst (λ (c : Call P). Step mac answers mid u c x.entry last t) call step) where
          gone : Step mac answers mid u PollTransmit x.entry last t → last.packets ≡ []
          gone (given, emitted, (polled, made), drawn) =
              none-left given mid.packets last.packets polled (polled-is given None (let is = answer in let was = ap (λ (e : Entry). e.answer) emitted in cc))
    all-taken first last s t (x ∷ before) (mid, u, run, number, based, step) (inr (poll, taken)) =
        poll-keeps x.call x.entry mid last u t poll step (all-taken first mid s u before run taken)

    -- ---- polling cycles

    pub asked-to : (old new : AgentRecord H P) (s t : Stream) (e : Entry) (deadline : ℕ) → e.answer ≡ NextTimeout (Some deadline) → Step mac answers old s PollTimeout e new t → PollsTimeout old (Some deadline) new
    asked-to old new s t e deadline timed_out (emitted, shown, polls, drawn) =
        subst (λ (o : Option ℕ). PollsTimeout old o new) (deadline-is emitted (Some deadline) (sym (ap (λ (x : Entry). x.answer) shown) ∙ timed_out)) polls

    pub passed : (old new : AgentRecord H P) (s t : Stream) (now : ℕ) (e : Entry) → e.answer ≡ Done → Step mac answers old s (HandleTimeout now) e new t → TimesOut mac now old s (Ok tt) e.emitted new t
    passed old new s t now e is_done (res, emitted, is, times) =
        let good : res ≡ Ok tt = none-rejected res (sym (ap (λ (x : Entry). x.answer) is) ∙ is_done) in
        subst (λ (x : Emitted). TimesOut mac now old s (Ok tt) x new t) (sym (ap (λ (x : Entry). x.emitted) is))
        (subst (λ (o : Result (Unit {0}) IceError). TimesOut mac now old s o emitted new t) good times)

    -- `poll_timeout` returned `deadline` in a state that differs at most in its events
    abbrev TimedOut : AgentRecord H P → ℕ → AgentRecord H P → Type 0
    TimedOut start deadline a = (es : List IceAgentEvent) × PollsTimeout (with_events es start) (Some deadline) a

    -- polls change only the events, once no packet is queued and `poll_timeout` was called
    poll-on : (start old new : AgentRecord H P) (deadline : ℕ) (call : Call P) (e : Entry) (s t : Stream) → is_poll call ≡ true → start.packets ≡ [] → TimedOut start deadline old
        → Step mac answers old s call e new t → TimedOut start deadline new
    poll-on start old new deadline PollTransmit e s t is none (es, woke) (given, emitted, (polled, made), drawn) =
        let was : old.packets ≡ [] = timeouts-keep start.last_time (Some deadline) (with_events es start) old woke ∙ none in
        let same : new ≡ old = made ∙ ap (λ ps. record old { packets = ps }) (none-still given old.packets new.packets polled was ∙ sym was) in
        (es, subst (λ (a : AgentRecord H P). PollsTimeout (with_events es start) (Some deadline) a) (sym same) woke)
    poll-on start old new deadline PollEvent e s t is none (es, woke) (given, emitted, (polled, made), drawn) =
        (new.events, subst (λ (a : AgentRecord H P). PollsTimeout (with_events new.events start) (Some deadline) a) (sym made) (timeouts-other start old es new.events deadline woke))
    poll-on start old new deadline PollTimeout e s t is none (es, woke) (again, emitted, polls, drawn) =
        (es, subst (λ (a : AgentRecord H P). PollsTimeout (with_events es start) (Some deadline) a) (sym (timeouts-twice (with_events es start) old new deadline again woke polls)) woke)
    poll-on start old new deadline _ e s t is none woke step = no-case is

    polls-on : (start old new : AgentRecord H P) (deadline : ℕ) (before polls : List (Logged P)) (u t : Stream) → ((x : Logged P) → Has polls x → is_poll x.call ≡ true) → start.packets ≡ []
        → TimedOut start deadline old → RunsOn mac answers before old u polls new t → TimedOut start deadline new
    polls-on start old new deadline before [] u t are none woke (is, same) = subst (λ (a : AgentRecord H P). TimedOut start deadline a) (sym is) woke
    polls-on start old new deadline before (x ∷ polls) u t are none woke (mid, v, run, number, based, step) =
        poll-on start mid new deadline x.call x.entry v t (are x (inl refl)) none (polls-on start old mid deadline before polls u v (λ y has. are y (inr has)) none woke run) step

    pub cycles-are-of-use : CyclesAreOfUse {H = H} {P = P} mac answers
    cycles-are-of-use first s log fresh before polls start last asked timeout deadline now part empty turn checking some early =
        of_use part.run where
          sound : IsSound start
          sound = runs_sound mac answers (path_theorem mac answers) first start s part.at before fresh part.led

          none : start.packets ≡ []
          none = elim empty [ inl taken ↦ all-taken first start s part.at before part.led taken | inr is ↦ search is ]

          timed_out : (old mid : AgentRecord H P) (v u : Stream) → RunsOn mac answers before start part.at [] old v → Step mac answers old v asked.call asked.entry mid u → TimedOut start deadline mid
          timed_out old mid v u (same, drawn) step =
              let polled = asked-to old mid v u asked.entry deadline turn.timed_out (subst (λ (c : Call P). Step mac answers old v c asked.entry mid u) turn.asks step) in
              (start.events, subst (λ (a : AgentRecord H P). PollsTimeout a (Some deadline) mid) same polled)

          of_use : RunsOn mac answers before start part.at (timeout ∷ (polls ++ asked ∷ [])) last part.following → IsOfUse start timeout.entry.emitted last
          of_use (near, u, run, number, based, step) =
              let k = apart before start near part.at u polls (asked ∷ []) run in
              let one = k.2 in
              let w = polls-on start k.0 near deadline ((asked ∷ []) ++ before) polls k.1 u (λ x has. search (turn.polled x has)) none (timed_out one.0 k.0 one.1 k.1 one.2 one.5) k.3 in
              let moves : Step mac answers near u (HandleTimeout now) timeout.entry last part.following = subst (λ (c : Call P). Step mac answers near u c timeout.entry last part.following) turn.comes step in
              timeouts-are-of-use mac (with_events w.0 start) near last u part.following deadline now timeout.entry.emitted (polled-sound start start.packets w.0 sound)
              (record { full = checking.full; peer = checking.peer }) none some early w.1 (let kept = turn.kept in omega (arith, kept))
              (passed near last u part.following now timeout.entry turn.done moves)

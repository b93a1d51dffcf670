-- A punctual caller makes the first `handle_timeout` call after consent on a path ended in time, and after it the agent is not connected on
-- this path.
use Rattle.is_theorems.specs.LeftInTime.{BeginsBy, consent_until, IsConnectedOn, IsRequestedAlong, IsSilentRound, LeavesBy, LeavesInTime}
use Rattle.is_theorems.proofs.Common.{[], ◌*◌, ◌++◌, ◌+◌, ◌<◌, ◌∙◌, ◌∷◌, ◌≡◌, ◌≤◌, ◌⊎◌, AgentRecord, Answer, ap, AreInRound, AreNeverLite}
use Rattle.is_theorems.proofs.Common.{arith, Bool, Call, CandidateRecord, Consent, consent_end, consent_of, Done, EndsAlong, Entry}
use Rattle.is_theorems.proofs.Common.{Execution, ExecutionRound, false, GivesBased, HandleTimeout, Has, heard_until, IceCreds}
use Rattle.is_theorems.proofs.Common.{if◌then◌else◌, inl, inr, is_connected, is_done, is_in_round, is_some, is_valid, IsAliveBy}
use Rattle.is_theorems.proofs.Common.{IsAnsweredAlong, IsConnectedAfter, IsFresh, IsPrompt, IsPunctual, IsSound, KeepsPace, later, List}
use Rattle.is_theorems.proofs.Common.{lite_set_by, MAX, max, min, next_request, NextTimeout, None, Option, option_map_or, PairRecord, PassRounds}
use Rattle.is_theorems.proofs.Common.{Path, path_of, PollTimeout, queue_left, refl, remote_after, request_at, request_end, RequestRecord, RestartIce}
use Rattle.is_theorems.proofs.Common.{SECOND, selected_along, SetIceLite, SetRemoteCredentials, SetTimingAdvance, Some, Step, Stream}
use Rattle.is_theorems.proofs.Common.{StunTiming, subst, sym, timeout_begun, true, Waits, WaitsPast, WaitsWith, ℕ}
use Rattle.is_theorems.proofs.CallEffects.FailedCallsAndNewAgents.{fresh_sound}
use Rattle.is_theorems.proofs.CallEffects.PathAndTradeEffects.{path_theorem, trade_theorem}
use Rattle.is_theorems.proofs.ConnectedConsent.AnsweredExecutions.{along, steps}
use Rattle.is_theorems.proofs.ConnectedConsent.AnsweredLately.{connected-are-answered}
use Rattle.is_theorems.proofs.ConnectedConsent.AnsweredPairs.{IsFirm}
use Rattle.is_theorems.proofs.ConnectedConsent.ConnectedExecutions.{maintained, succeeded}
use Rattle.is_theorems.proofs.ConnectedConsent.SilentCalls.{IsSilent, maintained-over, step-over}
use Rattle.is_theorems.proofs.ConnectedConsent.SilentPairs.{IsOver, PairsOver}
use Rattle.is_theorems.proofs.ExecutionLogs.LogSegments.{no-case}
use Rattle.is_theorems.proofs.ExecutionLogs.PerAgentExecutions.{either_has}
use Rattle.is_theorems.proofs.PathSelection.NominatedByPeerPerAgent.{execution_on}
use Rattle.is_theorems.proofs.PunctualTimeouts.ChecksInTime.{stays-slow}
use Rattle.is_theorems.proofs.PunctualTimeouts.ConsentInTime.{polled-soon, round-clock}
use Rattle.is_theorems.proofs.PunctualTimeouts.UnchangedPacing.{Clock, maintains, Pace, pacing-is-set}
use Rattle.is_theorems.proofs.RuleEffects.SelectedPaths.{some_is}
use Rattle.is_theorems.proofs.StoredPairs.PairsThatStay.{pairs-stay}
use Rattle.is_theorems.proofs.StoredPairs.TransactionsOverPackets.{sound-execution}

-- ---- when consent ends

first-end : (b : Bool) (now one two : ℕ) → now < one → now < (if b then one else max one two)
first-end true now one two lt = lt
first-end false now one two lt = omega (arith, lt)

second-end : (b : Bool) (now one two : ℕ) → b ≡ false → now < two → now < (if b then one else max one two)
second-end true now one two loose lt = no-case (sym loose)
second-end false now one two loose lt = omega (arith, lt)

module _ (c : Consent) (sent heard : ℕ) (path : Path) where
  abbrev Over : PairRecord → Type 0
  Over p = IsOver c.strict sent heard path p

  abbrev ends : ℕ
  ends = consent_until c sent heard

  -- a pair that is alive is so before the end of consent
  alive-before : (now : ℕ) (p : PairRecord) → Over p → IsAliveBy c now p → now < ends
  alive-before now p over (at, is, inl lt) =
      let le = over.answered at is in
      let k = first-end c.strict now (sent + c.timeout.0) (heard + 15 * SECOND) (omega (arith, le, lt)) in
      omega (arith, k)
  alive-before now p over (at, is, inr (loose, (time, last, lt))) =
      let le = over.asked loose time last in
      let k = second-end c.strict now (sent + c.timeout.0) (heard + 15 * SECOND) loose (omega (arith, le, lt)) in
      omega (arith, k)

  -- its consent ends by then
  ends-by : (p : PairRecord) → Over p → is_some p.consented ≡ true → consent_end c p ≤ ends
  ends-by p over some = from p.consented refl some where
    asked-by : (o : Option ℕ) → c.strict ≡ false → p.last_request ≡ o → option_map_or (λ at. at + 15 * SECOND) o 0 ≤ heard + 15 * SECOND
    asked-by None loose is = omega arith
    asked-by (Some at) loose is = let le = over.asked loose at is in omega (arith, le)

    by : (b : Bool) (at : ℕ) → c.strict ≡ b → at ≤ sent
        → max (later at c.timeout.0) (if b then 0 else min (request_end p) MAX)
        ≤ (if b then sent + c.timeout.0 else max (sent + c.timeout.0) (heard + 15 * SECOND))
    by true at is le = omega (arith, le)
    by false at is le = let k : request_end p ≤ heard + 15 * SECOND = asked-by p.last_request is refl in omega (arith, le, k)

    from : (o : Option ℕ) → p.consented ≡ o → is_some o ≡ true → option_map_or (λ at. max (later at c.timeout.0) (heard_until c p)) o MAX ≤ ends
    from None is none = no-case none
    from (Some at) is there = let k = by c.strict at refl (over.answered at is) in omega (arith, k)

-- ---- settings that these calls leave

same-if : {A : Type 0} (b : Bool) (x : A) → (if b then x else x) ≡ x
same-if true x = refl
same-if false x = refl

unqueued : (now : ℕ) (t : StunTiming) (remote : Option IceCreds) (queue : List RequestRecord) → queue ≡ [] → next_request remote (queue_left now t remote queue) ≡ None
unqueued now t None queue is = refl
unqueued now t (Some peer) queue is = subst (λ (qs : List RequestRecord). next_request (Some peer) (queue_left now t (Some peer) qs) ≡ None) (sym is) refl

none-left : (gone rest : List RequestRecord) → [] ≡ gone ++ rest → rest ≡ []
none-left [] rest is = sym is
none-left (q ∷ gone) rest is = absurd (cc)

module _ {P : Type 0} where
  full-in-round : (call : Call P) → is_in_round true call ≡ true → lite_set_by call false ≡ false
  full-in-round (SetIceLite lite) is = no-case is
  full-in-round _ is = refl

  peer-in-round : (call : Call P) (answer : Answer) (remote : Option IceCreds) → is_in_round true call ≡ true → remote_after call answer remote ≡ remote
  peer-in-round (SetRemoteCredentials creds) answer remote is = no-case is
  peer-in-round (RestartIce creds keep) answer remote is = no-case is
  peer-in-round _ answer remote is = same-if (is_done answer) remote

module _ {H P : Type 0} where
  waits-in-round : (old : AgentRecord H P) (call : Call P) (e : Entry) (new : AgentRecord H P) → is_in_round true call ≡ true → Waits old call e new → WaitsWith old call e new
  waits-in-round old (HandleTimeout now) e new is h = no-case is
  waits-in-round old (RestartIce creds keep) e new is h = no-case is
  waits-in-round old _ e new is h = h

  keeps-empty : (old : AgentRecord H P) (call : Call P) (e : Entry) (new : AgentRecord H P) → is_some old.remote_creds ≡ true → old.queue ≡ [] → WaitsWith old call e new → new.queue ≡ []
  keeps-empty old call e new peer empty (inl same) = same ∙ empty
  keeps-empty old call e new peer empty (inr (at, by, m, brings, is, unknown, queue)) = no-case (ap (λ (o : Option IceCreds). is_some o) (sym unknown) ∙ peer)

  module _ (mac : H → List ℕ → List ℕ → List ℕ) (answers : P → CandidateRecord → ℕ → ℕ → Type 0) (c : Consent) (sent heard pace delay : ℕ) (path : Path) where
    -- what holds in these rounds
    record Ready (a : AgentRecord H P) : Type 0 where
      sound : IsSound a
      firm : IsFirm a
      rule : consent_of a.timing ≡ Some c
      peer : is_some a.remote_creds ≡ true
      queue : a.queue ≡ []
      over : PairsOver c.strict sent heard path a
      slow : a.timing_advance ≤ pace

    abbrev limit : ℕ
    limit = consent_until c sent heard + (pace + delay)

    abbrev Silent : List (Call P × Entry) → Type 0
    Silent xs = (x : Call P × Entry) → Has xs x → IsSilent c.strict path x.0 x.1

    -- ---- between `handle_timeout` calls

    step-ready : (call : Call P) (e : Entry) (old new : AgentRecord H P) (s t : Stream) → is_in_round true call ≡ true → IsSilent c.strict path call e → GivesBased call
        → ((by : ℕ) → call ≡ SetTimingAdvance by → by ≤ pace) → Step mac answers old s call e new t → Ready old → Ready new × (new.last_time ≡ old.last_time)
    step-ready call e old new s t fits silent given keeps step r =
        let law = path_theorem mac answers old new s t call e r.sound given step in
        let trade = trade_theorem mac answers old new s t call e r.sound given step in
        let clock = round-clock mac answers call e old new s t fits step in
        let slow = r.slow in
        let peer : new.remote_creds ≡ old.remote_creds = law.0.remote_creds ∙ peer-in-round call e.answer old.remote_creds fits in (
          record {
            sound = law.1;
            firm = steps mac answers old new s t e r.firm call (full-in-round call fits) step;
            rule = ap (λ (k : Clock). consent_of k.timing) clock ∙ r.rule;
            peer = ap (λ (o : Option IceCreds). is_some o) peer ∙ r.peer;
            queue = keeps-empty old call e new r.peer r.queue (waits-in-round old call e new fits trade.waits);
            over = step-over mac answers c.strict sent heard path call e old new s t fits silent r.sound step r.over;
            slow = stays-slow call old.timing_advance new.timing_advance pace (pacing-is-set mac answers old new s t call e step) (omega (arith, slow)) keeps;
          },
          ap (λ (k : Clock). k.last_time) clock,
        )

    walk-ready : (xs : List (Call P × Entry)) (old new : AgentRecord H P) → AreInRound true xs → Silent xs → KeepsPace pace xs → Execution mac answers xs old new → Ready old → Ready new
    walk-ready [] old new fits silent keeps is r = subst (λ (a : AgentRecord H P). Ready a) (sym is) r
    walk-ready (x ∷ rest) old new fits silent keeps (mid, s, t, given, step, more) r =
        walk-ready rest mid new (λ y has. fits y (inr has)) (λ y has. silent y (inr has)) (λ y by has. keeps y by (inr has)) more
        (step-ready x.0 x.1 old mid s t (fits x (inl refl)) (silent x (inl refl)) given (λ by is. keeps x by (inl refl) is) step r).0

    -- `poll_timeout` while a valid pair is on the path
    polled : (now next deadline : ℕ) (call : Call P) (e : Entry) (old new : AgentRecord H P) (s t : Stream) (p : PairRecord) → Ready old → old.last_time ≡ Some now
        → now < consent_until c sent heard → Has old.pairs p → is_valid p ≡ true → path_of old p ≡ path → Step mac answers old s call e new t
        → call ≡ PollTimeout → e.answer ≡ NextTimeout (Some deadline) → next ≤ deadline + delay → next ≤ limit
    polled now next deadline call e old new s t p r last early has valid on step called answer close =
        let soon = polled-soon mac answers pace delay now next deadline c e old new s t p r.firm.0 last r.rule r.slow
        (subst (λ (k : Call P). Step mac answers old s k e new t) called step) answer close has in
        let by = ends-by c sent heard path p (r.over p has on) (r.firm.1 p has valid) in
        omega (arith, soon, by, early)

    walk-time : (now : ℕ) (xs : List (Call P × Entry)) (old new : AgentRecord H P) (p : PairRecord) → AreInRound true xs → Silent xs → KeepsPace pace xs → (execution : Execution mac answers xs old new)
        → Ready old → old.last_time ≡ Some now → now < consent_until c sent heard → Has old.pairs p → is_valid p ≡ true → path_of old p ≡ path
        → ((next : ℕ) → IsPrompt delay next xs → next ≤ limit) ⊎ EndsAlong mac answers xs old new execution path
    walk-time now [] old new p fits silent keeps is r last early has valid on = inl (λ next none. absurd none.2)
    walk-time now (x ∷ rest) old new p fits silent keeps (mid, s, t, given, step, more) r last early has valid on =
        let k = step-ready x.0 x.1 old mid s t (fits x (inl refl)) (silent x (inl refl)) given (λ by is. keeps x by (inl refl) is) step r in
        elim (pairs-stay mac answers old mid s t x.0 x.1 p r.sound given step has) [
          | inr goes ↦ inr (inl (p, has, (ap (λ (w : Path). w.source) on, ap (λ (w : Path). w.destination) on), goes))
          | inl stays ↦ elim (walk-time now rest mid new stays.pair (λ y there. fits y (inr there)) (λ y there. silent y (inr there)) (λ y by there. keeps y by (inr there)) more
              k.0 (k.1 ∙ last) (omega (arith, early)) stays.there (stays.valid valid) (stays.path ∙ on)) [
                | inr goes ↦ inr (inr goes)
                | inl prompt ↦ inl (λ next q. by-place next q.0 q.1 q.2 q.3 q.4 q.5 prompt)
              ]
        ] where
          by-place : (next : ℕ) (y : Call P × Entry) (deadline : ℕ) → Has (x ∷ rest) y → y.0 ≡ PollTimeout → y.1.answer ≡ NextTimeout (Some deadline) → next ≤ deadline + delay
              → ((next : ℕ) → IsPrompt delay next rest → next ≤ limit) → next ≤ limit
          by-place next y deadline (inl is) called reported close prompt =
              polled now next deadline x.0 x.1 old mid s t p r last (omega (arith, early)) has valid on step (ap (λ (z : Call P × Entry). z.0) is ∙ called)
              (ap (λ (z : Call P × Entry). z.1.answer) is ∙ reported) (omega (arith, close))
          by-place next y deadline (inr there) called reported close prompt = prompt next (y, deadline, there, called, reported, close)

    -- ---- the `handle_timeout` call

    none-queued : (now : ℕ) (old : AgentRecord H P) → Ready old → request_at now old ≡ None
    none-queued now old r = unqueued now old.timing old.remote_creds old.queue r.queue

    timeout-ready : (now : ℕ) (e : Entry) (old new : AgentRecord H P) (s t : Stream) → e.answer ≡ Done → Step mac answers old s (HandleTimeout now) e new t → Ready old
        → Ready new × (new.last_time ≡ Some now)
    timeout-ready now e old new s t finished (res, emitted, is, h) r =
        let none = none-queued now old r in
        let step : Step mac answers old s (HandleTimeout now) e new t = (res, emitted, is, h) in
        let law = path_theorem mac answers old new s t (HandleTimeout now) e r.sound tt step in
        let trade = trade_theorem mac answers old new s t (HandleTimeout now) e r.sound tt step in
        let m = maintained mac now old new s t emitted none (succeeded mac now e old new s t finished res emitted is h) in
        let pace_is = maintains mac now (timeout_begun now old) new s t emitted m in
        let slow = r.slow in
        let as_slow : new.timing_advance ≡ old.timing_advance = ap (λ (k : Pace). k.timing_advance) pace_is in
        let left = subst (λ (o : Option RequestRecord). WaitsPast o e.answer old.queue new.queue) none trade.waits in (
          record {
            sound = law.1;
            firm = steps mac answers old new s t e r.firm (HandleTimeout now) refl step;
            rule = ap (λ (k : Pace). consent_of k.clock.timing) pace_is ∙ r.rule;
            peer = ap (λ (o : Option IceCreds). is_some o) (law.0.remote_creds ∙ same-if (is_done e.answer) old.remote_creds) ∙ r.peer;
            queue = none-left left.0 new.queue (sym r.queue ∙ left.1);
            over = maintained-over mac answers c.strict sent heard path now e old new s t emitted r.firm.0 r.sound step m r.over;
            slow = omega (arith, slow, as_slow);
          },
          ap (λ (k : Pace). k.clock.last_time) pace_is,
        )

    -- ---- rounds

    abbrev Leaves : List (Call P × Entry) → (rounds : List (ExecutionRound P)) (old new : AgentRecord H P) → PassRounds mac answers rounds old new → Type 0
    Leaves before rounds old new run = LeavesBy mac answers (consent_until c sent heard) (pace + delay) path before rounds old new run

    silent-in : (r : ExecutionRound P) → IsSilentRound c path r → Silent r.following
    silent-in r q x has =
        let unanswered : IsAnsweredAlong r.following path → ⊥ = search q.unanswered in
        let unasked : c.strict ≡ false → IsRequestedAlong r.following path → ⊥ = search q.unasked in record {
          unanswered = λ accepts. unanswered (x, has, accepts);
          unasked = λ loose at by m brings is back. unasked loose (x, has, (at, by, m, brings, is, back));
        }

    fits-in : (r : ExecutionRound P) → IsSilentRound c path r → AreInRound true r.following
    fits-in r q = search q.between

    done-in : (r : ExecutionRound P) → IsSilentRound c path r → r.timeout.answer ≡ Done
    done-in r q = search q.done

    never-on : (before : List (Call P × Entry)) (r : ExecutionRound P) → AreNeverLite before → AreInRound true r.following → AreNeverLite (before ++ (HandleTimeout r.now, r.timeout) ∷ r.following)
    never-on before r never fits x has = elim (either_has before ((HandleTimeout r.now, r.timeout) ∷ r.following) x has) [
      | inl was ↦ never x was
      | inr (inl is) ↦ subst (λ (y : Call P × Entry). lite_set_by y.0 false ≡ false) is refl
      | inr (inr there) ↦ full-in-round x.0 (fits x there)
    ]

    -- the first round, after the calls before it
    module _ (first : AgentRecord H P) (fresh : IsFresh first) where
      early-here : (r : ExecutionRound P) (before : List (Call P × Entry)) (old mid : AgentRecord H P) (s t : Stream) → AreNeverLite before → Execution mac answers before first old
          → Ready old → Ready mid → r.timeout.answer ≡ Done → Step mac answers old s (HandleTimeout r.now) r.timeout mid t
          → IsConnectedOn (before ++ (HandleTimeout r.now, r.timeout) ∷ []) mid path
          → (p : PairRecord) × Has mid.pairs p × (is_valid p ≡ true) × (path_of mid p ≡ path) × (r.now < consent_until c sent heard)
      early-here r before old mid s t never led ready ready_mid done step (connected, selected) =
          let is_connected_now : is_connected mid.state ≡ true = search connected in
          let is_selected : selected_along None (before ++ (HandleTimeout r.now, r.timeout) ∷ []) ≡ Some path = search selected in
          let after : IsConnectedAfter mac answers before r.now r.timeout mid = record {
            first = first;
            near = old;
            fresh = fresh;
            execution = led;
            drawn = s;
            left = t;
            step = step;
            done = done;
            unqueued = none-queued r.now old ready;
            full = ready.firm.0;
            connected = is_connected_now;
          } in
          let k = connected-are-answered mac answers before r.now r.timeout mid c after never ready_mid.rule in
          let on : path_of mid k.0 ≡ path = some_is (path_of mid k.0) path (sym k.3 ∙ is_selected) in
          (k.0, k.1, ready_mid.sound.consented k.0 k.1 (ap (λ (o : Option ℕ). is_some o) k.2.1), on, alive-before c sent heard path r.now k.0 (ready_mid.over k.0 k.1 on) k.2)

      next-by : (r : ExecutionRound P) (later : List (ExecutionRound P)) → IsPunctual delay r later → (Ends : Type 0) → ((next : ℕ) → IsPrompt delay next r.following → next ≤ limit) ⊎ Ends
          → BeginsBy limit later ⊎ Ends
      next-by r [] punctual Ends k = inl tt
      next-by r (x ∷ more) punctual Ends (inl prompt) = inl (prompt x.now punctual.0)
      next-by r (x ∷ more) punctual Ends (inr goes) = inr goes

      here : (r : ExecutionRound P) (later : List (ExecutionRound P)) (before : List (Call P × Entry)) (old mid next : AgentRecord H P) (s t : Stream) → AreNeverLite before
          → Execution mac answers before first old → Ready old → Ready mid → mid.last_time ≡ Some r.now → Step mac answers old s (HandleTimeout r.now) r.timeout mid t
          → (execution : Execution mac answers r.following mid next) → IsSilentRound c path r → KeepsPace pace r.following → IsPunctual delay r later
          → IsConnectedOn (before ++ (HandleTimeout r.now, r.timeout) ∷ []) mid path
          → (r.now < consent_until c sent heard) × (BeginsBy limit later ⊎ EndsAlong mac answers r.following mid next execution path)
      here r later before old mid next s t never led ready ready_mid last step execution round keeps punctual connected =
          let p = early-here r before old mid s t never led ready ready_mid (done-in r round) step connected in
          let early = p.4 in (
            omega (arith, early),
            next-by r later punctual (EndsAlong mac answers r.following mid next execution path)
                (walk-time r.now r.following mid next p.0 (fits-in r round) (silent-in r round) keeps execution ready_mid last (omega (arith, early)) p.1 p.2 p.3),
          )

      leaves : (r : ExecutionRound P) (later : List (ExecutionRound P)) (before : List (Call P × Entry)) (old new : AgentRecord H P) → AreNeverLite before → Execution mac answers before first old
          → Ready old → (run : PassRounds mac answers (r ∷ later) old new) → ((x : ExecutionRound P) → Has (r ∷ later) x → IsSilentRound c path x)
          → ((x : ExecutionRound P) → Has (r ∷ later) x → KeepsPace pace x.following) → IsPunctual delay r later → Leaves before (r ∷ later) old new run
      leaves r [] before old new never led ready (mid, next, s, t, step, execution, more) quiet keeps punctual =
          let k = timeout-ready r.now r.timeout old mid s t (done-in r (quiet r (inl refl))) step ready in
          (here r [] before old mid next s t never led ready k.0 k.1 step execution (quiet r (inl refl)) (keeps r (inl refl)) punctual, tt)
      leaves r (x ∷ later) before old new never led ready (mid, next, s, t, step, execution, more) quiet keeps punctual =
          let round = quiet r (inl refl) in
          let k = timeout-ready r.now r.timeout old mid s t (done-in r round) step ready in
          let ready_next = walk-ready r.following mid next (fits-in r round) (silent-in r round) (keeps r (inl refl)) execution k.0 in (
            here r (x ∷ later) before old mid next s t never led ready k.0 k.1 step execution round (keeps r (inl refl)) punctual,
            leaves x later (before ++ (HandleTimeout r.now, r.timeout) ∷ r.following) next new (never-on before r never (fits-in r round))
                (execution_on mac answers before ((HandleTimeout r.now, r.timeout) ∷ r.following) first old next led (mid, s, t, tt, step, execution))
                ready_next more (λ y has. quiet y (inr has)) (λ y has. keeps y (inr has)) punctual.1,
          )

  module _ (mac : H → List ℕ → List ℕ → List ℕ) (answers : P → CandidateRecord → ℕ → ℕ → Type 0) where
    pub leaves-in-time : LeavesInTime mac answers
    leaves-in-time first start last before r later c path sent heard pace delay new never led l run quiet timed =
        let fresh : IsFresh first = search new in
        let never_lite : AreNeverLite before = search never in
        let sound_first : IsSound first = subst (λ (a : AgentRecord H P). IsSound a) (sym fresh.2) (fresh_sound H P first.provider fresh.0 fresh.1) in
        let begins : IsFirm first = subst (λ (a : AgentRecord H P). IsFirm a) (sym fresh.2) (refl, λ q none. absurd none) in
        let firm = along mac answers before first start never_lite led begins in
        let rule : consent_of start.timing ≡ Some c = search l.consent in
        let peer : is_some start.remote_creds ≡ true = search l.peer in
        let queue : start.queue ≡ [] = search l.queue in
        let slow = timed.begins in
        let ready : Ready mac answers c sent heard pace delay path start = record {
          sound = sound-execution mac answers before first start sound_first led;
          firm = firm;
          rule = rule;
          peer = peer;
          queue = queue;
          over = λ p has on. record { answered = λ at is. (let le = l.answered p at has on is in omega (arith, le)); asked = λ loose at is. (let le = l.asked p at has on is in omega (arith, le)) };
          slow = omega (arith, slow);
        } in
        let rounds_left : Leaves mac answers c sent heard pace delay path before (r ∷ later) start last run =
        leaves mac answers c sent heard pace delay path first fresh r later before start last never_lite led ready run (λ x has. quiet x has) (λ x has. timed.keeps x has) timed.punctual in
        search rounds_left

-- The first round leaves a pair that is due by its `handle_timeout` call, and is not checked in it, due as it was. So what holds of
-- a pair that is due before the rounds holds of it from the second round on.
use Rattle.is_stun.specs.declared.header.Class.TheVariants as class
use Rattle.is_theorems.proofs.Common.{[], ◌*◌, ◌++◌, ◌+◌, ◌<◌, ◌∙◌, ◌∷◌, ◌≡◌, ◌≤◌, ◌⊎◌, AcceptsSuccessOn, AddLocalCandidate}
use Rattle.is_theorems.proofs.Common.{AddRemoteCandidate, AgentRecord, ap, arith, scheduled, began_at, Bool, Call, CandidateRecord, consent_of}
use Rattle.is_theorems.proofs.Common.{Done, due_time_of, Ends, entries_of, Entry, eq-eqb, Err, false, HandleTimeout, Has, inl, inr}
use Rattle.is_theorems.proofs.Common.{is_in_round, is_modern, is_some, IsAnsweredIn, IsChecking, IsEndedIn, IsFresh, IsLasting, IsPassing}
use Rattle.is_theorems.proofs.Common.{IsReachedIn, IsSomeAnd, IsSound, issued_as, length, List, Logged, LoggedRound, map, MayEnd, nat_lt}
use Rattle.is_theorems.proofs.Common.{nat_tests, NextTimeoutFrom, NextTimeouts, nominations_ahead, None, not, numbers, Ok, Option}
use Rattle.is_theorems.proofs.Common.{PairRecord, PairsAreReachedFromDue, Part, Path, path_of, PollEvent, PollsTimeout, PollTimeout}
use Rattle.is_theorems.proofs.Common.{PollTransmit, ReceivePacket, refl, rising-each, Run, RunsOn, selection_count, SetControlling}
use Rattle.is_theorems.proofs.Common.{SetControlTieBreaker, SetLocalCredentials, SetLocalPreference, SetMaxCandidatePairs, SetMaxCandidates, SetMaxDiscovered}
use Rattle.is_theorems.proofs.Common.{SetMtu, SetRenomination, SetTimingAdvance, Some, Stays, stays_answered, Step, Stream, StunTiming}
use Rattle.is_theorems.proofs.Common.{subst, SufficesFromDue, sym, timeout_begun, true, unanswered_count, unwrap_or, ℕ}
use Rattle.is_theorems.proofs.CallEffects.PathAndTradeEffects.{path_theorem}
use Rattle.is_theorems.proofs.CallEffects.AddedCandidates.{by_deadline}
use Rattle.is_theorems.proofs.ExecutionLogs.LogTheorems.{runs_sound}
use Rattle.is_theorems.proofs.ExecutionLogs.LogSegments.{no-case, run-on, passed as passed-at}
use Rattle.is_theorems.proofs.EarlierChecks.BetweenTimeouts.{Ground, Goes, goes-same, ground_of, receives-goes}
use Rattle.is_theorems.proofs.EarlierChecks.ChangedPairs.{Fixed}
use Rattle.is_theorems.proofs.DuePairs.FirstDuePair.{due-at, timeout-follows}
use Rattle.is_theorems.proofs.DuePairs.ChecksAhead.{times, none-suffices}
use Rattle.is_theorems.proofs.DuePairs.NominationsAhead.{to_select, to_send}
use Rattle.is_theorems.proofs.ExecutionLogs.SegmentsAsExecutions.{ended-fits}
use Rattle.is_theorems.proofs.CallEffects.FailedCallsAndNewAgents.{mtu_kept, local_kept, enrolment_kept, storing_kept}
use Rattle.is_theorems.proofs.CallEffects.ServedRequests.{Has-mapped}
use Rattle.is_theorems.proofs.DuePairs.PollingCycles.{none-left, maintains_pairs-from, distinct-sound}
use Rattle.is_theorems.proofs.StoredPairs.PairsThatStay.{none-entered, pairs-stay}
use Rattle.is_theorems.proofs.RuleEffects.SelectedPaths.{one_pair}
use Rattle.is_theorems.proofs.DuePairs.AfterNominationAndRemoval.{Base, Kept, answered-if, answered-on, answered_at, kept_of, last_time_of}
use Rattle.is_theorems.proofs.DuePairs.AfterNominationAndRemoval.{lasts-young}
use Rattle.is_theorems.proofs.EarlierChecks.AddedCandidates.{local-goes, remote-goes}
use Rattle.is_theorems.proofs.EarlierChecks.FirstTimeout.{Other, timeout-goes}
use Rattle.is_theorems.proofs.ExecutionLogs.PerAgentExecutions.{either_has}
use Rattle.is_theorems.proofs.PollingRounds.DuePairsInLogs.{reached-unless, reselected-goes}
use Rattle.is_theorems.proofs.PollingRounds.InTurnAlong.{InTurn, IsNumbered, IsOfRound, Lined, Never, OffIn, lined, numbered-in-turn}
use Rattle.is_theorems.proofs.PollingRounds.InTurnAlong.{profile-along, turn-along}
use Rattle.is_theorems.proofs.PollingRounds.CountedSelections.{paid, paid-within}

lt-is : (n m : ℕ) → n < m → nat_lt n m ≡ true
lt-is n m h = grind (arith, nat_tests, h)

pub lt-from : (n m : ℕ) → nat_lt n m ≡ true → n < m
lt-from n m h = grind (arith, nat_tests, h)

some-is : (n m : ℕ) → Some n ≡ Some m → n ≡ m
some-is n m e = cc

-- ---- how many there are

some-there : (xs : List PairRecord) (x : PairRecord) → Has xs x → 1 ≤ length xs
some-there [] x has = absurd has
some-there (y ∷ ys) x has = omega arith

pub only-one : (xs : List PairRecord) (x y : PairRecord) → length xs ≤ 1 → Has xs x → Has xs y → x ≡ y
only-one [] x y few has there = absurd has
only-one (z ∷ []) x y few (inl e) (inl f) = sym e ∙ f
only-one (z ∷ []) x y few (inr none) there = absurd none
only-one (z ∷ []) x y few has (inr none) = absurd none
only-one (z ∷ w ∷ zs) x y few has there = absurd (let no : ⊥ = omega (arith, few) in no)

module _ {H P : Type 0} where
  -- what the pair depends on, and the pair with the number, is as it was
  abbrev pub Keeps : ℕ → AgentRecord H P → AgentRecord H P → Type 0
  Keeps n old new = (ground_of new ≡ ground_of old) × ((d : ℕ) (k : Kept) → d ≤ last_time_of old → Fixed n d k old.pairs → Fixed n d k new.pairs)

  pub keeps-to : (n : ℕ) (old needed new : AgentRecord H P) → Keeps n old needed → new ≡ needed → Keeps n old new
  keeps-to n old needed new h made = subst (λ (a : AgentRecord H P). Keeps n old a) (sym made) h

  keeps-same : (n : ℕ) (old new : AgentRecord H P) → new ≡ old → Keeps n old new
  keeps-same n old new made = keeps-to n old old new (refl, λ d cs le f. f) made

  keeps-from : (n : ℕ) (old new : AgentRecord H P) → Goes n 0 old new → Keeps n old new
  keeps-from n old new k = (k.0, k.1.fixed)

  pub asks-keeps : (n at : ℕ) (old new : AgentRecord H P) (deadline : Option ℕ) → old.last_time ≡ Some at → PollsTimeout old deadline new → Keeps n old new
  asks-keeps n at old new deadline last h = some deadline (subst (λ o. NextTimeoutFrom o old deadline new) last h) where
    fixed : new ≡ record old { pairs = map (scheduled at old.timing) old.pairs } → Keeps n old new
    fixed made = keeps-to n old _ new (
      refl,
      λ d cs le (q, has, is, due, checks).
          (scheduled at old.timing q, Has-mapped (scheduled at old.timing) old.pairs q has, is, ap Some (due-at at d old.timing q due), checks),
    ) made

    some : (deadline : Option ℕ) → IsSomeAnd deadline (λ w. NextTimeouts old at w new) → Keeps n old new
    some None k = absurd k
    some (Some w) k = by_deadline old new at w k (λ made. keeps-same n old new made) (λ made. fixed made)

  -- after the `handle_timeout` call at time `at`: a pair of the path waits, due by then
  pub record Waits (by n : ℕ) (path : Path) (keeps : ℕ → Bool) (at : ℕ) (a : AgentRecord H P) : Type 0 where
    pub checking : IsChecking a
    pub queue : a.queue ≡ []
    pub last : a.last_time ≡ Some at
    pub pair : PairRecord
    pub there : Has a.pairs pair
    pub number : pair.number ≡ n
    pub on : path_of a pair ≡ path
    pub young : nat_lt (unanswered_count pair.checks) a.timing.max_retransmits ≡ true
    pub lasts : (m : ℕ) → keeps m ≡ true → stays_answered (consent_of a.timing) m pair ≡ true
    pub timeout : ℕ
    pub before : timeout ≤ by
    pub due : pair.due ≡ Some timeout

  module _ (mac : H → List ℕ → List ℕ → List ℕ) (answers : P → CandidateRecord → ℕ → ℕ → Type 0) (by n : ℕ) (path : Path) (keeps : ℕ → Bool) (at : ℕ) where
    -- ---- the call

    pub timeout-on : by ≤ at → (e : Entry) (old new : AgentRecord H P) (s t : Stream) (p : PairRecord) → e.answer ≡ Done → Step mac answers old s (HandleTimeout at) e new t → IsSound old → IsSound new
        → Lined at by old p → ((m : ℕ) → keeps m ≡ true → answered_at old p m ≡ true) → p.number ≡ n → path_of old p ≡ path
        → ((id : List ℕ) × (e.emitted.issued ≡ Some (issued_as path class.Request id))) ⊎ (Other old p × Waits by n path keeps at new)
    timeout-on from e old new s t p done step sound sound_new line lasts number on =
        let answered : answered_at old p at ≡ true = answered-if old p at sound line.there (search line.lasting) in
        let h = passed-at mac answers old new s t at e done step in
        let g = maintains_pairs-from mac at old s t e.emitted new line.queue h in
        let m = timeout-follows mac at (timeout_begun at old) new s t e.emitted line.checking.peer line.checking.full g in
        let few = line.young in
        let young : nat_lt (unanswered_count p.checks) old.timing.max_retransmits ≡ true = lt-is (unanswered_count p.checks) old.timing.max_retransmits (omega (arith, few)) in
        let due = line.due in
        elim (timeout-goes at by from mac (timeout_begun at old) new s t e.emitted line.checking.peer line.checking.full (distinct-sound mac old sound) p line.there answered young (omega (arith, due), line.settled) g) [
          | inl (id, out) ↦ inl (id, out ∙ ap (λ w. Some (issued_as w class.Request id)) on)
          | inr (other, (d, before, (q, has, is, due, checks))) ↦
              (let stays : Stays old p new = elim (pairs-stay mac answers old new s t (HandleTimeout at) e p sound tt step line.there) [
                | inl x ↦ x
                | inr (was_done, none, gone) ↦ (let no : false ≡ true = ap not (sym gone) ∙ lasts-young at old p line.checking.full answered young in absurd (cc))
              ] in
              let one : stays.pair ≡ q = one_pair new.pairs stays.pair q (rising-each new.pairs sound_new.rising) stays.there has (stays.number ∙ sym is) in
              let timing : new.timing ≡ old.timing = ap (λ (b : Base). b.timing) m.0 in
              inr (
                other,
                record {
                  checking = record {
                    full = ap (λ (b : Base). b.lite) m.0 ∙ line.checking.full;
                    peer = ap (λ (b : Base). is_some b.remote_creds) m.0 ∙ line.checking.peer;
                  };
                  queue = ap (λ (b : Base). b.queue) m.0 ∙ none-left at old.timing old.remote_creds old.queue line.queue;
                  last = ap (λ (b : Base). b.last_time) m.0;
                  pair = q;
                  there = has;
                  number = is ∙ number;
                  on = ap (λ (x : PairRecord). path_of new x) (sym one) ∙ (stays.path ∙ on);
                  young = ap (λ (k : Kept). nat_lt (unanswered_count k.0) new.timing.max_retransmits) checks ∙ (ap (λ (z : StunTiming). nat_lt (unanswered_count p.checks) z.max_retransmits) timing ∙ young);
                  lasts = λ m is. answered-on old.timing new.timing m p q timing (ap (λ (k : Kept). k.1) checks) (lasts m is);
                  timeout = d;
                  before = before;
                  due = due;
                },
              ))
        ]

    -- ---- what comes after it

    pub waits-on : by ≤ at → (old new : AgentRecord H P) (w : Waits by n path keeps at old) → IsSound new → Keeps n old new → Stays old w.pair new → Waits by n path keeps at new
    waits-on from old new w sound (ground, fixed) stays =
        let last : last_time_of old ≡ at = ap (λ o. unwrap_or o 0) w.last in
        let f = fixed w.timeout (kept_of w.pair) (let before = w.before in omega (arith, last, before, from)) (w.pair, w.there, w.number, w.due, refl) in
        let one : stays.pair ≡ f.0 = one_pair new.pairs stays.pair f.0 (rising-each new.pairs sound.rising) stays.there f.1 (stays.number ∙ (w.number ∙ sym f.2)) in
        let timing : new.timing ≡ old.timing = ap (λ (g : Ground). g.timing) ground in
        record {
          checking = record {
            full = ap (λ (g : Ground). g.lite) ground ∙ w.checking.full;
            peer = ap (λ (g : Ground). is_some g.remote_creds) ground ∙ w.checking.peer;
          };
          queue = ap (λ (g : Ground). g.queue) ground ∙ w.queue;
          last = ap (λ (g : Ground). g.last_time) ground ∙ w.last;
          pair = f.0;
          there = f.1;
          number = f.2;
          on = ap (λ (q : PairRecord). path_of new q) (sym one) ∙ (stays.path ∙ w.on);
          young = ap (λ (k : Kept). nat_lt (unanswered_count k.0) new.timing.max_retransmits) f.4 ∙ (ap (λ (t : StunTiming). nat_lt (unanswered_count w.pair.checks) t.max_retransmits) timing ∙ w.young);
          lasts = λ m is. answered-on old.timing new.timing m w.pair f.0 timing (ap (λ (k : Kept). k.1) f.4) (w.lasts m is);
          timeout = w.timeout;
          before = w.before;
          due = f.3;
        }

    pub between-keeps : (call : Call P) (e : Entry) (old new : AgentRecord H P) (s t : Stream) → is_some old.remote_creds ≡ true → old.last_time ≡ Some at
        → (p : PairRecord) → IsSound old → Has old.pairs p → p.number ≡ n → path_of old p ≡ path → (m : Bool) → is_in_round m call ≡ true → Step mac answers old s call e new t
        → AcceptsSuccessOn call e path ⊎ (MayEnd answers old call e p ⊎ Keeps n old new)
    between-keeps (ReceivePacket now via bytes) e old new s t known last p sound has number on m is (h, drawn) =
        elim (receives-goes n 0 mac answers now old new via path bytes e known
        (λ q there same. (let one : q ≡ p = one_pair old.pairs q p (rising-each old.pairs sound.rising) there has (same ∙ sym number) in ap (λ (y : PairRecord). path_of old y) one ∙ on)) h) [
          | inl (m, reads, flag, success, back) ↦ inl (now, via, m, (refl, refl, reads, flag), success, back)
          | inr k ↦ inr (inr (keeps-from n old new k))
        ]
    between-keeps PollTransmit e old new s t known last p sound has number on m is (given, emitted, (polled, made), drawn) = inr (inr (keeps-to n old _ new (refl, λ d cs le f. f) made))
    between-keeps PollTimeout e old new s t known last p sound has number on m is (deadline, emitted, timed_out, drawn) = inr (inr (asks-keeps n at old new deadline last timed_out))
    between-keeps PollEvent e old new s t known last p sound has number on m is (given, emitted, (polled, made), drawn) = inr (inr (keeps-to n old _ new (refl, λ d cs le f. f) made))
    between-keeps (AddLocalCandidate c) e old new s t known last p sound has number on m is (Ok (Some place), emitted, reported, (named, mid, h, again, emits), drawn) =
        elim (local-goes n 0 answers old mid c place p sound has number h) [
          | inl ends ↦ inr (inl (ap (λ (x : Entry). x.answer) reported, ends))
          | inr k ↦ inr (inr (keeps-from n old new (reselected-goes n 0 old mid new named again k)))
        ]
    between-keeps (AddLocalCandidate c) e old new s t known last p sound has number on m is (Ok None, emitted, reported, (named, mid, h, again, emits), drawn) =
        inr (inr (keeps-from n old new (reselected-goes n 0 old mid new named again (goes-same n 0 old mid (none-entered answers old mid c h)))))
    between-keeps (AddLocalCandidate c) e old new s t known last p sound has number on m is (Err error, emitted, reported, (named, mid, h, again, emits), drawn) =
        inr (inr (keeps-from n old new (reselected-goes n 0 old mid new named again (goes-same n 0 old mid (enrolment_kept answers old mid c error h)))))
    between-keeps (AddRemoteCandidate c) e old new s t known last p sound has number on m is (Ok _, emitted, reported, (named, mid, h, again, emits), drawn) =
        elim (remote-goes n 0 old mid c p sound has number h) [
          | inl ends ↦ inr (inl (ap (λ (x : Entry). x.answer) reported, ends))
          | inr k ↦ inr (inr (keeps-from n old new (reselected-goes n 0 old mid new named again k)))
        ]
    between-keeps (AddRemoteCandidate c) e old new s t known last p sound has number on m is (Err error, emitted, reported, (named, mid, h, again, emits), drawn) =
        inr (inr (keeps-from n old new (reselected-goes n 0 old mid new named again (goes-same n 0 old mid (storing_kept old mid c error h)))))
    between-keeps (SetMtu target warn) e old new s t known last p sound has number on m is (Ok _, reported, h, drawn) = inr (inr (keeps-to n old _ new (refl, λ d cs le f. f) h.1))
    between-keeps (SetMtu target warn) e old new s t known last p sound has number on m is (Err error, reported, h, drawn) = inr (inr (keeps-same n old new (mtu_kept old new target warn error h)))
    between-keeps (SetLocalCredentials creds) e old new s t known last p sound has number on m is (Ok _, reported, h, drawn) = inr (inr (keeps-to n old _ new (refl, λ d cs le f. f) h.1))
    between-keeps (SetLocalCredentials creds) e old new s t known last p sound has number on m is (Err error, reported, h, drawn) = inr (inr (keeps-same n old new (local_kept old new creds error h)))
    between-keeps (SetControlTieBreaker tie) e old new s t known last p sound has number on m is (reported, made, drawn) = inr (inr (keeps-to n old _ new (refl, λ d cs le f. f) made))
    between-keeps (SetMaxCandidatePairs k) e old new s t known last p sound has number on m is (reported, made, drawn) = inr (inr (keeps-to n old _ new (refl, λ d cs le f. f) made))
    between-keeps (SetMaxDiscovered limit) e old new s t known last p sound has number on m is (reported, made, drawn) = inr (inr (keeps-to n old _ new (refl, λ d cs le f. f) made))
    between-keeps (SetMaxCandidates limit) e old new s t known last p sound has number on m is (reported, made, drawn) = inr (inr (keeps-to n old _ new (refl, λ d cs le f. f) made))
    between-keeps (SetRenomination renominates) e old new s t known last p sound has number on m is (reported, made, drawn) = inr (inr (keeps-to n old _ new (refl, λ d cs le f. f) made))
    between-keeps (SetTimingAdvance advance) e old new s t known last p sound has number on m is (reported, made, drawn) = inr (inr (keeps-to n old _ new (refl, λ d cs le f. f) made))
    between-keeps (SetLocalPreference object) e old new s t known last p sound has number on m is (reported, made, drawn) = inr (inr (keeps-to n old _ new (refl, λ d cs le f. f) made))
    between-keeps (SetControlling controlling) e old new s t known last p sound has number on m is (reported, made, drawn) = inr (inr (keeps-to n old _ new (refl, λ d cs le f. f) made))
    between-keeps _ e old new s t known last p sound has number on m is step = no-case is

    -- ---- the first round

    module _ (first : AgentRecord H P) (s : Stream) (fresh : IsFresh first) where
      sound-at : (log : List (Logged P)) (a : AgentRecord H P) (t : Stream) → Run mac answers first s log a t → IsSound a
      sound-at log a t run = runs_sound mac answers (path_theorem mac answers) first a s t log fresh run

      -- a check is sent on the path, or a success response is received on it, or a pair of the path may be removed, or the pair waits
      abbrev Passes : (before : List (Logged P)) (start : AgentRecord H P) (u : Stream) (xs : List (Logged P)) (timeout : Logged P) (last : AgentRecord H P) (t : Stream)
          → RunsOn mac answers before start u (xs ++ timeout ∷ []) last t → PairRecord → Type 0
      Passes before start u xs timeout last t run p =
          ((id : List ℕ) × (timeout.entry.emitted.issued ≡ Some (issued_as path class.Request id)))
          ⊎ (IsAnsweredIn (xs ++ timeout ∷ []) path
          ⊎ (IsEndedIn mac answers before start u (xs ++ timeout ∷ []) last t run path ⊎ (Other start p × Waits by n path keeps at last)))

      walk : (m : Bool) → by ≤ at → (before : List (Logged P)) (start last : AgentRecord H P) (u t : Stream) (xs : List (Logged P)) (timeout : Logged P) (p : PairRecord)
          → ((x : Logged P) → Has xs x → is_in_round m x.call ≡ true) → timeout.call ≡ HandleTimeout at → timeout.entry.answer ≡ Done
          → Run mac answers first s before start u → (run : RunsOn mac answers before start u (xs ++ timeout ∷ []) last t)
          → Lined at by start p → ((m : ℕ) → keeps m ≡ true → answered_at start p m ≡ true) → p.number ≡ n → path_of start p ≡ path → Passes before start u xs timeout last t run p
      walk m from before start last u t [] timeout p fits comes done led (mid, v, (is, same), numbered, given, step) line lasts number on =
          let here : Run mac answers first s before mid v = subst (λ (a : AgentRecord H P). Run mac answers first s before a v) (sym is) (subst (λ w. Run mac answers first s before start w) (sym same) led) in
          let sound_last = sound-at (timeout ∷ before) last t (mid, v, here, numbered, given, step) in
          let called : Step mac answers start v (HandleTimeout at) timeout.entry last t =
          subst (λ (a : AgentRecord H P). Step mac answers a v (HandleTimeout at) timeout.entry last t) is (subst (λ (c : Call P). Step mac answers mid v c timeout.entry last t) comes step) in
          elim (timeout-on from timeout.entry start last v t p done called (sound-at before start u led) sound_last line lasts number on) [
            | inl checks ↦ inl checks
            | inr waits ↦ inr (inr (inr waits))
          ]
      walk m from before start last u t (x ∷ xs) timeout p fits comes done led (mid, v, run, numbered, given, step) line lasts number on =
          elim (walk m from before start mid u v xs timeout p (λ y has. fits y (inr has)) comes done led run line lasts number on) [
            | inl checks ↦ inl checks
            | inr (inl (y, has, is)) ↦ inr (inl (y, inr has, is))
            | inr (inr (inl ended)) ↦ inr (inr (inl (inr ended)))
            | inr (inr (inr (other, w))) ↦
                (let here = run-on mac answers first start mid s u v before (xs ++ timeout ∷ []) led run in
                let sound = sound-at ((xs ++ timeout ∷ []) ++ before) mid v here in
                let sound_last = sound-at (x ∷ ((xs ++ timeout ∷ []) ++ before)) last t (mid, v, here, numbered, given, step) in
                let ends-here : MayEnd answers mid x.call x.entry w.pair → Ends answers mid x.call x.entry path = λ ends. (w.pair, w.there, (ap (λ (y : Path). y.source) w.on, ap (λ (y : Path). y.destination) w.on), ends) in
                elim (between-keeps x.call x.entry mid last v t w.checking.peer w.last w.pair sound w.there w.number w.on m (fits x (inl refl)) step) [
                  | inl accepts ↦ inr (inl (x, inl refl, accepts))
                  | inr (inl ends) ↦ inr (inr (inl (inl (ended-fits answers m mid x.call x.entry path (fits x (inl refl)) (ends-here ends), ends-here ends))))
                  | inr (inr keeps) ↦ elim (pairs-stay mac answers mid last v t x.call x.entry w.pair sound given step w.there) [
                    | inl stays ↦ inr (inr (inr (other, waits-on from mid last w sound_last keeps stays)))
                    | inr ends ↦ inr (inr (inl (inl (ended-fits answers m mid x.call x.entry path (fits x (inl refl)) (ends-here ends), ends-here ends))))
                  ]
                ])
          ]

  module _ (mac : H → List ℕ → List ℕ → List ℕ) (answers : P → CandidateRecord → ℕ → ℕ → Type 0) where
    -- when the oldest round begins
    oldest : (x : LoggedRound P) (older : List (LoggedRound P)) → (at : ℕ) × (began_at (x ∷ older) ≡ Some at)
    oldest x [] = (x.now, refl)
    oldest x (y ∷ older) = oldest y older

    -- what stays in the first round, and what stays then in the others
    module _ (Off : Call P → Entry → Type 0) (Stays : AgentRecord H P → Type 0) (owes : AgentRecord H P → ℕ) (pays : Entry → ℕ) (turns : InTurn mac answers Stays Off owes pays)
        (Then : AgentRecord H P → Type 0) (then_owes : AgentRecord H P → ℕ) (then_pays : Entry → ℕ) (then_turns : InTurn mac answers Then Off then_owes then_pays) where
      -- a pair is reached in the first round, or in later ones, unless a call turns it off
      pub due-unless : (first : AgentRecord H P) (s : Stream) (log : List (Logged P)) → IsFresh first
          → (before : List (Logged P)) (start second last : AgentRecord H P) (r : LoggedRound P) (later : List (LoggedRound P)) (p : PairRecord) (by most : ℕ)
          → (one : Part mac answers first s log before start (entries_of (r ∷ [])) second)
          → (others : Part mac answers first s log (entries_of (r ∷ []) ++ before) second (entries_of later) last)
          → Lined r.now by start p → Stays start → (Stays second → Then second) → by ≤ r.now → r.timeout.call ≡ HandleTimeout r.now → r.timeout.entry.answer ≡ Done
          → ((x : Logged P) → Has r.following x → is_in_round (is_modern start.timing) x.call ≡ true) → ((x : LoggedRound P) → Has later x → IsPassing (is_modern start.timing) by x)
          → ((x : LoggedRound P) → Has later x → IsLasting x.now start p) → SufficesFromDue start second last (length later) most
          → then_owes second + paid then_pays (entries_of later) ≤ most
          → (OffIn Off (entries_of (r ∷ [])) ⊎ OffIn Off (entries_of later))
          ⊎ (IsReachedIn mac answers (r ∷ []) one (path_of start p) ⊎ IsReachedIn mac answers later others (path_of start p))
      due-unless first s log fresh before start second last r later p by most one others line stays then from comes done between passing lasting enough within =
          elim (walk mac answers by p.number (path_of start p) (answered_at start p) r.now first s fresh (is_modern start.timing) (omega (arith, from)) before start second one.at one.following r.following r.timeout p
          (λ x has. between x has) comes done one.led one.run line (λ m is. is) refl refl) [
            | inl (id, out) ↦ inr (inl (inl (r, id, inl refl, out)))
            | inr (inl answered) ↦ inr (inl (inr (inl answered)))
            | inr (inr (inl ended)) ↦ inr (inl (inr (inr ended)))
            | inr (inr (inr (other, w))) ↦ elim enough [
              | inl few ↦ absurd (apart other (omega (arith, few)))
              | inr many ↦ elim (turn-along mac answers Stays Off owes pays turns first s fresh before start second one.at one.following (entries_of (r ∷ [])) of_first one.led one.run stays) [
                | inl off ↦ inl (inl off)
                | inr still ↦ elim (from-second later others w (then still) (λ x has. subst (λ b. IsPassing b by x) (sym same_rules) (passing x has)) (λ x has. answered-if start p x.now sound line.there (lasting x has)) (omega (arith, within)) (omega (arith, many))) [
                  | inl off ↦ inl (inr off)
                  | inr reached ↦ inr (inr reached)
                ]
              ]
            ]
          ] where
            of_first : (x : Logged P) → Has (entries_of (r ∷ [])) x → IsOfRound (is_modern start.timing) x
            of_first x has = elim (either_has r.following (r.timeout ∷ []) x has) [
              | inl following ↦ inl (between x following)
              | inr (inl is) ↦ inr (r.now, ap (λ (y : Logged P). y.call) (sym is) ∙ comes)
              | inr (inr none) ↦ absurd none
            ]

            -- the profile stays in the first round
            same_rules : is_modern second.timing ≡ is_modern start.timing
            same_rules = profile-along mac answers (is_modern start.timing) before start second one.at one.following (entries_of (r ∷ [])) of_first one.run

            sound : IsSound start
            sound = sound-at mac answers by p.number (path_of start p) (answered_at start p) r.now first s fresh before start one.at one.led

            -- it is not the only pair
            apart : Other start p → length start.pairs ≤ 1 → ⊥
            apart (o, o_has, is) few =
                let one : o ≡ p = only-one start.pairs o p few o_has line.there in
                no-case (sym is ∙ eq-eqb p.number o.number (ap (λ (x : PairRecord). x.number) (sym one)))

            -- the oldest round is one of them
            began-lasts : (x : LoggedRound P) (older : List (LoggedRound P)) (m : ℕ) → began_at (x ∷ older) ≡ Some m → ((y : LoggedRound P) → Has (x ∷ older) y → answered_at start p y.now ≡ true)
                → answered_at start p m ≡ true
            began-lasts x [] m began all = subst (λ k. answered_at start p k ≡ true) (some-is x.now m began) (all x (inl refl))
            began-lasts x (y ∷ older) m began all = began-lasts y older m began (λ z has. all z (inr has))

            from-second : (rounds : List (LoggedRound P)) → (found : Part mac answers first s log (entries_of (r ∷ []) ++ before) second (entries_of rounds) last)
                → Waits by p.number (path_of start p) (answered_at start p) r.now second → Then second → ((x : LoggedRound P) → Has rounds x → IsPassing (is_modern second.timing) by x)
                → ((x : LoggedRound P) → Has rounds x → answered_at start p x.now ≡ true)
                → then_owes second + paid then_pays (entries_of rounds) ≤ most → times (is_modern second.timing) (2 * length second.pairs + last.next_number + most) ≤ length rounds + 1 + times (is_modern second.timing) second.next_number
                → OffIn Off (entries_of rounds) ⊎ IsReachedIn mac answers rounds found (path_of start p)
            from-second [] found v still passing lasting within enough =
                let some = some-there second.pairs v.pair v.there in
                let same : last.next_number ≡ second.next_number = ap (λ (a : AgentRecord H P). a.next_number) found.run.0 in
                absurd (none-suffices (is_modern second.timing) (length second.pairs) second.next_number last.next_number most some same enough)
            from-second (x ∷ older) found v still passing lasting within enough =
                let began = oldest x older in
                let due : due_time_of began.0 second.timing v.pair ≡ v.timeout = due-at began.0 v.timeout second.timing v.pair v.due in
                subst (λ w. OffIn Off (entries_of (x ∷ older)) ⊎ IsReachedIn mac answers (x ∷ older) found w) v.on
                (reached-unless mac answers Then Off then_owes then_pays then_turns first s log fresh (entries_of (r ∷ []) ++ before) second last (x ∷ older) v.pair by most found (record {
                  at = began.0;
                  began = began.1;
                  line = record {
                    checking = v.checking;
                    queue = v.queue;
                    there = v.there;
                    due = subst (λ d. d ≤ by) (sym due) v.before;
                    settled = inr (ap is_some v.due);
                    young = lt-from (unanswered_count v.pair.checks) second.timing.max_retransmits v.young;
                    lasting = λ valid. v.lasts began.0 (began-lasts x older began.0 began.1 lasting);
                  };
                  passing = passing;
                  lasting = λ y has valid. v.lasts y.now (lasting y has);
                  enough = omega (arith, enough);
                }) (omega (arith, within)) still)

    pub reached-from-due : PairsAreReachedFromDue {H = H} {P = P} mac answers
    reached-from-due first s log fresh before start second last r later p by one others line from comes done between passing lasting enough =
        elim (due-unless (Never mac answers)
        (IsNumbered mac answers (numbers start)) (to_send (numbers start)) (to_select (numbers start)) (numbered-in-turn mac answers (numbers start))
        (IsNumbered mac answers (numbers second)) (to_send (numbers second)) (to_select (numbers second)) (numbered-in-turn mac answers (numbers second))
        first s log fresh before start second last r later p by (nominations_ahead second (selection_count (entries_of later))) one others (lined r.now by start p line) (λ off. off) (λ _ off. off)
        (omega (arith, from)) comes done (λ x has. between x has) (λ x has. passing x has) (λ x has. lasting x has) (of_enough enough) (paid-within second (entries_of later))) [
          | inl (inl (x, has, never)) ↦ absurd never
          | inl (inr (x, has, never)) ↦ absurd never
          | inr reached ↦ reached
        ] where
          ahead : ℕ
          ahead = nominations_ahead second (selection_count (entries_of later))

          of_enough : SufficesFromDue start second last (length later) ahead → SufficesFromDue start second last (length later) ahead
          of_enough (inl few) = inl (omega (arith, few))
          of_enough (inr many) = inr (omega (arith, many))

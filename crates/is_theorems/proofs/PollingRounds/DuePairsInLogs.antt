-- Rounds in a log: a pair that is due is checked in one of them, or answered, before more checks of other pairs are
-- sent than the bound allows.
use Rattle.is_stun.specs.declared.header.Class.TheVariants as class
use Rattle.is_theorems.proofs.Common.{[], ◌*◌, ◌++◌, ◌+◌, ◌<◌, ◌∙◌, ◌∷◌, ◌≡◌, ◌≤◌, ◌⊎◌, AddLocalCandidate, AddRemoteCandidate, AgentRecord}
use Rattle.is_theorems.proofs.Common.{all_scheduled, ap, append_assoc, arith, scheduled, AskedRoundsSelect, began_at, Bool, Brings, Call}
use Rattle.is_theorems.proofs.Common.{CandidateRecord, ChecksIn, consent_of, Done, Ends, entries_of, Entry, Err, false, GivesBased}
use Rattle.is_theorems.proofs.Common.{HandleTimeout, Has, inl, inr, is_in_round, is_modern, is_some, IsAnsweredIn, IsAnsweredOn, IsChecking}
use Rattle.is_theorems.proofs.Common.{IsEndedIn, IsFresh, IsLasting, IsPassing, IsReachedIn, IsSomeAnd, IsSound, issued_as, IsTopPath}
use Rattle.is_theorems.proofs.Common.{length, List, Logged, LoggedRound, loses_selected, MaintainsPairs, map, MAX, MayEnd, MayEndIn, nat_lt}
use Rattle.is_theorems.proofs.Common.{nat_tests, NextTimeoutFrom, NextTimeouts, nominates_at_once, nominations_ahead, None, not, numbers}
use Rattle.is_theorems.proofs.Common.{Ok, Option, PairRecord, PairsAreReached, Part, Path, path_of, PollEvent, PollsTimeout, PollTimeout}
use Rattle.is_theorems.proofs.Common.{PollTransmit, ReceivePacket, refl, Reselects, rising-each, Run, RunsOn, selection_count}
use Rattle.is_theorems.proofs.Common.{SetControlling, SetControlTieBreaker, SetLocalCredentials, SetLocalPreference, SetMaxCandidatePairs}
use Rattle.is_theorems.proofs.Common.{SetMaxCandidates, SetMaxDiscovered, SetMtu, SetRenomination, SetTimingAdvance, Some, Stays, stays_answered, Step}
use Rattle.is_theorems.proofs.Common.{Stream, StunTiming, subst, suc, sym, timeout_begun, true, unanswered_count, unwrap_or, ℕ}
use Rattle.is_theorems.proofs.PathSelection.NominatedByPeer.{asked-are-selected_paths}
use Rattle.is_theorems.proofs.CallEffects.PathAndTradeEffects.{path_theorem}
use Rattle.is_theorems.proofs.CallEffects.AddedCandidates.{by_deadline}
use Rattle.is_theorems.proofs.RuleEffects.UnchangedSettings.{either}
use Rattle.is_theorems.proofs.EarlierChecks.ChecksOfOtherPairs.{all-but, leads, own-le, lead-scheduled, leads-map, leads-others}
use Rattle.is_theorems.proofs.ExecutionLogs.LogTheorems.{runs_sound}
use Rattle.is_theorems.proofs.ExecutionLogs.LogSegments.{no-case, run-on, passed as passed-at}
use Rattle.is_theorems.proofs.ExecutionLogs.SegmentsAsExecutions.{ended-fits, split-ended, split-run}
use Rattle.is_theorems.proofs.EarlierChecks.ChangedPairs.{onward-same}
use Rattle.is_theorems.proofs.EarlierChecks.BetweenTimeouts.{Ground, Goes, goes-to, goes-same, goes-on, nominates-goes, receives-goes}
use Rattle.is_theorems.proofs.DuePairs.FirstDuePair.{due-at, timeout-follows}
use Rattle.is_theorems.proofs.DuePairs.ChecksAhead.{times, calls_left, Falls, calls-added, calls-at-once, calls-in-turn, calls-over}
use Rattle.is_theorems.proofs.EarlierChecks.OneCheckFewer.{Ready, timeout-goes}
use Rattle.is_theorems.proofs.CallEffects.ServedRequests.{Has-mapped}
use Rattle.is_theorems.proofs.DuePairs.PollingCycles.{none-left, maintains_pairs-from, distinct-sound}
use Rattle.is_theorems.proofs.CallEffects.FailedCallsAndNewAgents.{mtu_kept, local_kept, enrolment_kept, storing_kept}
use Rattle.is_theorems.proofs.StoredPairs.PairsThatStay.{none-entered, pairs-stay}
use Rattle.is_theorems.proofs.RuleEffects.SelectedPaths.{one_pair}
use Rattle.is_theorems.proofs.DuePairs.AfterNominationAndRemoval.{Base, Kept, answered-if, answered-on, answered_at, kept_of, last_time_of}
use Rattle.is_theorems.proofs.DuePairs.AfterNominationAndRemoval.{lasts-young}
use Rattle.is_theorems.proofs.EarlierChecks.AddedCandidates.{local-goes, remote-goes}
use Rattle.is_theorems.proofs.DuePairs.NominationsAhead.{to_select, to_send}
use Rattle.is_theorems.proofs.DuePairs.NoNominationDue.{as-is}
use Rattle.is_theorems.proofs.PollingRounds.InTurnAlong.{InTurn, IsNumbered, Never, OffIn, Sufficing, numbered-in-turn, of_rounds}
use Rattle.is_theorems.proofs.PollingRounds.InTurnAlong.{sufficing, turn-along}
use Rattle.is_theorems.proofs.PollingRounds.CountedSelections.{paid, paid-join, paid-within}

lt-is : (n m : ℕ) → n < m → nat_lt n m ≡ true
lt-is n m h = grind (arith, nat_tests, h)

module _ {P : Type 0} where
  falls-late : (m : Bool) (by : ℕ) (r : LoggedRound P) → IsPassing m by r → by < r.now
  falls-late m by r passing = let late = passing.late in omega (arith, late)

  falls-early : (m : Bool) (by : ℕ) (r : LoggedRound P) → IsPassing m by r → r.now < MAX
  falls-early m by r passing = let early = passing.early in omega (arith, early)

-- ---- responses on a path

module _ {P : Type 0} (path : Path) where
  pub answered-later : (x : Logged P) (xs : List (Logged P)) → IsAnsweredIn xs path → IsAnsweredIn (x ∷ xs) path
  answered-later x xs (y, has, is) = (y, inr has, is)

  pub has-front : (xs ys : List (Logged P)) → IsAnsweredIn xs path → IsAnsweredIn (xs ++ ys) path
  has-front [] ys (y, has, is) = absurd has
  has-front (x ∷ xs) ys (y, inl e, is) = (y, inl e, is)
  has-front (x ∷ xs) ys (y, inr has, is) = answered-later x (xs ++ ys) (has-front xs ys (y, has, is))

  pub has-following : (xs ys : List (Logged P)) → IsAnsweredIn ys path → IsAnsweredIn (xs ++ ys) path
  has-following [] ys h = h
  has-following (x ∷ xs) ys h = answered-later x (xs ++ ys) (has-following xs ys h)

  in-entries : (rounds : List (LoggedRound P)) (r : LoggedRound P) → Has rounds r → IsAnsweredIn r.following path → IsAnsweredIn (entries_of rounds) path
  in-entries [] r has answered = absurd has
  in-entries (x ∷ older) r (inl e) answered = has-front x.following (x.timeout ∷ entries_of older) (subst (λ (y : LoggedRound P). IsAnsweredIn y.following path) (sym e) answered)
  in-entries (x ∷ older) r (inr has) answered = has-following x.following (x.timeout ∷ entries_of older) (answered-later x.timeout (entries_of older) (in-entries older r has answered))

  -- an entry of the rear part is one of the whole
  rear : (xs ys : List (Logged P)) (x : Logged P) → Has ys x → Has (xs ++ ys) x
  rear [] ys x h = h
  rear (y ∷ xs) ys x h = inr (rear xs ys x h)

module _ {H P : Type 0} where
  -- `poll_timeout`, called after the time by which the pair is due
  asks-goes : (n by at : ℕ) → by < at → at < MAX → (old new : AgentRecord H P) (deadline : Option ℕ) → old.last_time ≡ Some at → PollsTimeout old deadline new → Goes n by old new
  asks-goes n by at following early old new deadline last h = some deadline (subst (λ o. NextTimeoutFrom o old deadline new) last h) where
    fixed : new ≡ record old { pairs = map (scheduled at old.timing) old.pairs } → Goes n by old new
    fixed made = goes-to n by old _ new (
      refl,
      record {
        less = λ w late. (let le : leads w by (map (scheduled at old.timing) old.pairs) ≤ leads w by old.pairs =
            leads-map w by (scheduled at old.timing) old.pairs (λ y. own-le w by y (scheduled at old.timing y) refl (lead-scheduled w.both by at old.timing y following early)) in
            omega (arith, le));
        fixed = λ d cs le (q, has, is, due, checks).
            (scheduled at old.timing q, Has-mapped (scheduled at old.timing) old.pairs q has, is, ap Some (due-at at d old.timing q due), checks);
      },
    ) made

    some : (deadline : Option ℕ) → IsSomeAnd deadline (λ w. NextTimeouts old at w new) → Goes n by old new
    some None k = absurd k
    some (Some w) k = by_deadline old new at w k (λ made. goes-same n by old new made) (λ made. fixed made)

  -- a candidate is added, and then a path may be selected
  pub reselected-goes : (n by : ℕ) (old mid new : AgentRecord H P) (path : Option Path) → Reselects (loses_selected old mid) mid path new → Goes n by old mid
      → Goes n by old new
  reselected-goes n by old mid new path again g = goes-on n by old mid new g (either (loses_selected old mid) again
      (λ _ k. goes-to n by mid _ new (let l = nominates-goes n by mid k.0 path k.1 in (l.0, l.1)) k.2)
      (λ _ k. goes-same n by mid new k.1))

  -- ---- a pair that waits for its check

  -- before a `handle_timeout` call
  pub record Persists (by n : ℕ) (path : Path) (keeps : ℕ → Bool) (ahead : Bool) (owes : AgentRecord H P → ℕ) (total base now k spent : ℕ) (a : AgentRecord H P) : Type 0 where
    pub checking : IsChecking a
    pub queue : a.queue ≡ []
    pub pair : PairRecord
    pub there : Has a.pairs pair
    pub number : pair.number ≡ n
    pub on : path_of a pair ≡ path
    pub young : nat_lt (unanswered_count pair.checks) a.timing.max_retransmits ≡ true
    pub lasts : (m : ℕ) → keeps m ≡ true → stays_answered (consent_of a.timing) m pair ≡ true
    pub late : by < now
    pub early : now < MAX
    pub ready : Ready now by late early a.timing pair
    pub rules : is_modern a.timing ≡ ahead
    pub count : calls_left ahead a.ahead_turn (leads (all-but n) by a.pairs) + k + times ahead (base + owes a) ≤ total + times ahead (a.next_number + spent)

  -- after it
  pub record Waits (by n : ℕ) (path : Path) (keeps : ℕ → Bool) (ahead : Bool) (owes : AgentRecord H P → ℕ) (total base at k spent : ℕ) (a : AgentRecord H P) : Type 0 where
    pub checking : IsChecking a
    pub queue : a.queue ≡ []
    pub last : a.last_time ≡ Some at
    pub pair : PairRecord
    pub there : Has a.pairs pair
    pub number : pair.number ≡ n
    pub on : path_of a pair ≡ path
    pub young : nat_lt (unanswered_count pair.checks) a.timing.max_retransmits ≡ true
    pub lasts : (m : ℕ) → keeps m ≡ true → stays_answered (consent_of a.timing) m pair ≡ true
    pub timeout : ℕ
    pub before : timeout ≤ by
    pub due : pair.due ≡ Some timeout
    pub rules : is_modern a.timing ≡ ahead
    pub count : calls_left ahead a.ahead_turn (leads (all-but n) by a.pairs) + k + times ahead (base + owes a) ≤ total + times ahead (a.next_number + spent)

  pub persists : (by n : ℕ) (path : Path) (keeps : ℕ → Bool) (ahead : Bool) (owes : AgentRecord H P → ℕ) (total base at k spent now : ℕ) (a : AgentRecord H P) → by < now → now < MAX → Waits by n path keeps ahead owes total base at k spent a
      → Persists by n path keeps ahead owes total base now k spent a
  persists by n path keeps ahead owes total base at k spent now a late early w = record {
    checking = w.checking;
    queue = w.queue;
    pair = w.pair;
    there = w.there;
    number = w.number;
    on = w.on;
    young = w.young;
    lasts = w.lasts;
    late = late;
    early = early;
    ready = (subst (λ d. d ≤ by) (sym (due-at now w.timeout a.timing w.pair w.due)) w.before, inr (ap is_some w.due));
    rules = w.rules;
    count = w.count;
  }

  module _ (mac : H → List ℕ → List ℕ → List ℕ) (answers : P → CandidateRecord → ℕ → ℕ → Type 0) (by n : ℕ) (path : Path) (keeps : ℕ → Bool) (ahead : Bool)
      (owes : AgentRecord H P → ℕ) (pays : Entry → ℕ) (total base : ℕ) where
    -- ---- between two `handle_timeout` calls

    waits-on : (at k spent : ℕ) (e : Entry) → by < at → (old new : AgentRecord H P) (w : Waits by n path keeps ahead owes total base at k spent old) → IsSound new → Goes n by old new → owes new ≤ owes old + pays e → Stays old w.pair new
        → Waits by n path keeps ahead owes total base at k (pays e + spent) new
    waits-on at k spent e following old new w sound (ground, goes) owing stays =
        let at_last : last_time_of old ≡ at = ap (λ o. unwrap_or o 0) w.last in
        let f = goes.fixed w.timeout (kept_of w.pair) (let before = w.before in omega (arith, at_last, before, following)) (w.pair, w.there, w.number, w.due, refl) in
        let one : stays.pair ≡ f.0 = one_pair new.pairs stays.pair f.0 (rising-each new.pairs sound.rising) stays.there f.1 (stays.number ∙ (w.number ∙ sym f.2)) in
        let timing : new.timing ≡ old.timing = ap (λ (g : Ground). g.timing) ground in
        record {
          checking = record {
            full = ap (λ (g : Ground). g.lite) ground ∙ w.checking.full;
            peer = ap (λ (g : Ground). is_some g.remote_creds) ground ∙ w.checking.peer;
          };
          queue = ap (λ (g : Ground). g.queue) ground ∙ w.queue;
          last = ap (λ (g : Ground). g.last_time) ground ∙ w.last;
          pair = f.0;
          there = f.1;
          number = f.2;
          on = ap (λ (q : PairRecord). path_of new q) (sym one) ∙ (stays.path ∙ w.on);
          young = ap (λ (k : Kept). nat_lt (unanswered_count k.0) new.timing.max_retransmits) f.4 ∙ (ap (λ (t : StunTiming). nat_lt (unanswered_count w.pair.checks) t.max_retransmits) timing ∙ w.young);
          lasts = λ m is. answered-on old.timing new.timing m w.pair f.0 timing (ap (λ (k : Kept). k.1) f.4) (w.lasts m is);
          timeout = w.timeout;
          before = w.before;
          due = f.3;
          rules = ap (λ (g : Ground). is_modern g.timing) ground ∙ w.rules;
          count = subst (λ b. calls_left ahead b (leads (all-but n) by new.pairs) + k + times ahead (base + owes new) ≤ total + times ahead (new.next_number + (pays e + spent)))
              (sym (ap (λ (g : Ground). g.ahead_turn) ground))
              (calls-added ahead old.ahead_turn (leads (all-but n) by old.pairs) (leads (all-but n) by new.pairs) (old.next_number + spent) (new.next_number + (pays e + spent)) k (base + owes old) (base + owes new) total
              (let less = goes.less (all-but n) (omega (arith, at_last, following)) in omega (arith, less, owing)) w.count);
        }

    none-more : (a : ℕ) → a ≡ 0 + a
    none-more a = omega arith

    sum-is : (a b c : ℕ) → a + (b + c) ≡ a + b + c
    sum-is a b c = omega arith

    between-goes : (at : ℕ) → by < at → at < MAX → (x : Logged P) (call : Call P) → x.call ≡ call → (old new : AgentRecord H P) (s t : Stream) → is_some old.remote_creds ≡ true → old.last_time ≡ Some at
        → (p : PairRecord) → IsSound old → Has old.pairs p → p.number ≡ n → path_of old p ≡ path → is_in_round ahead call ≡ true → Step mac answers old s call x.entry new t
        → IsAnsweredOn x path ⊎ (MayEnd answers old call x.entry p ⊎ Goes n by old new)
    between-goes at following early x (ReceivePacket now via bytes) called old new s t known last p sound has number on is (h, drawn) =
        elim (receives-goes n by mac answers now old new via path bytes x.entry known
        (λ q there same. (let one : q ≡ p = one_pair old.pairs q p (rising-each old.pairs sound.rising) there has (same ∙ sym number) in ap (λ (y : PairRecord). path_of old y) one ∙ on)) h) [
          | inl (m, reads, flag, success, back) ↦ inl (now, via, m, subst (λ (c : Call P). Brings c x.entry now via m) (sym called) (refl, refl, reads, flag), success, back)
          | inr k ↦ inr (inr k)
        ]
    between-goes at following early x PollTransmit called old new s t known last p sound has number on is (given, emitted, (polled, made), drawn) = inr (inr (goes-to n by old _ new (refl, onward-same n by (last_time_of old) old.pairs old.next_number) made))
    between-goes at following early x PollTimeout called old new s t known last p sound has number on is (deadline, emitted, timed_out, drawn) = inr (inr (asks-goes n by at following early old new deadline last timed_out))
    between-goes at following early x PollEvent called old new s t known last p sound has number on is (given, emitted, (polled, made), drawn) = inr (inr (goes-to n by old _ new (refl, onward-same n by (last_time_of old) old.pairs old.next_number) made))
    between-goes at following early x (AddLocalCandidate c) called old new s t known last p sound has number on is (Ok (Some place), emitted, reported, (named, mid, h, again, emits), drawn) =
        elim (local-goes n by answers old mid c place p sound has number h) [
          | inl ends ↦ inr (inl (ap (λ (e : Entry). e.answer) reported, ends))
          | inr k ↦ inr (inr (reselected-goes n by old mid new named again k))
        ]
    between-goes at following early x (AddLocalCandidate c) called old new s t known last p sound has number on is (Ok None, emitted, reported, (named, mid, h, again, emits), drawn) =
        inr (inr (reselected-goes n by old mid new named again (goes-same n by old mid (none-entered answers old mid c h))))
    between-goes at following early x (AddLocalCandidate c) called old new s t known last p sound has number on is (Err error, emitted, reported, (named, mid, h, again, emits), drawn) =
        inr (inr (reselected-goes n by old mid new named again (goes-same n by old mid (enrolment_kept answers old mid c error h))))
    between-goes at following early x (AddRemoteCandidate c) called old new s t known last p sound has number on is (Ok _, emitted, reported, (named, mid, h, again, emits), drawn) =
        elim (remote-goes n by old mid c p sound has number h) [
          | inl ends ↦ inr (inl (ap (λ (e : Entry). e.answer) reported, ends))
          | inr k ↦ inr (inr (reselected-goes n by old mid new named again k))
        ]
    between-goes at following early x (AddRemoteCandidate c) called old new s t known last p sound has number on is (Err error, emitted, reported, (named, mid, h, again, emits), drawn) =
        inr (inr (reselected-goes n by old mid new named again (goes-same n by old mid (storing_kept old mid c error h))))
    between-goes at following early x (SetMtu target warn) called old new s t known last p sound has number on is (Ok _, reported, h, drawn) = inr (inr (goes-to n by old _ new (refl, onward-same n by (last_time_of old) old.pairs old.next_number) h.1))
    between-goes at following early x (SetMtu target warn) called old new s t known last p sound has number on is (Err error, reported, h, drawn) = inr (inr (goes-same n by old new (mtu_kept old new target warn error h)))
    between-goes at following early x (SetLocalCredentials creds) called old new s t known last p sound has number on is (Ok _, reported, h, drawn) = inr (inr (goes-to n by old _ new (refl, onward-same n by (last_time_of old) old.pairs old.next_number) h.1))
    between-goes at following early x (SetLocalCredentials creds) called old new s t known last p sound has number on is (Err error, reported, h, drawn) = inr (inr (goes-same n by old new (local_kept old new creds error h)))
    between-goes at following early x (SetControlTieBreaker tie) called old new s t known last p sound has number on is (reported, made, drawn) = inr (inr (goes-to n by old _ new (refl, onward-same n by (last_time_of old) old.pairs old.next_number) made))
    between-goes at following early x (SetMaxCandidatePairs k) called old new s t known last p sound has number on is (reported, made, drawn) = inr (inr (goes-to n by old _ new (refl, onward-same n by (last_time_of old) old.pairs old.next_number) made))
    between-goes at following early x (SetMaxDiscovered limit) called old new s t known last p sound has number on is (reported, made, drawn) = inr (inr (goes-to n by old _ new (refl, onward-same n by (last_time_of old) old.pairs old.next_number) made))
    between-goes at following early x (SetMaxCandidates limit) called old new s t known last p sound has number on is (reported, made, drawn) = inr (inr (goes-to n by old _ new (refl, onward-same n by (last_time_of old) old.pairs old.next_number) made))
    between-goes at following early x (SetRenomination renominates) called old new s t known last p sound has number on is (reported, made, drawn) =
        inr (inr (goes-to n by old _ new (refl, onward-same n by (last_time_of old) old.pairs old.next_number) made))
    between-goes at following early x (SetTimingAdvance advance) called old new s t known last p sound has number on is (reported, made, drawn) = inr (inr (goes-to n by old _ new (refl, onward-same n by (last_time_of old) old.pairs old.next_number) made))
    between-goes at following early x (SetLocalPreference object) called old new s t known last p sound has number on is (reported, made, drawn) = inr (inr (goes-to n by old _ new (refl, onward-same n by (last_time_of old) old.pairs old.next_number) made))
    between-goes at following early x (SetControlling controlling) called old new s t known last p sound has number on is (reported, made, drawn) = inr (inr (goes-to n by old _ new (refl, onward-same n by (last_time_of old) old.pairs old.next_number) made))
    between-goes at following early x _ called old new s t known last p sound has number on is step = no-case is

    module _ (owing : (call : Call P) (e : Entry) (old new : AgentRecord H P) (s t : Stream) → is_in_round (is_modern old.timing) call ≡ true → Step mac answers old s call e new t → owes new ≤ owes old + pays e)
        (first : AgentRecord H P) (s : Stream) (fresh : IsFresh first) where
      sound-at : (log : List (Logged P)) (a : AgentRecord H P) (t : Stream) → Run mac answers first s log a t → IsSound a
      sound-at log a t run = runs_sound mac answers (path_theorem mac answers) first a s t log fresh run

      pub walk : (at k spent : ℕ) → by < at → at < MAX → (before : List (Logged P)) (start last : AgentRecord H P) (u t : Stream) (xs : List (Logged P)) → ((x : Logged P) → Has xs x → is_in_round ahead x.call ≡ true)
          → Run mac answers first s before start u → (run : RunsOn mac answers before start u xs last t) → Waits by n path keeps ahead owes total base at k spent start
          → IsAnsweredIn xs path ⊎ (IsEndedIn mac answers before start u xs last t run path ⊎ (Goes n by start last × Waits by n path keeps ahead owes total base at k (paid pays xs + spent) last))
      walk at k spent following early before start last u t [] fits led (is, same) w = inr (inr (
        goes-same n by start last is,
        subst (λ (a : AgentRecord H P). Waits by n path keeps ahead owes total base at k (0 + spent) a) (sym is)
            (subst (λ n_spent. Waits by n path keeps ahead owes total base at k n_spent start) (none-more spent) w),
      ))
      walk at k spent following early before start last u t (x ∷ xs) fits led (mid, v, run, number, given, step) w =
          elim (walk at k spent following early before start mid u v xs (λ y has. fits y (inr has)) led run w) [
            | inl answered ↦ inl (answered-later path x xs answered)
            | inr (inl ended) ↦ inr (inl (inr ended))
            | inr (inr (g, m)) ↦
                (let here = run-on mac answers first start mid s u v before xs led run in
                let sound = sound-at (xs ++ before) mid v here in
                let sound_last = sound-at (x ∷ (xs ++ before)) last t (mid, v, here, number, given, step) in
                let ends-here : MayEnd answers mid x.call x.entry m.pair → Ends answers mid x.call x.entry path = λ ends. (m.pair, m.there, (ap (λ (w : Path). w.source) m.on, ap (λ (w : Path). w.destination) m.on), ends) in
                elim (between-goes at following early x x.call refl mid last v t m.checking.peer m.last m.pair sound m.there m.number m.on (fits x (inl refl)) step) [
                  | inl answered ↦ inl (x, inl refl, answered)
                  | inr (inl ends) ↦ inr (inl (inl (ended-fits answers ahead mid x.call x.entry path (fits x (inl refl)) (ends-here ends), ends-here ends)))
                  | inr (inr goes) ↦ elim (pairs-stay mac answers mid last v t x.call x.entry m.pair sound given step m.there) [
                    | inl stays ↦ inr (inr (
                      goes-on n by start mid last g goes,
                      subst (λ n_spent. Waits by n path keeps ahead owes total base at k n_spent last) (sum-is (pays x.entry) (paid pays xs) spent)
                          (waits-on at k (paid pays xs + spent) x.entry following mid last m sound_last goes (owing x.call x.entry mid last v t (as-is ahead (is_modern mid.timing) x.call m.rules (fits x (inl refl))) step) stays),
                    ))
                    | inr ends ↦ inr (inl (inl (ended-fits answers ahead mid x.call x.entry path (fits x (inl refl)) (ends-here ends), ends-here ends)))
                  ]
                ])
          ]

    -- ---- a `handle_timeout` call

    pub timeout-on : (now k spent : ℕ) (e : Entry) (old new : AgentRecord H P) (s t : Stream) → e.answer ≡ Done → Step mac answers old s (HandleTimeout now) e new t → IsSound old → IsSound new
        → Persists by n path keeps ahead owes total base now k spent old → owes new ≤ owes old + pays e
        → ((h : MaintainsPairs mac now (timeout_begun now old) s e.emitted new t) → nominates_at_once (all_scheduled now h.4) ≡ true → owes new + 1 ≤ owes old + pays e) → keeps now ≡ true
        → ((id : List ℕ) × (e.emitted.issued ≡ Some (issued_as path class.Request id))) ⊎ Waits by n path keeps ahead owes total base now (suc k) (pays e + spent) new
    timeout-on now k spent e old new s t done step sound sound_new st owing at_once lasting =
        let h = passed-at mac answers old new s t now e done step in
        let p = maintains_pairs-from mac now old s t e.emitted new st.queue h in
        let m = timeout-follows mac now (timeout_begun now old) new s t e.emitted st.checking.peer st.checking.full p in
        elim (timeout-goes now by st.late st.early mac (timeout_begun now old) new s t e.emitted st.checking.peer st.checking.full (distinct-sound mac old sound) sound.checks st.pair st.there (st.lasts now lasting) st.young st.ready p) [
          | inl (id, out) ↦ inl (id, out ∙ ap (λ w. Some (issued_as w class.Request id)) st.on)
          | inr (d, before, (q, has, is, due, checks), fewer, falls) ↦
              (let stays : Stays old st.pair new = elim (pairs-stay mac answers old new s t (HandleTimeout now) e st.pair sound tt step st.there) [
                | inl x ↦ x
                | inr (was_done, none, gone) ↦ (let no : false ≡ true = ap not (sym gone) ∙ lasts-young now old st.pair st.checking.full (st.lasts now lasting) st.young in absurd (cc))
              ] in
              let one : stays.pair ≡ q = one_pair new.pairs stays.pair q (rising-each new.pairs sound_new.rising) stays.there has (stays.number ∙ sym is) in
              let next : new.next_number ≡ old.next_number = ap (λ (b : Base). b.next_number) m.0 in
              let timing : new.timing ≡ old.timing = ap (λ (b : Base). b.timing) m.0 in
              let fewer_for : leads (all-but n) by new.pairs ≤ leads (all-but n) by old.pairs = fewer (all-but n) in
              let falls_for : nominates_at_once (all_scheduled now p.4) ≡ false → Falls ahead old.ahead_turn new.ahead_turn (leads (all-but n) by old.pairs) (leads (all-but n) by new.pairs) =
              λ in_turn. subst (λ b. Falls b old.ahead_turn new.ahead_turn (leads (all-but n) by old.pairs) (leads (all-but n) by new.pairs)) st.rules
              (subst (λ i. Falls (is_modern old.timing) old.ahead_turn new.ahead_turn (leads (all-but i) by old.pairs) (leads (all-but i) by new.pairs)) st.number (falls in_turn)) in
              inr (record {
                checking = record {
                  full = ap (λ (b : Base). b.lite) m.0 ∙ st.checking.full;
                  peer = ap (λ (b : Base). is_some b.remote_creds) m.0 ∙ st.checking.peer;
                };
                queue = ap (λ (b : Base). b.queue) m.0 ∙ none-left now old.timing old.remote_creds old.queue st.queue;
                last = ap (λ (b : Base). b.last_time) m.0;
                pair = q;
                there = has;
                number = is ∙ st.number;
                on = ap (λ (x : PairRecord). path_of new x) (sym one) ∙ (stays.path ∙ st.on);
                young = ap (λ (k : Kept). nat_lt (unanswered_count k.0) new.timing.max_retransmits) checks ∙ (ap (λ (z : StunTiming). nat_lt (unanswered_count st.pair.checks) z.max_retransmits) timing ∙ st.young);
                lasts = λ m is. answered-on old.timing new.timing m st.pair q timing (ap (λ (k : Kept). k.1) checks) (st.lasts m is);
                timeout = d;
                before = before;
                due = due;
                rules = ap (λ (b : Base). is_modern b.timing) m.0 ∙ st.rules;
                count = counted-on next fewer_for (nominates_at_once (all_scheduled now p.4)) falls_for (λ due. at_once p due);
              }))
        ] where
          -- the check is in turn, or sends a nomination at once
          counted-on : new.next_number ≡ old.next_number → leads (all-but n) by new.pairs ≤ leads (all-but n) by old.pairs → (b : Bool)
              → (b ≡ false → Falls ahead old.ahead_turn new.ahead_turn (leads (all-but n) by old.pairs) (leads (all-but n) by new.pairs)) → (b ≡ true → owes new + 1 ≤ owes old + pays e)
              → calls_left ahead new.ahead_turn (leads (all-but n) by new.pairs) + suc k + times ahead (base + owes new) ≤ total + times ahead (new.next_number + (pays e + spent))
          counted-on next fewer false falls less =
              calls-in-turn ahead old.ahead_turn new.ahead_turn (leads (all-but n) by old.pairs) (leads (all-but n) by new.pairs) (old.next_number + spent) (new.next_number + (pays e + spent)) k (base + owes old) (base + owes new) total
              (falls refl) (omega (arith, next, owing)) st.count
          counted-on next fewer true falls less =
              let k_less = less refl in
              calls-at-once ahead old.ahead_turn new.ahead_turn (leads (all-but n) by old.pairs) (leads (all-but n) by new.pairs) (old.next_number + spent) (new.next_number + (pays e + spent)) k (base + owes old) (base + owes new) total
              fewer (omega (arith, next, k_less)) st.count

    -- ---- rounds

    abbrev Reached : List (LoggedRound P) → Type 0
    Reached rounds = ChecksIn rounds path ⊎ IsAnsweredIn (entries_of rounds) path

    reached-later : (r : LoggedRound P) (older : List (LoggedRound P)) → Reached older → Reached (r ∷ older)
    reached-later r older (inl (x, id, has, out)) = inl (x, id, inr has, out)
    reached-later r older (inr answered) = inr (has-following path r.following (r.timeout ∷ entries_of older) (answered-later path r.timeout (entries_of older) answered))

    module _ (Keeps : AgentRecord H P → Type 0) (Off : Call P → Entry → Type 0) (turns : InTurn mac answers Keeps Off owes pays)
        (first : AgentRecord H P) (s : Stream) (fresh : IsFresh first) (before : List (Logged P)) (start : AgentRecord H P) (u : Stream) (led : Run mac answers first s before start u) (at : ℕ)
        (start-keeps : Keeps start) (same_rules : is_modern start.timing ≡ ahead) (begin : (late : by < at) (early : at < MAX) → Persists by n path keeps ahead owes total base at 0 0 start) where
      abbrev WaitsAfter : List (LoggedRound P) → AgentRecord H P → Type 0
      WaitsAfter [] a = a ≡ start
      WaitsAfter (r ∷ older) a = Waits by n path keeps ahead owes total base r.now (length (r ∷ older)) (paid pays (entries_of (r ∷ older))) a

      some-is : (x y : ℕ) → Some x ≡ Some y → x ≡ y
      some-is x y e = cc

      persists-at : (r : LoggedRound P) (older : List (LoggedRound P)) (old : AgentRecord H P) → began_at (r ∷ older) ≡ Some at → IsPassing ahead by r → WaitsAfter older old
          → Persists by n path keeps ahead owes total base r.now (length older) (paid pays (entries_of older)) old
      persists-at r [] old began passing same =
          let now : r.now ≡ at = some-is r.now at began in
          let late : by < r.now = falls-late ahead by r passing in
          let early : r.now < MAX = falls-early ahead by r passing in
          subst (λ (a : AgentRecord H P). Persists by n path keeps ahead owes total base r.now 0 0 a) (sym same)
          (subst (λ m. Persists by n path keeps ahead owes total base m 0 0 start) (sym now) (begin (omega (arith, late, now)) (omega (arith, early, now))))
      persists-at r (x ∷ older) old began passing w = persists by n path keeps ahead owes total base x.now (length (x ∷ older)) (paid pays (entries_of (x ∷ older))) r.now old (falls-late ahead by r passing) (falls-early ahead by r passing) w

      older-began : (r : LoggedRound P) (rs : List (LoggedRound P)) → began_at (r ∷ rs) ≡ Some at → (rs ≡ [] ⊎ began_at rs ≡ Some at)
      older-began r [] is = inl refl
      older-began r (x ∷ rs) is = inr is

      rounds-go : (rounds : List (LoggedRound P)) (last : AgentRecord H P) (t : Stream) → (rounds ≡ [] ⊎ began_at rounds ≡ Some at) → ((r : LoggedRound P) → Has rounds r → IsPassing ahead by r)
          → ((r : LoggedRound P) → Has rounds r → keeps r.now ≡ true) → (run : RunsOn mac answers before start u (entries_of rounds) last t)
          → OffIn Off (entries_of rounds) ⊎ (Reached rounds ⊎ (IsEndedIn mac answers before start u (entries_of rounds) last t run path ⊎ WaitsAfter rounds last))
      rounds-go [] last t began are lasting (is, same) = inr (inr (inr is))
      rounds-go (r ∷ older) last t began are lasting run =
          let h = split-run mac answers before start last u t r.following (r.timeout ∷ entries_of older) run in
          elim (on-halves (here-began began) h (rounds-go older h.2.0 h.2.1 (older-began r older (here-began began)) (λ x has. are x (inr has)) (λ x has. lasting x (inr has)) h.2.2)) [
            | inl off ↦ inl off
            | inr (inl reached) ↦ inr (inl reached)
            | inr (inr (inl ended)) ↦ inr (inr (inl (split-ended mac answers path before start last u t r.following (r.timeout ∷ entries_of older) run ended)))
            | inr (inr (inr waits)) ↦ inr (inr (inr waits))
          ] where
            here-began : (r ∷ older ≡ [] ⊎ began_at (r ∷ older) ≡ Some at) → began_at (r ∷ older) ≡ Some at
            here-began (inl empty) = absurd (cc)
            here-began (inr is) = is

            in-turn : began_at (r ∷ older) ≡ Some at → (mid : AgentRecord H P) (v : Stream) (old : AgentRecord H P) (z : Stream) → (run_older : RunsOn mac answers before start u (entries_of older) old z)
                → (number : r.timeout.number ≡ length (entries_of older ++ before)) → (given : GivesBased r.timeout.call) → (step : Step mac answers old z r.timeout.call r.timeout.entry mid v)
                → (back : RunsOn mac answers ((r.timeout ∷ entries_of older) ++ before) mid v r.following last t) → WaitsAfter older old → Keeps old
                → Reached (r ∷ older)
                ⊎ ((IsEndedIn mac answers ((r.timeout ∷ entries_of older) ++ before) mid v r.following last t back path
                ⊎ IsEndedIn mac answers before start u (r.timeout ∷ entries_of older) mid v (old, z, run_older, number, given, step) path)
                ⊎ Waits by n path keeps ahead owes total base r.now (length (r ∷ older)) (paid pays (entries_of (r ∷ older))) last)
            in-turn began mid v old z run_older number given step back w still =
                let passing = are r (inl refl) in
                let led_old = run-on mac answers first start old s u z before (entries_of older) led run_older in
                let led_mid = run-on mac answers first start mid s u v before (r.timeout ∷ entries_of older) led (old, z, run_older, number, given, step) in
                let called : Step mac answers old z (HandleTimeout r.now) r.timeout.entry mid v = subst (λ (c : Call P). Step mac answers old z c r.timeout.entry mid v) passing.comes step in
                let st = persists-at r older old began passing w in
                elim (timeout-on r.now (length older) (paid pays (entries_of older)) r.timeout.entry old mid z v passing.done called
                (sound-at turns.owing first s fresh (entries_of older ++ before) old z led_old) (sound-at turns.owing first s fresh ((r.timeout ∷ entries_of older) ++ before) mid v led_mid)
                st (turns.owing_timeout r.now r.timeout.entry old mid z v called) (λ h due. turns.at_once r.now r.timeout.entry old mid z v st.checking.peer st.checking.full still h due) (lasting r (inl refl))) [
                  | inl (id, out) ↦ inl (inl (r, id, inl refl, out))
                  | inr still_waits ↦
                      elim (walk turns.owing first s fresh r.now (length (r ∷ older)) (paid pays (r.timeout ∷ entries_of older)) (falls-late ahead by r passing) (falls-early ahead by r passing) ((r.timeout ∷ entries_of older) ++ before) mid last v t r.following passing.between led_mid back still_waits) [
                        | inl answered ↦ inl (inr (has-front path r.following (r.timeout ∷ entries_of older) answered))
                        | inr (inl ended) ↦ inr (inl (inl ended))
                        | inr (inr (goes, waits)) ↦ inr (inr (subst (λ k. Waits by n path keeps ahead owes total base r.now (length (r ∷ older)) k last) (sym (paid-join pays r.following (r.timeout ∷ entries_of older))) waits))
                      ]
                ]

            on-halves : began_at (r ∷ older) ≡ Some at
                → (h : (mid : AgentRecord H P) × (v : Stream) × RunsOn mac answers before start u (r.timeout ∷ entries_of older) mid v
                × RunsOn mac answers ((r.timeout ∷ entries_of older) ++ before) mid v r.following last t)
                → OffIn Off (entries_of older) ⊎ (Reached older ⊎ (IsEndedIn mac answers before start u (entries_of older) h.2.0 h.2.1 h.2.2 path ⊎ WaitsAfter older h.2.0))
                → OffIn Off (entries_of (r ∷ older)) ⊎ (Reached (r ∷ older)
                ⊎ ((IsEndedIn mac answers ((r.timeout ∷ entries_of older) ++ before) h.0 h.1 r.following last t h.3 path ⊎ IsEndedIn mac answers before start u (r.timeout ∷ entries_of older) h.0 h.1 h.2 path)
                ⊎ Waits by n path keeps ahead owes total base r.now (length (r ∷ older)) (paid pays (entries_of (r ∷ older))) last))
            on-halves began (mid, v, (old, z, run_older, number, given, step), back) so_far =
                elim so_far [
                  | inl off ↦ inl (off-older off)
                  | inr (inl reached) ↦ inr (inl (reached-later r older reached))
                  | inr (inr (inl ended)) ↦ inr (inr (inl (inr (inr ended))))
                  | inr (inr (inr w)) ↦
                      elim (turn-along mac answers Keeps Off owes pays turns first s fresh before start old u z (entries_of older) (of_rounds (is_modern start.timing) by older (λ x has. subst (λ b. IsPassing b by x) (sym same_rules) (are x (inr has)))) led run_older start-keeps) [
                        | inl off ↦ inl (off-older off)
                        | inr still ↦ inr (in-turn began mid v old z run_older number given step back w still)
                      ]
                ] where
                  off-older : OffIn Off (entries_of older) → OffIn Off (entries_of (r ∷ older))
                  off-older (x, has, off) = (x, rear path r.following (r.timeout ∷ entries_of older) x (inr has), off)

  module _ (mac : H → List ℕ → List ℕ → List ℕ) (answers : P → CandidateRecord → ℕ → ℕ → Type 0) where
    -- a pair that is not valid never got a response
    pub lasts-at : (first : AgentRecord H P) (s : Stream) (log : List (Logged P)) → IsFresh first → (before : List (Logged P)) (start last : AgentRecord H P) (part : List (Logged P)) (p : PairRecord)
        → Part mac answers first s log before start part last → Has start.pairs p → (m : ℕ) → IsLasting m start p → answered_at start p m ≡ true
    lasts-at first s log fresh before start last part p found there m lasting =
        answered-if start p m (runs_sound mac answers (path_theorem mac answers) first start s found.at before fresh found.led) there lasting

    -- a pair is reached in the rounds, unless a call turns it off
    pub reached-unless : (Keeps : AgentRecord H P → Type 0) (Off : Call P → Entry → Type 0) (owes : AgentRecord H P → ℕ) (pays : Entry → ℕ) → InTurn mac answers Keeps Off owes pays → (first : AgentRecord H P) (s : Stream) (log : List (Logged P)) → IsFresh first
        → (before : List (Logged P)) (start last : AgentRecord H P) (rounds : List (LoggedRound P)) (p : PairRecord) (by most : ℕ) → (found : Part mac answers first s log before start (entries_of rounds) last)
        → Sufficing by most start rounds last p → owes start + paid pays (entries_of rounds) ≤ most → Keeps start → OffIn Off (entries_of rounds) ⊎ IsReachedIn mac answers rounds found (path_of start p)
    reached-unless Keeps Off owes pays turns first s log fresh before start last rounds p by most found f within start-keeps =
        by-rounds (IsEndedIn mac answers before start found.at (entries_of rounds) last found.following found.run (path_of start p)) rounds f.began (omega (arith, within)) (let enough = f.enough in omega (arith, enough))
        (rounds-go mac answers by p.number (path_of start p) (answered_at start p) (is_modern start.timing) owes pays total start.next_number Keeps Off turns first s fresh before start found.at found.led f.at start-keeps refl begin rounds last found.following (inr f.began) f.passing (λ r has. lasts-at first s log fresh before start last (entries_of rounds) p found f.line.there r.now (search (f.lasting r has))) found.run) where
          total : ℕ
          total = calls_left (is_modern start.timing) start.ahead_turn (leads (all-but p.number) by start.pairs) + times (is_modern start.timing) (owes start)

          begin : (late : by < f.at) (early : f.at < MAX) → Persists by p.number (path_of start p) (answered_at start p) (is_modern start.timing) owes total start.next_number f.at 0 0 start
          begin late early = record {
            checking = f.line.checking;
            queue = f.line.queue;
            pair = p;
            there = f.line.there;
            number = refl;
            on = refl;
            young = lt-is (unanswered_count p.checks) start.timing.max_retransmits (let young = f.line.young in omega (arith, young));
            lasts = λ m is. is;
            late = late;
            early = early;
            ready = (let due = f.line.due in omega (arith, due), f.line.settled);
            rules = refl;
            count = at-first (is_modern start.timing) (calls_left (is_modern start.timing) start.ahead_turn (leads (all-but p.number) by start.pairs)) start.next_number (owes start);
          } where
            at-first : (ahead : Bool) (x i j : ℕ) → x + 0 + times ahead (i + j) ≤ x + times ahead j + times ahead (i + 0)
            at-first true x i j = omega arith
            at-first false x i j = omega arith

          by-rounds : (Gone : Type 0) (rs : List (LoggedRound P)) → began_at rs ≡ Some f.at
              → owes start + paid pays (entries_of rs) ≤ most → times (is_modern start.timing) (2 * length start.pairs + last.next_number + most) ≤ length rs + 1 + times (is_modern start.timing) start.next_number
              → OffIn Off (entries_of rs) ⊎ (Reached mac answers by p.number (path_of start p) (answered_at start p) (is_modern start.timing) owes pays total start.next_number rs
              ⊎ (Gone ⊎ WaitsAfter mac answers by p.number (path_of start p) (answered_at start p) (is_modern start.timing) owes pays total start.next_number Keeps Off turns first s fresh before start found.at found.led f.at start-keeps refl begin rs last))
              → OffIn Off (entries_of rs) ⊎ (ChecksIn rs (path_of start p) ⊎ (IsAnsweredIn (entries_of rs) (path_of start p) ⊎ Gone))
          by-rounds Gone rs none within enough (inl off) = inl off
          by-rounds Gone rs none within enough (inr (inl (inl checks))) = inr (inl checks)
          by-rounds Gone rs none within enough (inr (inl (inr answered))) = inr (inr (inl answered))
          by-rounds Gone rs none within enough (inr (inr (inl gone))) = inr (inr (inr gone))
          by-rounds Gone [] none within enough (inr (inr (inr w))) = absurd (cc)
          by-rounds Gone (r ∷ older) began within enough (inr (inr (inr w))) =
              absurd (calls-over (is_modern start.timing) start.ahead_turn last.ahead_turn (leads (all-but p.number) by start.pairs) (leads (all-but p.number) by last.pairs) (length start.pairs) start.next_number last.next_number
              (length (r ∷ older)) (owes start) (paid pays (entries_of (r ∷ older))) (owes last) most w.count within (leads-others by start.pairs p f.line.there) enough)

    pub pairs-are-reached : PairsAreReached {H = H} {P = P} mac answers
    pairs-are-reached first s log fresh before start last rounds p by found f =
        elim (reached-unless (IsNumbered mac answers (numbers start)) (Never mac answers) (to_send (numbers start)) (to_select (numbers start)) (numbered-in-turn mac answers (numbers start)) first s log fresh before start last rounds p by
        (nominations_ahead start (selection_count (entries_of rounds))) found (sufficing by start rounds last p f) (paid-within start (entries_of rounds)) (λ off. off)) [
          | inl (x, has, never) ↦ absurd never
          | inr reached ↦ reached
        ]

    -- what may end the pair is an entry of the log
    ended-may : (first : AgentRecord H P) (s : Stream) (log part before : List (Logged P)) (start : AgentRecord H P) (u : Stream) (path : Path) → Run mac answers first s before start u
        → (over xs : List (Logged P)) (last : AgentRecord H P) (t : Stream) → log ≡ over ++ (xs ++ before) → ((x : Logged P) → Has xs x → Has part x)
        → (run : RunsOn mac answers before start u xs last t) → IsEndedIn mac answers before start u xs last t run path → MayEndIn mac answers first s log part path
    ended-may first s log part before start u path led over [] last t split within run none = absurd none
    ended-may first s log part before start u path led over (x ∷ xs) last t split within (mid, v, run, number, given, step) (inr ended) =
        ended-may first s log part before start u path led (over ++ x ∷ []) xs mid v (split ∙ sym (append_assoc over (x ∷ []) (xs ++ before))) (λ y has. within y (inr has)) run ended
    ended-may first s log part before start u path led over (x ∷ xs) last t split within (mid, v, run, number, given, step) (inl (called, (q, has, joins, ends))) = (
      xs ++ before,
      mid,
      last,
      x,
      q,
      record { rest = over; split = split; at = v; led = run-on mac answers first start mid s u v before xs led run; number = number; given = given; following = t; step = step },
      within x (inl refl),
      has,
      joins,
      ends,
    )

    pub asked-rounds-select : AskedRoundsSelect {H = H} {P = P} mac answers
    asked-rounds-select first s log fresh before start last rounds timeout now p by found f met asks comes done none only_pair =
        elim (pairs-are-reached first s log fresh before start found.run.0 rounds p by part f) [
          | inl (r, id, has, out) ↦ selected_paths (in-entries (path_of start p) rounds r has (met r has id out))
          | inr (inl is) ↦ selected_paths is
          | inr (inr ended) ↦
              inr (ended-may first s log (timeout ∷ entries_of rounds) before start found.at (path_of start p) found.led part.rest (entries_of rounds) found.run.0 found.run.1 part.split (λ x has. inr has) found.run.2 ended)
        ] where
          part : Part mac answers first s log before start (entries_of rounds) found.run.0
          part = record {
            rest = found.rest ++ timeout ∷ [];
            split = found.split ∙ sym (append_assoc found.rest (timeout ∷ []) (entries_of rounds ++ before));
            at = found.at;
            led = found.led;
            following = found.run.1;
            run = found.run.2;
          }

          selected_paths : IsAnsweredIn (entries_of rounds) (path_of start p) → IsTopPath mac answers (timeout ∷ (entries_of rounds ++ before)) last ⊎ MayEndIn mac answers first s log (timeout ∷ entries_of rounds) (path_of start p)
          selected_paths answered = asked-are-selected_paths mac answers first s log fresh before (entries_of rounds) start last timeout now (path_of start p) found comes done none asks answered only_pair

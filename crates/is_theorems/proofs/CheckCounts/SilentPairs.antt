-- In an execution each pair without a response is on schedule while no request arrives on it.
use Rattle.is_theorems.proofs.Common.{[], ◌&&◌, ◌<◌, ◌==◌, ◌∙◌, ◌∷◌, ◌≡◌, ◌≤◌, ◌⊎◌, added, AddLocalCandidate, AddRemoteCandidate, AddsLocal}
use Rattle.is_theorems.proofs.Common.{AddsRemote, AgentRecord, Answer, answer_by, ap, AreInOrder, arith, scheduled, at_request, at_timeout}
use Rattle.is_theorems.proofs.Common.{BeforeEach, Bool, Call, CandidateRecord, Combination, Done, done, Emitted, emptied, Entry, Err, false}
use Rattle.is_theorems.proofs.Common.{filter, first_taken, Flag, FormsAll, gives_way, HandleTimeout, Has, hastened, IceError, if◌then◌else◌}
use Rattle.is_theorems.proofs.Common.{inl, inr, InvalidateCandidate, Invalidates, InvalidatesAt, is_local_at, is_possible, is_remote_at}
use Rattle.is_theorems.proofs.Common.{is_timeout, is_valid, IsBrought, IsServing, IsSound, IsTimedBy, List, local_discarded}
use Rattle.is_theorems.proofs.Common.{local_to_discard, Logged, loses_selected, MaintainsPairs, map, MatchOption, MAX, max, MayDo}
use Rattle.is_theorems.proofs.Common.{MaySelect, NextTimeoutFrom, None, not, Ok, Option, PairRecord, Path, path_left, PathEffect, PollEvent}
use Rattle.is_theorems.proofs.Common.{PollsTimeout, PollTimeout, PollTransmit, ReceivePacket, RecreateCandidatePairs, Recreates, refl}
use Rattle.is_theorems.proofs.Common.{remote_discarded, remote_to_discard, request_at, RequestRecord, RestartIce, Restarts, Result}
use Rattle.is_theorems.proofs.Common.{ServesQueued, SetConsent, SetControlling, SetControlTieBreaker, SetIceLite, SetInitialStunRto}
use Rattle.is_theorems.proofs.Common.{SetLiteTimeout, SetLocalCredentials, SetLocalPreference, SetMaxCandidatePairs, SetMaxCandidates, SetMaxDiscovered}
use Rattle.is_theorems.proofs.Common.{SetMaxStunRetransmits, SetMaxStunRto, SetMtu, SetProfile, SetRemoteCredentials, SetRenomination}
use Rattle.is_theorems.proofs.Common.{SetsLocal, SetsMtu, SetsRemote, SetTimingAdvance, SharedRun, silent_gone, SkipPairIds, Some, Step}
use Rattle.is_theorems.proofs.Common.{Stream, StunTiming, subst, sym, time_after, time_of, timeout_begun, true, undue, unwrap_or, ℕ}
use Rattle.is_theorems.proofs.CallEffects.AddedCandidates.{by_adding_local, by_adding_remote, by_deadline}
use Rattle.is_theorems.proofs.CallEffects.FailedCallsAndNewAgents.{mtu_kept, local_kept, remote_kept, restart_kept, recreation_kept}
use Rattle.is_theorems.proofs.CallEffects.FailedCallsAndNewAgents.{enrolment_kept, storing_kept}
use Rattle.is_theorems.proofs.CallEffects.PathAndTradeEffects.{path_theorem}
use Rattle.is_theorems.proofs.CheckCounts.IssuedChecks.{timeout-timed}
use Rattle.is_theorems.proofs.CheckCounts.Bounds.{Bound, Ends, IsPastRequest}
use Rattle.is_theorems.proofs.CheckCounts.KeptPairs.{IsKept, IsOfSilent, forms-kept, expires-kept, kept-filter, kept-map, nominates-kept}
use Rattle.is_theorems.proofs.CheckCounts.KeptPairs.{received-kept, reselects-kept, serves-kept, unless-kept}
use Rattle.is_theorems.proofs.CheckCounts.LastTimes.{last-stays}
use Rattle.is_theorems.proofs.CheckCounts.FollowedPairs.{IsOnSchedule, scheduled-at, later-on, of-silent}
use Rattle.is_theorems.proofs.CheckCounts.PastTimes.{Watch}
use Rattle.is_theorems.proofs.PathSelection.SelectedPairIsNominated.{IsNamed, names-next}
use Rattle.is_theorems.proofs.PunctualTimeouts.UnchangedPacing.{Pace, expires-same, maintains as maintains-same, nominates-same}
use Rattle.is_theorems.proofs.RuleEffects.UnchangedSettings.{either}
use Rattle.is_theorems.proofs.CheckCounts.SilentTimeouts.{no-case, is_poll, latest, left-possible, checks-on}
use Rattle.is_theorems.proofs.RuleEffects.HastenedPairs.{only-due, Hastens}
use Rattle.is_theorems.proofs.RuleEffects.UnhastenedPairs.{invalid-stays}

module _ {H P : Type 0} where
  -- ---- calls

  module _ (mac : H → List ℕ → List ℕ → List ℕ) (answers : P → CandidateRecord → ℕ → ℕ → Type 0) (t : StunTiming) (bound : Bound) (ends : Ends t bound) (o : Option Watch) (floor : ℕ)
      (apart : (w : Watch) → o ≡ Some w → (w.number < floor) × (w.requests < MAX)) (fits : (w : Watch) → o ≡ Some w → (w.requests ≡ 0) ⊎ IsPastRequest t bound) where
    -- each pair is on schedule: the last check was sent by the first time, and nothing is later than the second
    abbrev On : ℕ → ℕ → PairRecord → Type 0
    On by clock = IsOnSchedule t bound o by clock

    abbrev At : ℕ → ℕ → AgentRecord H P → Type 0
    At by clock a = IsKept floor clock (On by clock) a.next_number a.pairs

    raised : (by clock at later : ℕ) (a : AgentRecord H P) → by ≤ at → clock ≤ later → At by clock a → At at later a
    raised by clock at later a le less k = record { rising = k.rising; below = k.below; each = λ p has. later-on t bound o by clock at later p le less (k.each p has); low = k.low }

    module _ (by clock : ℕ) where
      abbrev rule : IsOfSilent floor clock (On by clock)
      rule = of-silent t bound o floor by clock apart

      made-at : (needed new : AgentRecord H P) → new ≡ needed → At by clock needed → At by clock new
      made-at needed new made k = subst (λ (a : AgentRecord H P). At by clock a) (sym made) k

      filtered : (keep : PairRecord → Bool) (next : ℕ) (ps : List PairRecord) → IsKept floor clock (On by clock) next ps → IsKept floor clock (On by clock) next (filter keep ps)
      filtered keep next ps k = kept-filter floor clock (On by clock) next keep ps k

      discards : (old new : AgentRecord H P) (l r : Option ℕ) (found : Bool) → InvalidatesAt l r old found new → At by clock old → At by clock new
      discards old new (Some place) r found (is, made) k = made-at (local_discarded place old) new made (filtered (λ p. not (is_local_at place p)) old.next_number old.pairs k)
      discards old new None (Some place) found (is, made) k = made-at (remote_discarded place old) new made (filtered (λ p. not (is_remote_at place p)) old.next_number old.pairs k)
      discards old new None None found (is, made) k = made-at old new made k

      invalidates : (old new : AgentRecord H P) (c : CandidateRecord) (found : Bool) → Invalidates old c found new → At by clock old → At by clock new
      invalidates old new c found h k = discards old new (local_to_discard c old) (remote_to_discard c old) found h k

      forms : (old new : AgentRecord H P) (all : List Combination) → FormsAll old all new → At by clock old → At by clock new
      forms old new all h k = forms-kept floor clock (On by clock) rule old new all h k

      signals : (old new : AgentRecord H P) (c : CandidateRecord) (r : Result (Unit {0}) IceError) → AddsRemote old c r new → At by clock old → At by clock new
      signals old new c (Ok _) h k = by_adding_remote old new c h
          (λ made. made-at old new made k)
          (λ formed. forms _ new _ formed k)
          (λ j lt addr formed. forms _ new _ formed k)
      signals old new c (Err error) h k = made-at old new (storing_kept old new c error h) k

      adds-local : (old new : AgentRecord H P) (c : CandidateRecord) (r : Result (Option ℕ) IceError) → AddsLocal answers old c r new → At by clock old → At by clock new
      adds-local old new c (Ok place) h k = by_adding_local old new answers c place h
          (λ made. made-at old new made k)
          (λ x based formed. forms _ new _ formed k)
          (λ j lt formed. forms _ new _ formed k)
          (λ x based j formed. forms _ new _ formed (filtered (λ p. not (is_local_at j p)) old.next_number old.pairs k))
      adds-local old new c (Err error) h k = made-at old new (enrolment_kept answers old new c error h) k

      module _ (old new : AgentRecord H P) (s u : Stream) (e : Entry) (k : At by clock old) where
        kept : new ≡ old → At by clock new
        kept made = made-at old new made k

        may : (Does : Result (Unit {0}) IceError → AgentRecord H P → Type 0) → (Does (Ok _) new → At by clock new) → ((error : IceError) → Does (Err error) new → new ≡ old) → MayDo Does s e new u → At by clock new
        may Does does failed (Ok _, is, h, drawn) = does h
        may Does does failed (Err error, is, h, drawn) = kept (failed error h)

        none-kept : IsKept floor clock (On by clock) old.next_number []
        none-kept = record { rising = tt; below = λ p has. absurd has; each = λ p has. absurd has; low = k.low }

        selects : {A : Type 0} (to_answer : A → Answer) (Does : A → AgentRecord H P → Type 0)
            → ((mid : AgentRecord H P) (r : A) → Does r mid → At by clock mid) → MaySelect to_answer Does old s e new u → At by clock new
        selects to_answer Does does (r, emitted, is, (path, mid, h, again, out), drawn) = reselects-kept floor clock (On by clock) rule (loses_selected old mid) mid new path again (does mid r h)

        skipped : (n : ℕ) → old.next_number ≤ n → IsKept floor clock (On by clock) n old.pairs
        skipped n le = record { rising = k.rising; below = λ p has. (let lt = k.below p has in omega (arith, lt, le)); each = k.each; low = (let low = k.low in omega (arith, low, le)) }

        unless : (b : Bool) → IsKept floor clock (On by clock) old.next_number (if b then old.pairs else map undue old.pairs)
        unless b = unless-kept floor clock (On by clock) rule old.next_number b old.pairs k

        -- calls that neither send checks nor fix due times
        pub others : (call : Call P) → is_timeout call ≡ false → (call ≡ PollTimeout → ⊥) → time_after clock call ≤ clock → Step mac answers old s call e new u → At by clock new
        others (HandleTimeout now) is other_than le h = no-case (sym is)
        others PollTimeout is other_than le h = absurd (other_than refl)
        others (SetMtu target warn) is other_than le h = may (SetsMtu old target warn) (λ j. made-at _ new j.1 k) (mtu_kept old new target warn) h
        others (SetControlTieBreaker tie) is other_than le h = made-at _ new h.1 k
        others (SetMaxCandidatePairs n) is other_than le h = made-at _ new h.1 k
        others (SetMaxDiscovered limit) is other_than le h = made-at _ new h.1 k
        others (SetMaxCandidates limit) is other_than le h = made-at _ new h.1 k
        others (SetIceLite lite) is other_than le h = made-at _ new h.1 k
        others (SetRenomination on) is other_than le h = made-at _ new h.1 k
        others (SetProfile profile) is other_than le h = made-at _ new h.1 k
        others (SetConsent consent) is other_than le h = made-at _ new h.1 k
        others (SetTimingAdvance ta) is other_than le h = made-at _ new h.1 k
        others (SetInitialStunRto rto) is other_than le h = made-at _ new h.1 (unless (old.timing.initial_rto.0 == rto && old.timing.max_rto.0 == old.timing.max_rto.0))
        others (SetMaxStunRto rto) is other_than le h = made-at _ new h.1 (unless (old.timing.initial_rto.0 == old.timing.initial_rto.0 && old.timing.max_rto.0 == rto))
        others (SetMaxStunRetransmits n) is other_than le h = either (n == 0) h (λ _ x. kept x.1) (λ _ x. made-at _ new x.1 k)
        others (SetLiteTimeout timeout) is other_than le h = made-at _ new h.1 k
        others (SetLocalPreference object) is other_than le h = made-at _ new h.1 k
        others (SetControlling controlling) is other_than le h = made-at _ new h.1 k
        others (SetLocalCredentials creds) is other_than le h = may (SetsLocal old creds) (λ j. made-at _ new j.1 k) (local_kept old new creds) h
        others (SetRemoteCredentials creds) is other_than le h = may (SetsRemote old creds) (λ j. made-at _ new j.1 k) (remote_kept old new creds) h
        others (SkipPairIds n) is other_than le h = made-at _ new h.1 (skipped (max old.next_number n) (omega arith))
        others (AddLocalCandidate c) is other_than le h = selects (answer_by added) (AddsLocal answers old c) (λ mid r j. adds-local old mid c r j k) h
        others (AddRemoteCandidate c) is other_than le h = selects (answer_by done) (AddsRemote old c) (λ mid r j. signals old mid c r j k) h
        others (InvalidateCandidate c) is other_than le h = selects Flag (Invalidates old c) (λ mid r j. invalidates old mid c r j k) h
        others (RestartIce creds keep) is other_than le h = may (Restarts old creds keep) (λ j. made-at _ new j.1 none-kept) (restart_kept old new creds keep) h
        others RecreateCandidatePairs is other_than le h = may (Recreates old) (λ j. forms (emptied old) new _ j.1 none-kept) (recreation_kept old new) h
        others (ReceivePacket now via bytes) is other_than le (h, drawn) = received-kept floor clock (On by clock) rule mac answers now old new via bytes e le h k
        others PollTransmit is other_than le (given, reported, (polled, made), drawn) = made-at _ new made k
        others PollEvent is other_than le (given, reported, (polled, made), drawn) = made-at _ new made k

    -- `poll_timeout` fixes due times at the last time
    asks : (clock : ℕ) (old new : AgentRecord H P) (deadline : Option ℕ) → old.timing ≡ t → PollsTimeout old deadline new → At (latest old) clock old → At (latest old) clock new
    asks clock old new deadline timing h k = from old.last_time refl h where
      fixed : (last : ℕ) → old.last_time ≡ Some last → new ≡ record old { pairs = map (scheduled last old.timing) old.pairs } → At (latest old) clock new
      fixed last is made =
          let at : latest old ≡ last = ap (λ n. unwrap_or n 0) is in
          made-at (latest old) clock _ new made (kept-map floor clock (On (latest old) clock) old.next_number (scheduled last old.timing) old.pairs (λ p. refl)
          (λ p has q. subst (λ (x : StunTiming). On (latest old) clock (scheduled last x p)) (sym timing) (subst (λ n. On n clock (scheduled last t p)) (sym at) (scheduled-at t bound o last clock p (subst (λ n. On n clock p) at q)))) k)

      by-deadline : (last : ℕ) → old.last_time ≡ Some last → (d : Option ℕ) → NextTimeoutFrom (Some last) old d new → At (latest old) clock new
      by-deadline last is None h = absurd h
      by-deadline last is (Some w) h = by_deadline old new last w h (λ made. made-at (latest old) clock old new made k) (λ made. fixed last is made)

      from : (last : Option ℕ) → old.last_time ≡ last → NextTimeoutFrom last old deadline new → At (latest old) clock new
      from None is h = made-at (latest old) clock old new h.1 k
      from (Some last) is h = by-deadline last is deadline h

    -- ---- `handle_timeout`

    maintains : (now : ℕ) (old new : AgentRecord H P) (s u : Stream) (emitted : Emitted) → old.timing ≡ t → 0 < t.max_retransmits → now < MAX
        → ((p : PairRecord) → Has new.pairs p → new.selected_pair ≡ Some p.number → is_valid p ≡ true)
        → MaintainsPairs mac now old s emitted new u → At now now old → At now now new
    maintains now old new s u emitted timing limit goes_on valid (first, second, issued, named, kept, nominating, giving, checking, is) k =
        subst (λ (x : StunTiming). IsKept floor now (IsOnSchedule x bound o now now) new.next_number new.pairs) kept_timing
        (checks-on mac bound o floor now apart kept new (subst (λ (x : StunTiming). Ends x bound) (sym kept_timing) ends) (subst (λ (x : StunTiming). 0 < x.max_retransmits) (sym kept_timing) limit)
        (subst (λ (x : StunTiming). (w : Watch) → o ≡ Some w → (w.requests ≡ 0) ⊎ IsPastRequest x bound) (sym kept_timing) fits) goes_on possible valid at_kept kept.remote_creds s u issued checking) where
          -- only valid pairs are hastened
          hastened-on : (a : AgentRecord H P) (p : PairRecord) → On now now p → On now now (hastened (Hastens now a) now p)
          hastened-on a p on = by (is_valid p) refl where
            by : (b : Bool) → is_valid p ≡ b → On now now (hastened (Hastens now a) now p)
            by true valid = (rule now now).valid (hastened (Hastens now a) now p) (ap (λ (x : PairRecord). is_valid x) (only-due (Hastens now a) now p) ∙ valid)
            by false invalid = subst (λ (x : PairRecord). On now now x) (sym (invalid-stays now a p invalid)) on

          at_named : At now now named
          at_named = nominates-kept floor now (On now now) (rule now now) (path_left now (at_timeout now old)) named first nominating
              (kept-map floor now (On now now) old.next_number (hastened (Hastens now (at_timeout now old)) now) (silent_gone now (at_timeout now old)).pairs
              (λ p. ap (λ (x : PairRecord). x.number) (only-due (Hastens now (at_timeout now old)) now p)) (λ p has on. hastened-on (at_timeout now old) p on)
              (kept-filter floor now (On now now) old.next_number (λ p. not (gives_way now (at_timeout now old) p)) old.pairs k))

          left : kept.timing ≡ named.timing
          left = ap (λ (p : Pace). p.clock.timing) (expires-same now named kept second giving)

          kept_timing : kept.timing ≡ t
          kept_timing = left ∙ (ap (λ (p : Pace). p.clock.timing) (nominates-same (path_left now (at_timeout now old)) named first nominating) ∙ timing)

          at_kept : IsKept floor now (IsOnSchedule kept.timing bound o now now) kept.next_number kept.pairs
          at_kept = subst (λ (x : StunTiming). IsKept floor now (IsOnSchedule x bound o now now) kept.next_number kept.pairs) (sym kept_timing)
              (expires-kept floor now (On now now) (rule now now) now named kept second giving at_named)

          possible : kept.lite ≡ false → (p : PairRecord) → Has kept.pairs p → is_possible now kept.timing p ≡ true
          possible full p has =
              let named_full : named.lite ≡ false = sym (ap (λ (p : Pace). p.clock.lite) (expires-same now named kept second giving)) ∙ full in
              ap (λ x. is_possible now x p) left ∙ left-possible now named kept second named_full giving p has

    times-out : (now clock : ℕ) (old new : AgentRecord H P) (s u : Stream) (e : Entry) → old.timing ≡ t → 0 < t.max_retransmits → now < MAX → latest old ≤ clock → clock ≤ now
        → ((p : PairRecord) → Has new.pairs p → new.selected_pair ≡ Some p.number → is_valid p ≡ true) → ((q : RequestRecord) → request_at now old ≡ Some q → q.time ≤ now)
        → Step mac answers old s (HandleTimeout now) e new u → At (latest old) clock old → At (latest new) now new
    times-out now clock old new s u e timing limit goes_on back forward valid early (Err error, emitted, is, (may, nothing, made, drawn)) k =
        subst (λ (a : AgentRecord H P). At (latest a) now a) (sym made) (raised (latest old) clock (latest old) now old (omega arith) forward k)
    times-out now clock old new s u e timing limit goes_on back forward valid early (Ok _, emitted, is, h) k = by (request_at now old) refl h where
      step : Step mac answers old s (HandleTimeout now) e new u
      step = (Ok _, emitted, is, h)

      served-at : (q : RequestRecord) → request_at now old ≡ Some q → ServesQueued mac q (at_request now (timeout_begun now old)) s emitted new u → At (latest old) now new
      served-at q at h = serves-kept floor now (On (latest old) now) (rule (latest old) now) mac q (early q at) (first_taken (at_request now (timeout_begun now old))) new emitted h.0
          (raised (latest old) clock (latest old) now old (omega arith) forward k)

      by : (request : Option RequestRecord) → request_at now old ≡ request
          → MatchOption request (MaintainsPairs mac now (timeout_begun now old) s emitted new u) (λ q. ServesQueued mac q (at_request now (timeout_begun now old)) s emitted new u) → At (latest new) now new
      by None none h =
          let last : new.last_time ≡ Some now = ap (λ (p : Pace). p.clock.last_time) (maintains-same mac now (timeout_begun now old) new s u emitted h) in
          subst (λ n. At n now new) (sym (ap (λ n. unwrap_or n 0) last))
          (maintains now (timeout_begun now old) new s u emitted timing limit goes_on valid h (raised (latest old) clock now now old (omega (arith, back, forward)) forward k))
      by (Some q) at h = elim (timeout-timed mac answers now old new s u e step) [
        | inl now_is ↦ raised (latest old) now (latest new) now new (let last : latest new ≡ now = ap (λ n. unwrap_or n 0) now_is in omega (arith, last, back, forward)) (omega arith) (served-at q at h)
        | inr was ↦ raised (latest old) now (latest new) now new (let last : latest new ≡ latest old = ap (λ n. unwrap_or n 0) was.1 in omega (arith, last)) (omega arith) (served-at q at h)
      ]

    -- ---- executions

    -- what holds at this time of the clock
    pub record IsRun (clock : ℕ) (a : AgentRecord H P) : Type 0 where
      pub sound : IsSound a
      pub path : Option Path
      pub named : IsNamed path a
      pub back : latest a ≤ clock
      pub queued : (q : RequestRecord) → Has a.queue q → q.time ≤ clock
      pub kept : At (latest a) clock a

    module _ (x : Logged P) (clock : ℕ) (old new : AgentRecord H P) (s u : Stream) (timed : IsTimedBy t old x) (step : Step mac answers old s x.call x.entry new u) (was : IsRun clock old)
        (law : PathEffect mac old x.call x.entry new) (forward : clock ≤ time_after clock x.call)
        (valid : (p : PairRecord) → Has new.pairs p → new.selected_pair ≡ Some p.number → is_valid p ≡ true) where
      step-as : (call : Call P) → x.call ≡ call → Step mac answers old s call x.entry new u
      step-as call is = subst (λ (c : Call P). Step mac answers old s c x.entry new u) is step

      -- the last time
      back-next : latest new ≤ time_after clock x.call
      back-next = by x.call refl where
        stays : (call : Call P) → x.call ≡ call → is_timeout call ≡ false → clock ≤ time_after clock call → latest new ≤ time_after clock call
        stays call is other_than le =
            let same : latest new ≡ latest old = ap (λ n. unwrap_or n 0) (last-stays mac answers call old new s u x.entry other_than (step-as call is)) in
            let back = was.back in omega (arith, same, back, le)

        at : (call : Call P) → x.call ≡ call → clock ≤ time_after clock call
        at call is = subst (λ (c : Call P). clock ≤ time_after clock c) is forward

        by : (call : Call P) → x.call ≡ call → latest new ≤ time_after clock x.call
        by (HandleTimeout now) is = subst (λ (c : Call P). latest new ≤ time_after clock c) (sym is) (elim (timeout-timed mac answers now old new s u x.entry (step-as (HandleTimeout now) is)) [
          | inl now_is ↦ (let last : latest new ≡ now = ap (λ n. unwrap_or n 0) now_is in omega (arith, last))
          | inr same ↦ (let last : latest new ≡ latest old = ap (λ n. unwrap_or n 0) same.1 in let back = was.back in let le = at (HandleTimeout now) is in omega (arith, last, back, le))
        ])
        by call is = subst (λ (c : Call P). latest new ≤ time_after clock c) (sym is) (stays call is refl (at call is))

      -- the requests that wait
      brought-by : (call : Call P) (q : RequestRecord) → clock ≤ time_after clock call → IsBrought call x.entry q → q.time ≤ time_after clock call
      brought-by (ReceivePacket now path bytes) q le (at, by, m, (now_is, path_is, reads, taken), request, is) =
          let time : q.time ≡ at = ap (λ (r : RequestRecord). r.time) is in omega (arith, time, now_is)
      brought-by call q le (at, by, m, brings, request, is) = absurd brings

      queued-next : (q : RequestRecord) → Has new.queue q → q.time ≤ time_after clock x.call
      queued-next q has = elim (law.queue q has) [
        | inl there ↦ (let early = was.queued q there in omega (arith, early, forward))
        | inr now ↦ brought-by x.call q forward now
      ]

      served-early : (now : ℕ) → x.call ≡ HandleTimeout now → x.entry.answer ≡ Done → (q : RequestRecord) → request_at now old ≡ Some q → q.time ≤ now
      served-early now is ok q at =
          let le : clock ≤ now = subst (λ (c : Call P). clock ≤ time_after clock c) is forward in
          elim (law.serves q (subst (λ (c : Call P). IsServing old c x.entry q) (sym is) (at, ok))) [
            | inl there ↦ (let early = was.queued q there in omega (arith, early, le))
            | inr now_is ↦ (let none : ⊥ = (subst (λ (c : Call P). IsBrought c x.entry q) is now_is).3 in absurd none)
          ]

      kept-next : At (latest new) (time_after clock x.call) new
      kept-next = by x.call refl where
        limit : x.call ≡ x.call → old.timing ≡ t → 0 < t.max_retransmits
        limit is timing = subst (λ (y : StunTiming). 0 < y.max_retransmits) timing was.sound.checks

        at : (call : Call P) → x.call ≡ call → clock ≤ time_after clock call
        at call is = subst (λ (c : Call P). clock ≤ time_after clock c) is forward

        same-last : (call : Call P) → x.call ≡ call → is_timeout call ≡ false → (after : ℕ) → At (latest old) after new → At (latest new) after new
        same-last call is other_than after k = subst (λ n. At n after new) (sym (ap (λ n. unwrap_or n 0) (last-stays mac answers call old new s u x.entry other_than (step-as call is)))) k

        other : (call : Call P) → x.call ≡ call → is_timeout call ≡ false → (call ≡ PollTimeout → ⊥) → time_after (time_after clock call) call ≤ time_after clock call → At (latest new) (time_after clock call) new
        other call is no_timeout no_poll once =
            same-last call is no_timeout (time_after clock call)
            (others (latest old) (time_after clock call) old new s u x.entry (raised (latest old) clock (latest old) (time_after clock call) old (omega arith) (at call is) was.kept) call no_timeout no_poll once (step-as call is))

        no-poll : (call : Call P) → is_poll call ≡ false → call ≡ PollTimeout → ⊥
        no-poll call other_than is = let yes : is_poll call ≡ true = ap (λ (c : Call P). is_poll c) is in let wrong : false ≡ true = sym other_than ∙ yes in cc

        polled : x.call ≡ PollTimeout → Step mac answers old s PollTimeout x.entry new u → At (latest new) clock new
        polled is (deadline, reported, h, drawn) = same-last PollTimeout is refl clock (asks clock old new deadline (timed.polled is) h was.kept)

        -- a call that fails serves none
        called : (now : ℕ) → x.call ≡ HandleTimeout now → Step mac answers old s (HandleTimeout now) x.entry new u → At (latest new) now new
        called now is (Err error, emitted, reported, (may, nothing, made, drawn)) =
            subst (λ (a : AgentRecord H P). At (latest a) now a) (sym made) (raised (latest old) clock (latest old) now old (omega arith) (at (HandleTimeout now) is) was.kept)
        called now is (Ok _, emitted, reported, h) =
            times-out now clock old new s u x.entry (timed.called now is) (limit refl (timed.called now is)) (timed.early now is) was.back (at (HandleTimeout now) is) valid
            (served-early now is (ap (λ (y : Entry). y.answer) reported)) (Ok _, emitted, reported, h) was.kept

        by : (call : Call P) → x.call ≡ call → At (latest new) (time_after clock x.call) new
        by (HandleTimeout now) is = subst (λ (c : Call P). At (latest new) (time_after clock c) new) (sym is) (called now is (step-as (HandleTimeout now) is))
        by PollTimeout is = subst (λ (c : Call P). At (latest new) (time_after clock c) new) (sym is) (polled is (step-as PollTimeout is))
        by call is = subst (λ (c : Call P). At (latest new) (time_after clock c) new) (sym is) (other call is refl (no-poll call refl) (omega arith))

    pub along : (clock : ℕ) (first last : AgentRecord H P) (log : List (Logged P)) → (run : SharedRun mac answers first log last) → AreInOrder clock log → BeforeEach mac answers (IsTimedBy t) first log last run
        → IsRun clock first → IsRun (time_of clock log) last
    along clock first last [] run order timed was = subst (λ (a : AgentRecord H P). IsRun clock a) (sym run) was
    along clock first last (x ∷ before) (mid, s, u, run, based, step) (forward, order) (here, earlier) start =
        let was = along clock first mid before run order earlier start in
        let goes_on : time_of clock before ≤ time_after (time_of clock before) x.call = omega (arith, forward) in
        let law = path_theorem mac answers mid last s u x.call x.entry was.sound based step in
        let named = names-next mac mid last x.call x.entry was.path law.0 was.sound was.named in
        record {
          sound = law.1;
          path = _;
          named = named;
          back = back-next x (time_of clock before) mid last s u here step was law.0 goes_on (λ p has is. (named p has is).0);
          queued = queued-next x (time_of clock before) mid last s u here step was law.0 goes_on (λ p has is. (named p has is).0);
          kept = kept-next x (time_of clock before) mid last s u here step was law.0 goes_on (λ p has is. (named p has is).0);
        }

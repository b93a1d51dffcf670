-- After a `handle_timeout` call each pair has consent, and the next one comes in time for its end.
use Rattle.is_pair.proofs.ConsentTimes.EndOfConsent.{calls-at-end}
use Rattle.is_theorems.specs.Consent.{ConsentEndsInTime, ConsentHolds, IsPolledIn}
use Rattle.is_theorems.proofs.Common.{[], ◌+◌, ◌∙◌, ◌∷◌, ◌≡◌, ◌≤◌, AddLocalCandidate, AddRemoteCandidate, AgentRecord, ap, AreInRound}
use Rattle.is_theorems.proofs.Common.{arith, at_request, Call, call_time_of, call_time_with, CandidateRecord, Combination, Consent}
use Rattle.is_theorems.proofs.Common.{consent_end, consent_of, Emitted, Entry, Err, Execution, false, FormsAll, Has, inl, inr, is_in_round}
use Rattle.is_theorems.proofs.Common.{KeepsPace, List, loses_selected, MaintainsPairs, MatchOption, max, NextTimeout, None, Ok, Option}
use Rattle.is_theorems.proofs.Common.{pacing-short, PairRecord, Path, PollEvent, PollsTimeout, PollTimeout, PollTransmit, ReceivePacket}
use Rattle.is_theorems.proofs.Common.{refl, request_at, Reselects, ServesQueued, SetControlling, SetControlTieBreaker, SetLocalCredentials}
use Rattle.is_theorems.proofs.Common.{SetLocalPreference, SetMaxCandidatePairs, SetMaxCandidates, SetMaxDiscovered, SetMtu, SetRenomination, SetTimingAdvance}
use Rattle.is_theorems.proofs.Common.{Some, soon, Step, Stream, subst, sym, timeout_begun, timeouts-in-time, TimesOut, true, ℕ}
use Rattle.is_theorems.proofs.CallEffects.AddedCandidates.{by_adding_local, by_adding_remote, by_waking}
use Rattle.is_theorems.proofs.CallEffects.FailedCallsAndNewAgents.{mtu_kept, local_kept, enrolment_kept, storing_kept}
use Rattle.is_theorems.proofs.ExecutionLogs.LogSegments.{no-case}
use Rattle.is_theorems.proofs.DuePairs.ConsentAfterTimeouts.{maintains-consents}
use Rattle.is_theorems.proofs.PunctualTimeouts.ChecksInTime.{stays-slow}
use Rattle.is_theorems.proofs.PunctualTimeouts.UnchangedPacing.{Clock, Pace, clock_of, maintains, pacing-is-set, receives, reselects-same}

module _ {H P : Type 0} where
  clocked : (old new : AgentRecord H P) → new ≡ old → clock_of new ≡ clock_of old
  clocked old new made = ap (λ (a : AgentRecord H P). clock_of a) made

  forms-clocked : (mid new : AgentRecord H P) (all : List Combination) → FormsAll mid all new → clock_of new ≡ clock_of mid
  forms-clocked mid new all (f, each, made) = clocked _ new made

  reselects-clocked : (old mid new : AgentRecord H P) (path : Option Path) → Reselects (loses_selected old mid) mid path new → clock_of mid ≡ clock_of old
      → clock_of new ≡ clock_of old
  reselects-clocked old mid new path again clocked = ap (λ (p : Pace). p.clock) (reselects-same (loses_selected old mid) mid new path again) ∙ clocked

  module _ (mac : H → List ℕ → List ℕ → List ℕ) (answers : P → CandidateRecord → ℕ → ℕ → Type 0) where
    -- ---- what comes between two `handle_timeout` calls

    pub round-clock : (call : Call P) (e : Entry) (old new : AgentRecord H P) (s t : Stream) → is_in_round true call ≡ true → Step mac answers old s call e new t → clock_of new ≡ clock_of old
    round-clock (ReceivePacket at via bytes) e old new s t is (h, drawn) = ap (λ (p : Pace). p.clock) (receives mac answers at old new via bytes e h)
    round-clock PollTransmit e old new s t is (given, reported, (polled, made), drawn) = clocked _ new made
    round-clock PollTimeout e old new s t is (deadline, reported, h, drawn) = by_waking old new deadline h (λ made. clocked old new made) (λ at made. clocked _ new made)
    round-clock PollEvent e old new s t is (given, reported, (polled, made), drawn) = clocked _ new made
    round-clock (AddLocalCandidate c) e old new s t is (Ok place, emitted, reported, (path, mid, h, again, emits), drawn) =
        reselects-clocked old mid new path again (by_adding_local old mid answers c place h
        (λ made. clocked old mid made) (λ x _ f. forms-clocked _ mid _ f) (λ k _ f. forms-clocked _ mid _ f) (λ x _ k f. forms-clocked _ mid _ f))
    round-clock (AddLocalCandidate c) e old new s t is (Err error, emitted, reported, (path, mid, h, again, emits), drawn) =
        reselects-clocked old mid new path again (clocked old mid (enrolment_kept answers old mid c error h))
    round-clock (AddRemoteCandidate c) e old new s t is (Ok _, emitted, reported, (path, mid, h, again, emits), drawn) =
        reselects-clocked old mid new path again (by_adding_remote old mid c h
        (λ made. clocked old mid made) (λ f. forms-clocked _ mid _ f) (λ k _ addr f. forms-clocked _ mid _ f))
    round-clock (AddRemoteCandidate c) e old new s t is (Err error, emitted, reported, (path, mid, h, again, emits), drawn) =
        reselects-clocked old mid new path again (clocked old mid (storing_kept old mid c error h))
    round-clock (SetMtu target warn) e old new s t is (Ok _, reported, h, drawn) = clocked _ new h.1
    round-clock (SetMtu target warn) e old new s t is (Err error, reported, h, drawn) = clocked old new (mtu_kept old new target warn error h)
    round-clock (SetLocalCredentials creds) e old new s t is (Ok _, reported, h, drawn) = clocked _ new h.1
    round-clock (SetLocalCredentials creds) e old new s t is (Err error, reported, h, drawn) = clocked old new (local_kept old new creds error h)
    round-clock (SetControlTieBreaker tie) e old new s t is h = clocked _ new h.1
    round-clock (SetMaxCandidatePairs k) e old new s t is h = clocked _ new h.1
    round-clock (SetMaxDiscovered limit) e old new s t is h = clocked _ new h.1
    round-clock (SetMaxCandidates limit) e old new s t is h = clocked _ new h.1
    round-clock (SetRenomination renominates) e old new s t is h = clocked _ new h.1
    round-clock (SetTimingAdvance by) e old new s t is h = clocked _ new h.1
    round-clock (SetLocalPreference object) e old new s t is h = clocked _ new h.1
    round-clock (SetControlling controlling) e old new s t is h = clocked _ new h.1
    round-clock _ e old new s t is h = no-case is

    -- ---- the time that `poll_timeout` returns

    pub polled-soon : (pace delay now next deadline : ℕ) (c : Consent) (e : Entry) (old new : AgentRecord H P) (s t : Stream) (p : PairRecord) → old.lite ≡ false → old.last_time ≡ Some now
        → consent_of old.timing ≡ Some c → old.timing_advance ≤ pace → Step mac answers old s PollTimeout e new t → e.answer ≡ NextTimeout (Some deadline) → next ≤ deadline + delay → Has old.pairs p
        → next ≤ max (consent_end c p) (now + pace) + delay
    polled-soon pace delay now next deadline c e old new s t p full last rule slow (returned, reported, h, drawn) answer close has =
        let same : returned ≡ Some deadline = deadline-is returned (Some deadline) (sym (ap (λ (x : Entry). x.answer) reported) ∙ answer) in
        let k : deadline ≤ max (call_time_of now old.timing p) (soon old now) =
        timeouts-in-time old new (Some deadline) (subst (λ o. PollsTimeout old o new) same h) now last full p has in
        let ends : call_time_of now old.timing p ≤ consent_end c p =
        subst (λ o. call_time_with o now old.timing p ≤ consent_end c p) (sym rule) (calls-at-end c now old.timing p) in
        let paced = pacing-short now old in
        omega (arith, k, ends, paced, slow, close) where
          deadline-is : (a b : Option ℕ) → NextTimeout a ≡ NextTimeout b → a ≡ b
          deadline-is a b h = cc

    walk : (pace delay now next : ℕ) (c : Consent) (polled : AgentRecord H P) (p : PairRecord) → Has polled.pairs p → (xs : List (Call P × Entry)) (old new : AgentRecord H P)
        → old.lite ≡ false → old.last_time ≡ Some now → consent_of old.timing ≡ Some c → old.timing_advance ≤ pace → KeepsPace pace xs → AreInRound true xs
        → (execution : Execution mac answers xs old new) → IsPolledIn mac answers delay next polled xs old new execution → next ≤ max (consent_end c p) (now + pace) + delay
    walk pace delay now next c polled p has [] old new full last rule slow keeps fits execution none = absurd none
    walk pace delay now next c polled p has (x ∷ rest) old new full last rule slow keeps fits (mid, s, t, given, step, more) (inl (here, called, (deadline, answer, close))) =
        polled-soon pace delay now next deadline c x.1 old mid s t p full last rule (omega (arith, slow))
        (subst (λ (k : Call P). Step mac answers old s k x.1 mid t) called step) answer (omega (arith, close)) (subst (λ (a : AgentRecord H P). Has a.pairs p) here has)
    walk pace delay now next c polled p has (x ∷ rest) old new full last rule slow keeps fits (mid, s, t, given, step, more) (inr later) =
        let clock = round-clock x.0 x.1 old mid s t (fits x (inl refl)) step in
        walk pace delay now next c polled p has rest mid new
        (ap (λ (k : Clock). k.lite) clock ∙ full) (ap (λ (k : Clock). k.last_time) clock ∙ last) (ap (λ (k : Clock). consent_of k.timing) clock ∙ rule)
        (stays-slow x.0 old.timing_advance mid.timing_advance pace (pacing-is-set mac answers old mid s t x.0 x.1 step) (omega (arith, slow)) (λ by is. keeps x by (inl refl) is))
        (λ y by there. keeps y by (inr there)) (λ y there. fits y (inr there)) more later

  -- ---- the theorems

  module _ (mac : H → List ℕ → List ℕ → List ℕ) where
    maintained : (old new : AgentRecord H P) (now : ℕ) (s t : Stream) (emitted : Emitted) → request_at now old ≡ None → TimesOut mac now old s (Ok tt) emitted new t
        → MaintainsPairs mac now (timeout_begun now old) s emitted new t
    maintained old new now s t emitted none h =
        subst (λ o. MatchOption o (MaintainsPairs mac now (timeout_begun now old) s emitted new t) (λ q. ServesQueued mac q (at_request now (timeout_begun now old)) s emitted new t)) none h

    pub consents : ConsentHolds P mac
    consents old new now s t emitted m p has =
        let full : old.lite ≡ false = search m.full in
        let none : request_at now old ≡ None = search m.unqueued in
        let there : Has new.pairs p = search has in
        search ((maintains-consents mac now (timeout_begun now old) new s t emitted full (maintained old new now s t emitted none m.call)).2 p there)

    pub consent-ends-in-time : (answers : P → CandidateRecord → ℕ → ℕ → Type 0) → ConsentEndsInTime {H = H} {P = P} mac answers
    consent-ends-in-time answers old first last polled s t emitted xs c p pace delay now next m rule f has =
        let full : old.lite ≡ false = search m.full in
        let none : request_at now old ≡ None = search m.unqueued in
        let ruled : consent_of old.timing ≡ Some c = search rule in
        let there : Has polled.pairs p = search has in
        let call = maintains mac now (timeout_begun now old) first s t emitted (maintained old first now s t emitted none m.call) in
        let begins = f.begins in
        let in_time =
        walk mac answers pace delay now next c polled p there xs first last
        (ap (λ (k : Pace). k.clock.lite) call ∙ full) (ap (λ (k : Pace). k.clock.last_time) call) (ap (λ (k : Pace). consent_of k.clock.timing) call ∙ ruled) (omega (arith, begins))
        (λ y by among. f.keeps y by among) (λ y among. f.between y among) f.execution f.prompt in
        omega (arith, in_time)

pub consent-holds : {H : Type 0} (P : Type 0) (mac : H → List ℕ → List ℕ → List ℕ) → ConsentHolds P mac
consent-holds P mac = consents mac

-- A pair stays over each step, and over each execution segment, that does not remove it.
use Rattle.is_theorems.proofs.Common.{[], ◌&&◌, ◌++◌, ◌<◌, ◌==◌, ◌||◌, ◌∙◌, ◌∷◌, ◌≡◌, ◌≤◌, ◌⊎◌, AddLocalCandidate, AddRemoteCandidate}
use Rattle.is_theorems.proofs.Common.{AddsLocal, AgentRecord, ap, append_assoc, arith, scheduled, at_request, below-each, Bool, Call}
use Rattle.is_theorems.proofs.Common.{candidate_at, candidate_priority, CandidateRecord, comes_again, discovered_emitted, Done, Emitted}
use Rattle.is_theorems.proofs.Common.{EndsIn, EnrolsAt, Entry, eqb-true, Err, false, first_taken, Flag, gives_way, HandleTimeout, Has}
use Rattle.is_theorems.proofs.Common.{IceError, if◌then◌else◌, inl, inr, InvalidateCandidate, InvalidatesAt, is_expired, is_local_at}
use Rattle.is_theorems.proofs.Common.{is_remote_at, is_too_high, is_unwanted, IsFresh, IsOfDiscarded, IsSound, List, local_discarded}
use Rattle.is_theorems.proofs.Common.{local_to_discard, Logged, loses_selected, MaintainsPairs, map, MatchOption, MayEnd, nat_lt, None, not}
use Rattle.is_theorems.proofs.Common.{Ok, Option, PairRecord, PairsStay, PairsStayOn, Path, path_of, PathEffect, PollEvent, PollTimeout}
use Rattle.is_theorems.proofs.Common.{PollTransmit, preferred, ReceivePacket, Receives, RecreateCandidatePairs, refl, remote_discarded}
use Rattle.is_theorems.proofs.Common.{remote_to_discard, request_at, RequestRecord, Reselects, RestartIce, Result, rising-each, Run, RunsOn}
use Rattle.is_theorems.proofs.Common.{ServesQueued, SetConsent, SetControlling, SetControlTieBreaker, SetIceLite, SetInitialStunRto}
use Rattle.is_theorems.proofs.Common.{SetLiteTimeout, SetLocalCredentials, SetLocalPreference, SetMaxCandidatePairs, SetMaxCandidates, SetMaxDiscovered}
use Rattle.is_theorems.proofs.Common.{SetMaxStunRetransmits, SetMaxStunRto, SetMtu, SetProfile, SetRemoteCredentials, SetRenomination}
use Rattle.is_theorems.proofs.Common.{SetTimingAdvance, SkipPairIds, Some, Stays, Step, Stream, subst, sym, timeout_begun, true, undue}
use Rattle.is_theorems.proofs.Common.{with_rtos, ℕ}
use Rattle.is_theorems.proofs.CallEffects.PathAndTradeEffects.{path_theorem}
use Rattle.is_theorems.proofs.CallEffects.AddedCandidates.{by_waking}
use Rattle.is_theorems.proofs.RuleEffects.UnchangedSettings.{either}
use Rattle.is_theorems.proofs.ExecutionLogs.LogTheorems.{runs_sound}
use Rattle.is_theorems.proofs.ExecutionLogs.LogSegments.{run-on}
use Rattle.is_theorems.proofs.CallEffects.FailedCallsAndNewAgents.{mtu_kept, local_kept, remote_kept, restart_kept, recreation_kept}
use Rattle.is_theorems.proofs.CallEffects.FailedCallsAndNewAgents.{enrolment_kept, storing_kept}
use Rattle.is_theorems.proofs.StoredPairs.PairsAfterForming.{local-leaves, remote-leaves}
use Rattle.is_theorems.proofs.StoredPairs.NumbersThatStay.{is_asked, Persists, Keeps, Keep, keeps-map, keep-same, keep-as, keep-reselects}
use Rattle.is_theorems.proofs.StoredPairs.NumbersThatStay.{by-class, keep-serves, maintains_pairs-leaves}
use Rattle.is_theorems.proofs.RuleEffects.SelectedPaths.{one_pair}
use Rattle.is_theorems.proofs.DuePairs.AfterNominationAndRemoval.{Has-kept}

keeps-if : (b : Bool) (xs ys : List PairRecord) → Keeps xs ys → Keeps xs (if b then xs else ys)
keeps-if true xs ys k n asks h = h
keeps-if false xs ys k n asks h = k n asks h

not-found : {A : Type 0} (place : ℕ) → None ≡ Some place → A
not-found place h = absurd (cc)

is-rejected : {A : Type 0} (r : Result (Option ℕ) IceError) (error : IceError) → r ≡ Ok None → r ≡ Err error → A
is-rejected (Ok x) error is wrong = absurd (cc)
is-rejected (Err e) error is wrong = absurd (cc)

module _ {H P : Type 0} where
  -- ---- a candidate is not added, or is

  pub none-entered : (answers : P → CandidateRecord → ℕ → ℕ → Type 0) (old new : AgentRecord H P) (c : CandidateRecord) → AddsLocal answers old c (Ok None) new → new ≡ old
  none-entered answers old new c h = either (is_too_high c) h
      (λ _ k. is-rejected (Ok None) _ refl k.0)
      (λ _ k. either (is_unwanted old c) k
      (λ _ l. l.1)
      (λ _ l. enrols (preferred l.0 c) _ l.2)) where
        enrols : (c : CandidateRecord) (at : Option ℕ) → EnrolsAt old c at (Ok None) new → new ≡ old
        enrols c None h = not-found _ h.0
        enrols c (Some place) h = either (comes_again c (candidate_at old.local place)) h
            (λ _ k. not-found _ k.0)
            (λ _ k. either (nat_lt (candidate_priority c) (candidate_priority (candidate_at old.local place))) k
            (λ _ l. l.1)
            (λ _ l. not-found _ l.0))

  -- ---- a candidate is discarded

  module _ (old new : AgentRecord H P) (c : CandidateRecord) (p : PairRecord) (has : Has old.pairs p) where
    of-local : (place : ℕ) → local_to_discard c old ≡ Some place → new ≡ local_discarded place old → Persists p.number (is_asked p) new.pairs ⊎ IsOfDiscarded old c p
    of-local place at made = by (is_local_at place p) refl where
      by : (b : Bool) → is_local_at place p ≡ b → Persists p.number (is_asked p) new.pairs ⊎ IsOfDiscarded old c p
      by true is = inr (inl (at ∙ ap Some (sym (eqb-true p.local place is))))
      by false is = inl (subst (λ (a : AgentRecord H P). Persists p.number (is_asked p) a.pairs) (sym made) (p, Has-kept (λ q. not (is_local_at place q)) old.pairs p has (ap not is), refl, λ on. on))

    of-remote : (place : ℕ) → local_to_discard c old ≡ None → remote_to_discard c old ≡ Some place → new ≡ remote_discarded place old
        → Persists p.number (is_asked p) new.pairs ⊎ IsOfDiscarded old c p
    of-remote place none at made = by (is_remote_at place p) refl where
      by : (b : Bool) → is_remote_at place p ≡ b → Persists p.number (is_asked p) new.pairs ⊎ IsOfDiscarded old c p
      by true is = inr (inr (none, at ∙ ap Some (sym (eqb-true p.remote place is))))
      by false is = inl (subst (λ (a : AgentRecord H P). Persists p.number (is_asked p) a.pairs) (sym made) (p, Has-kept (λ q. not (is_remote_at place q)) old.pairs p has (ap not is), refl, λ on. on))

    discards : (l r : Option ℕ) (found : Bool) → local_to_discard c old ≡ l → remote_to_discard c old ≡ r → InvalidatesAt l r old found new
        → Persists p.number (is_asked p) new.pairs ⊎ ((found ≡ true) × IsOfDiscarded old c p)
    discards (Some place) r found l_is r_is h = elim (of-local place l_is h.1) [ inl k ↦ inl k | inr gone ↦ inr (h.0, gone) ]
    discards None (Some place) found l_is r_is h = elim (of-remote place l_is r_is h.1) [ inl k ↦ inl k | inr gone ↦ inr (h.0, gone) ]
    discards None None found l_is r_is h = inl (keep-same old new h.1 p.number (is_asked p) (p, has, refl, λ on. on))

  module _ (mac : H → List ℕ → List ℕ → List ℕ) (answers : P → CandidateRecord → ℕ → ℕ → Type 0) where
    module _ (old new : AgentRecord H P) (s t : Stream) (e : Entry) (p : PairRecord) (sound : IsSound old) (has : Has old.pairs p) where
      -- ---- each call

      kept : Keep old new → Persists p.number (is_asked p) new.pairs
      kept k = k p.number (is_asked p) (p, has, refl, λ on. on)

      as-it-was : new ≡ old → Persists p.number (is_asked p) new.pairs
      as-it-was made = kept (keep-same old new made)

      becomes : (needed : AgentRecord H P) → Keep old needed → new ≡ needed → Persists p.number (is_asked p) new.pairs
      becomes needed k made = kept (keep-as old needed new k made)

      -- a path may be selected after it
      selects : (mid : AgentRecord H P) (path : Option Path) → Reselects (loses_selected old mid) mid path new → Persists p.number (is_asked p) mid.pairs
          → Persists p.number (is_asked p) new.pairs
      selects mid path h k = keep-reselects (loses_selected old mid) mid new path h p.number (is_asked p) k

      as-before : (mid : AgentRecord H P) (path : Option Path) → Reselects (loses_selected old mid) mid path new → mid ≡ old → Persists p.number (is_asked p) new.pairs
      as-before mid path h made = selects mid path h (keep-same old mid made p.number (is_asked p) (p, has, refl, λ on. on))

      packet : (now : ℕ) (path : Path) (bytes : List ℕ) → Receives mac answers now old path bytes e new → Persists p.number (is_asked p) new.pairs
      packet now path bytes (inl (fault, has_fault, is, made)) = as-it-was made
      packet now path bytes (inr (m, reads, (Ok true, emitted, is, (accepted, (mid, takes, made))))) = becomes (discovered_emitted m.class emitted path mid) (by-class mac m.class now old mid path m emitted takes) made
      packet now path bytes (inr (m, reads, (Ok false, emitted, is, (no_one, nothing, made)))) = as-it-was made
      packet now path bytes (inr (m, reads, (Err error, emitted, is, (may, nothing, made)))) = as-it-was made

      timeout-by : (now : ℕ) (emitted : Emitted) (o : Option RequestRecord) → request_at now old ≡ o → e.answer ≡ Done
          → MatchOption o (MaintainsPairs mac now (timeout_begun now old) s emitted new t) (λ q. ServesQueued mac q (at_request now (timeout_begun now old)) s emitted new t)
          → Persists p.number (is_asked p) new.pairs ⊎ ((e.answer ≡ Done) × (request_at now old ≡ None) × ((is_expired now old p || gives_way now old p) ≡ true))
      timeout-by now emitted None none is_done h = elim (maintains_pairs-leaves mac now (timeout_begun now old) new s t emitted h p has) [
        | inl persists ↦ inl persists
        | inr gone ↦ inr (is_done, none, gone)
      ]
      timeout-by now emitted (Some q) is is_done (h, drawn) = inl (kept (keep-serves mac q (first_taken (at_request now (timeout_begun now old))) new emitted h))

      lasts : (call : Call P) → Step mac answers old s call e new t → Persists p.number (is_asked p) new.pairs ⊎ MayEnd answers old call e p
      lasts (SetMtu target warn) (Ok _, is, h, drawn) = inl (becomes _ (λ n asks x. x) h.1)
      lasts (SetMtu target warn) (Err error, is, h, drawn) = inl (as-it-was (mtu_kept old new target warn error h))
      lasts (SetControlTieBreaker tie) (is, made, drawn) = inl (becomes _ (λ n asks x. x) made)
      lasts (SetMaxCandidatePairs n) (is, made, drawn) = inl (becomes _ (λ n asks x. x) made)
      lasts (SetMaxDiscovered n) (is, made, drawn) = inl (becomes _ (λ n asks x. x) made)
      lasts (SetMaxCandidates n) (is, made, drawn) = inl (becomes _ (λ n asks x. x) made)
      lasts (SetIceLite lite) (is, made, drawn) = inl (becomes _ (λ n asks x. x) made)
      lasts (SetRenomination on) (is, made, drawn) = inl (becomes _ (λ n asks x. x) made)
      lasts (SetProfile profile) (is, made, drawn) = inl (becomes _ (λ n asks x. x) made)
      lasts (SetConsent consent) (is, made, drawn) = inl (becomes _ (λ n asks x. x) made)
      lasts (SetTimingAdvance by) (is, made, drawn) = inl (becomes _ (λ n asks x. x) made)
      lasts (SetInitialStunRto rto) (is, made, drawn) =
          inl (becomes (with_rtos rto old.timing.max_rto.0 old)
          (keeps-if (old.timing.initial_rto.0 == rto && old.timing.max_rto.0 == old.timing.max_rto.0) old.pairs (map undue old.pairs) (keeps-map undue old.pairs (λ q. (refl, λ is. is)))) made)
      lasts (SetMaxStunRto rto) (is, made, drawn) =
          inl (becomes (with_rtos old.timing.initial_rto.0 rto old)
          (keeps-if (old.timing.initial_rto.0 == old.timing.initial_rto.0 && old.timing.max_rto.0 == rto) old.pairs (map undue old.pairs) (keeps-map undue old.pairs (λ q. (refl, λ is. is)))) made)
      lasts (SetMaxStunRetransmits n) h = either (n == 0) h
          (λ _ k. inl (as-it-was k.1))
          (λ _ k. inl (becomes _ (λ n asks x. x) k.1))
      lasts (SetLiteTimeout by) (is, made, drawn) = inl (becomes _ (λ n asks x. x) made)
      lasts (SetLocalPreference object) (is, made, drawn) = inl (becomes _ (λ n asks x. x) made)
      lasts (SetControlling controlling) (is, made, drawn) = inl (becomes _ (λ n asks x. x) made)
      lasts (SetLocalCredentials creds) (Ok _, is, h, drawn) = inl (becomes _ (λ n asks x. x) h.1)
      lasts (SetLocalCredentials creds) (Err error, is, h, drawn) = inl (as-it-was (local_kept old new creds error h))
      lasts (SetRemoteCredentials creds) (Ok _, is, h, drawn) = inl (becomes _ (λ n asks x. x) h.1)
      lasts (SetRemoteCredentials creds) (Err error, is, h, drawn) = inl (as-it-was (remote_kept old new creds error h))
      lasts (SkipPairIds n) (is, made, drawn) = inl (becomes _ (λ n asks x. x) made)
      lasts (AddLocalCandidate c) (Ok (Some place), emitted, is, (path, mid, h, again, emits), drawn) =
          elim (local-leaves answers old mid c place p sound has h) [
            | inl there ↦ inl (selects mid path again (p, there, refl, λ on. on))
            | inr ends ↦ inr (ap (λ (x : Entry). x.answer) is, ends)
          ]
      lasts (AddLocalCandidate c) (Ok None, emitted, is, (path, mid, h, again, emits), drawn) =
          inl (as-before mid path again (none-entered answers old mid c h))
      lasts (AddLocalCandidate c) (Err error, emitted, is, (path, mid, h, again, emits), drawn) =
          inl (as-before mid path again (enrolment_kept answers old mid c error h))
      lasts (AddRemoteCandidate c) (Ok _, emitted, is, (path, mid, h, again, emits), drawn) = elim (remote-leaves old mid c p sound has h) [
        | inl there ↦ inl (selects mid path again (p, there, refl, λ on. on))
        | inr ends ↦ inr (ap (λ (x : Entry). x.answer) is, ends)
      ]
      lasts (AddRemoteCandidate c) (Err error, emitted, is, (path, mid, h, again, emits), drawn) =
          inl (as-before mid path again (storing_kept old mid c error h))
      lasts (InvalidateCandidate c) (found, emitted, is, (path, mid, h, again, emits), drawn) =
          elim (discards old mid c p has (local_to_discard c old) (remote_to_discard c old) found refl refl h) [
            | inl k ↦ inl (selects mid path again k)
            | inr gone ↦ inr (ap (λ (x : Entry). x.answer) is ∙ ap Flag gone.0, gone.1)
          ]
      lasts (RestartIce creds keep) (Ok _, is, h, drawn) = inr (ap (λ (x : Entry). x.answer) is)
      lasts (RestartIce creds keep) (Err error, is, h, drawn) = inl (as-it-was (restart_kept old new creds keep error h))
      lasts RecreateCandidatePairs (Ok _, is, h, drawn) = inr (ap (λ (x : Entry). x.answer) is)
      lasts RecreateCandidatePairs (Err error, is, h, drawn) = inl (as-it-was (recreation_kept old new error h))
      lasts (ReceivePacket now path bytes) (h, drawn) = inl (packet now path bytes h)
      lasts (HandleTimeout now) (Ok _, emitted, is, h) = timeout-by now emitted (request_at now old) refl (ap (λ (x : Entry). x.answer) is) h
      lasts (HandleTimeout now) (Err error, emitted, is, (may, nothing, made, drawn)) = inl (as-it-was made)
      lasts PollTransmit (given, is, (polled, made), drawn) = inl (becomes _ (λ n asks x. x) made)
      lasts PollTimeout (deadline, is, h, drawn) =
          inl (by_waking old new deadline h (λ made. as-it-was made)
          (λ at made. becomes _ (keeps-map (scheduled at old.timing) old.pairs (λ q. (refl, λ is. is))) made))
      lasts PollEvent (given, is, (polled, made), drawn) = inl (becomes _ (λ n asks x. x) made)

    -- ---- the step

    -- the pair with the number is the one that was there
    continued : (old new : AgentRecord H P) (call : Call P) (e : Entry) (p : PairRecord) → IsSound old → PathEffect mac old call e new → Has old.pairs p → Persists p.number (is_asked p) new.pairs → Stays old p new
    continued old new call e p sound f has (q, there, number, requested) = elim (f.numbers q there) [
      | inl (o, o_there, o_number, path, valid, nominated) ↦
          (let one : o ≡ p = one_pair old.pairs o p (rising-each old.pairs sound.rising) o_there has (o_number ∙ number) in
          subst (λ (x : PairRecord). Stays old x new) one (record {
            pair = q;
            there = there;
            number = sym o_number;
            path = sym path;
            valid = valid;
            nominated = nominated;
            requested = λ on. requested (subst (λ (x : PairRecord). is_asked x ≡ true) one on);
          }))
      | inr fresh ↦
          (let lt : p.number < old.next_number = below-each old.next_number old.pairs sound.below p has in
          let le : old.next_number ≤ q.number = fresh.0 in
          absurd (let no : ⊥ = omega (arith, lt, le, number) in no))
    ]

    pub pairs-stay : PairsStay {H = H} {P = P} mac answers
    pairs-stay old new s t call e p sound given step has = elim (lasts old new s t e p sound has call step) [
      | inl persists ↦ inl (continued old new call e p sound (path_theorem mac answers old new s t call e sound given step).0 has persists)
      | inr ends ↦ inr ends
    ]

    -- ---- segments of a log

    pub stays-on : (a b c : AgentRecord H P) (p : PairRecord) (k : Stays a p b) → Stays b k.pair c → Stays a p c
    stays-on a b c p k l = record {
      pair = l.pair;
      there = l.there;
      number = l.number ∙ k.number;
      path = l.path ∙ k.path;
      valid = λ is. l.valid (k.valid is);
      nominated = λ is. l.nominated (k.nominated is);
      requested = λ is. l.requested (k.requested is);
    }

    pub stays-here : (a : AgentRecord H P) (p : PairRecord) → Has a.pairs p → Stays a p a
    stays-here a p has = record { pair = p; there = has; number = refl; path = refl; valid = λ is. is; nominated = λ is. is; requested = λ is. is }

    module _ (first : AgentRecord H P) (s : Stream) (log : List (Logged P)) (fresh : IsFresh first) (part : List (Logged P)) (before : List (Logged P)) (start : AgentRecord H P) (u : Stream)
        (led : Run mac answers first s before start u) (p : PairRecord) (has : Has start.pairs p) where
      walk : (over xs : List (Logged P)) (last : AgentRecord H P) (t : Stream) → log ≡ over ++ (xs ++ before) → ((x : Logged P) → Has xs x → Has part x)
          → RunsOn mac answers before start u xs last t → Stays start p last ⊎ EndsIn mac answers first s log part p.number (path_of start p)
      walk over [] last t split within (is, drawn) = inl (subst (λ (a : AgentRecord H P). Stays start p a) (sym is) (stays-here start p has))
      walk over (x ∷ xs) last t split within (mid, v, run, number, based, step) =
          elim (walk (over ++ x ∷ []) xs mid v (split ∙ sym (append_assoc over (x ∷ []) (xs ++ before))) (λ y there. within y (inr there)) run) [
            | inr ends ↦ inr ends
            | inl k ↦
                (let here = run-on mac answers first start mid s u v before xs led run in
                let sound = runs_sound mac answers (path_theorem mac answers) first mid s v (xs ++ before) fresh here in
                elim (pairs-stay mid last v t x.call x.entry k.pair sound based step k.there) [
                  | inl l ↦ inl (stays-on start mid last p k l)
                  | inr ends ↦ inr (
                    xs ++ before,
                    mid,
                    last,
                    x,
                    k.pair,
                    record { rest = over; split = split; at = v; led = here; number = number; given = based; following = t; step = step },
                    within x (inl refl),
                    k.there,
                    k.number,
                    k.path,
                    ends,
                  )
                ])
          ]

    pub pairs-stay-on : PairsStayOn {H = H} {P = P} mac answers
    pairs-stay-on first s log fresh before start last part p found has =
        walk first s log fresh part before start found.at found.led p has found.rest part last found.following found.split (λ x there. there) found.run

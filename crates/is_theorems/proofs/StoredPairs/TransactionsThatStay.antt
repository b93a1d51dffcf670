-- A check stays stored over each call, and over a per-agent execution, until its pair is removed or has sent as many
-- later checks as are stored. So its exchange succeeds later, too.
use Rattle.is_stun.specs.declared.header.Class.TheVariants as class
use Rattle.is_theorems.proofs.Common.{[], ◌&&◌, ◌++◌, ◌+◌, ◌-◌, ◌<◌, ◌==◌, ◌∙◌, ◌∷◌, ◌≡◌, ◌≤◌, ◌⊎◌, AddLocalCandidate, AddRemoteCandidate}
use Rattle.is_theorems.proofs.Common.{AddsLocal, AgentRecord, AnswersAreValid, ap, append_assoc, arith, as_sent, scheduled, at_request}
use Rattle.is_theorems.proofs.Common.{below-each, Bool, bytes_eq, Call, candidate_at, candidate_priority, CandidateRecord}
use Rattle.is_theorems.proofs.Common.{CarriedAreAccepted, CarriedAreServed, CarriedBack, CarriedSucceedLater, change_at, change_pair, Check}
use Rattle.is_theorems.proofs.Common.{check_of, check_sent, checks_on, ChecksPend, ChecksPendAlong, comes_again, discovered_emitted, Done}
use Rattle.is_theorems.proofs.Common.{drop, drop-append-le, Emitted, EndsAlong, EndsOf, EnrolsAt, Entry, eqb-true, Err}
use Rattle.is_theorems.proofs.Common.{ExchangesSucceedLater, false, first_taken, Flag, Follows, HandleTimeout, Has, has_id, IceError}
use Rattle.is_theorems.proofs.Common.{if◌then◌else◌, inl, inr, InvalidateCandidate, InvalidatesAt, is_check_on, is_local_at, is_remote_at}
use Rattle.is_theorems.proofs.Common.{is_reverse, is_too_high, is_unwanted, is_valid, IsOfDiscarded, IsSound, Issued, issued_as, IsTaken}
use Rattle.is_theorems.proofs.Common.{IsValidBy, keeps_check, keeps_check_on, last_checks, length, length-append, List, list_any}
use Rattle.is_theorems.proofs.Common.{local_discarded, local_to_discard, loses_selected, ltb-false, ltb-true, MaintainsPairs, map}
use Rattle.is_theorems.proofs.Common.{MatchOption, MayEnd, nat_lt, nominates_at_once, None, not, Ok, Option, Packet, PairRecord}
use Rattle.is_theorems.proofs.Common.{PairsKeepChecks, Path, path_of, PathEffect, Pends, PendsAfter, PollEvent, PollTimeout, PollTransmit}
use Rattle.is_theorems.proofs.Common.{preferred, protocol_number, ReceivedPacket, ReceivePacket, Receives, RecreateCandidatePairs, refl}
use Rattle.is_theorems.proofs.Common.{remote_discarded, remote_to_discard, renominated, request_at, RequestRecord, Reselects, RestartIce}
use Rattle.is_theorems.proofs.Common.{Result, ReturnedWhilePending, rising-each, SendsLater, sent_of, SentCheck, ServedCheck, ServesQueued}
use Rattle.is_theorems.proofs.Common.{SetConsent, SetControlling, SetControlTieBreaker, SetIceLite, SetInitialStunRto, SetLiteTimeout}
use Rattle.is_theorems.proofs.Common.{SetLocalCredentials, SetLocalPreference, SetMaxCandidatePairs, SetMaxCandidates, SetMaxDiscovered}
use Rattle.is_theorems.proofs.Common.{SetMaxStunRetransmits, SetMaxStunRto, SetMtu, SetProfile, SetRemoteCredentials, SetRenomination}
use Rattle.is_theorems.proofs.Common.{SetTimingAdvance, SkipPairIds, Some, Step, Stream, subst, suc, SucceedsOrEnds, sym, timeout_begun}
use Rattle.is_theorems.proofs.Common.{true, undue, via_out, with_rtos, ℕ}
use Rattle.is_theorems.proofs.BasicLemmas.EqualAddresses.{both}
use Rattle.is_theorems.proofs.CheckExchanges.ReturnedResponses.{issued-check, issued-reply, sound-sent}
use Rattle.is_theorems.proofs.StoredPairs.StoredChecks.{Checks, checks-as, back_again, bytes_same, same_self, number_same, Has-rear}
use Rattle.is_theorems.proofs.RuleEffects.ChangedPairs.{Has-map}
use Rattle.is_theorems.proofs.BasicLemmas.UsernamesAndFirstMatches.{any_has}
use Rattle.is_theorems.proofs.CallEffects.ServedRequests.{Has-mapped}
use Rattle.is_theorems.proofs.StoredPairs.TransactionsOverPackets.{sound-execution}
use Rattle.is_theorems.proofs.CallEffects.PathAndTradeEffects.{path_theorem}
use Rattle.is_theorems.proofs.CallEffects.AddedCandidates.{by_waking}
use Rattle.is_theorems.proofs.RuleEffects.UnchangedSettings.{either}
use Rattle.is_theorems.proofs.CallEffects.FailedCallsAndNewAgents.{mtu_kept, local_kept, remote_kept, restart_kept, recreation_kept}
use Rattle.is_theorems.proofs.CallEffects.FailedCallsAndNewAgents.{enrolment_kept, storing_kept}
use Rattle.is_theorems.proofs.StoredPairs.PairsAfterForming.{local-leaves, remote-leaves}
use Rattle.is_theorems.proofs.StoredPairs.TransactionsAfterRules.{Persists, Keeps, Keep, Sends, keeps-self, keeps-map, keep-same, keep-as}
use Rattle.is_theorems.proofs.StoredPairs.TransactionsAfterRules.{keep-reselects, by-class, keep-serves, maintains_pairs, sent-last}
use Rattle.is_theorems.proofs.RuleEffects.SelectedPaths.{one_pair}
use Rattle.is_theorems.proofs.DuePairs.AfterNominationAndRemoval.{Has-kept}
use Rattle.is_theorems.proofs.BasicLemmas.PairsInTurn.{by-begins, sent-number, sent-pairs, sent_at}

keeps-if : (b : Bool) (xs ys : List PairRecord) → Keeps xs ys → Keeps xs (if b then xs else ys)
keeps-if true xs ys k = keeps-self xs
keeps-if false xs ys k = k

not-found : {A : Type 0} (place : ℕ) → None ≡ Some place → A
not-found place h = absurd (cc)

is-rejected : {A : Type 0} (r : Result (Option ℕ) IceError) (error : IceError) → r ≡ Ok None → r ≡ Err error → A
is-rejected (Ok x) error is wrong = absurd (cc)
is-rejected (Err e) error is wrong = absurd (cc)

-- a check that is sent on the path is counted
pub is-on : (path : Path) (issued : Option Issued) (id : List ℕ) → issued ≡ Some (issued_as path class.Request id) → is_check_on path issued ≡ true
is-on path issued id out = ap (λ o. is_check_on path o) out ∙ rw (number_same (protocol_number path.proto), same_self path.source, same_self path.destination) refl

module _ {H P : Type 0} where
  -- ---- a candidate is not added, or is

  none-entered : (answers : P → CandidateRecord → ℕ → ℕ → Type 0) (old new : AgentRecord H P) (c : CandidateRecord) → AddsLocal answers old c (Ok None) new → new ≡ old
  none-entered answers old new c h = either (is_too_high c) h
      (λ _ k. is-rejected (Ok None) _ refl k.0)
      (λ _ k. either (is_unwanted old c) k
      (λ _ l. l.1)
      (λ _ l. enrols (preferred l.0 c) _ l.2)) where
        enrols : (c : CandidateRecord) (at : Option ℕ) → EnrolsAt old c at (Ok None) new → new ≡ old
        enrols c None h = not-found _ h.0
        enrols c (Some place) h = either (comes_again c (candidate_at old.local place)) h
            (λ _ k. not-found _ k.0)
            (λ _ k. either (nat_lt (candidate_priority c) (candidate_priority (candidate_at old.local place))) k
            (λ _ l. l.1)
            (λ _ l. not-found _ l.0))

  -- ---- a candidate is discarded

  module _ (old new : AgentRecord H P) (c : CandidateRecord) (p : PairRecord) (has : Has old.pairs p) where
    of-local : (place : ℕ) → local_to_discard c old ≡ Some place → new ≡ local_discarded place old → Persists p new.pairs ⊎ IsOfDiscarded old c p
    of-local place at made = by (is_local_at place p) refl where
      by : (b : Bool) → is_local_at place p ≡ b → Persists p new.pairs ⊎ IsOfDiscarded old c p
      by true is = inr (inl (at ∙ ap Some (sym (eqb-true p.local place is))))
      by false is = inl (subst (λ (a : AgentRecord H P). Persists p a.pairs) (sym made) (p, Has-kept (λ q. not (is_local_at place q)) old.pairs p has (ap not is), (refl, refl)))

    of-remote : (place : ℕ) → local_to_discard c old ≡ None → remote_to_discard c old ≡ Some place → new ≡ remote_discarded place old
        → Persists p new.pairs ⊎ IsOfDiscarded old c p
    of-remote place none at made = by (is_remote_at place p) refl where
      by : (b : Bool) → is_remote_at place p ≡ b → Persists p new.pairs ⊎ IsOfDiscarded old c p
      by true is = inr (inr (none, at ∙ ap Some (sym (eqb-true p.remote place is))))
      by false is = inl (subst (λ (a : AgentRecord H P). Persists p a.pairs) (sym made) (p, Has-kept (λ q. not (is_remote_at place q)) old.pairs p has (ap not is), (refl, refl)))

    discards : (l r : Option ℕ) (found : Bool) → local_to_discard c old ≡ l → remote_to_discard c old ≡ r → InvalidatesAt l r old found new
        → Persists p new.pairs ⊎ ((found ≡ true) × IsOfDiscarded old c p)
    discards (Some place) r found l_is r_is h = elim (of-local place l_is h.1) [ inl k ↦ inl k | inr gone ↦ inr (h.0, gone) ]
    discards None (Some place) found l_is r_is h = elim (of-remote place l_is r_is h.1) [ inl k ↦ inl k | inr gone ↦ inr (h.0, gone) ]
    discards None None found l_is r_is h = inl (keep-same old new h.1 p has)

  module _ (mac : H → List ℕ → List ℕ → List ℕ) (answers : P → CandidateRecord → ℕ → ℕ → Type 0) where
    module _ (old new : AgentRecord H P) (s t : Stream) (e : Entry) (p : PairRecord) (sound : IsSound old) (has : Has old.pairs p) where
      -- ---- each call

      kept : Keep old new → Persists p new.pairs
      kept k = k p has

      as-it-was : new ≡ old → Persists p new.pairs
      as-it-was made = kept (keep-same old new made)

      becomes : (needed : AgentRecord H P) → Keep old needed → new ≡ needed → Persists p new.pairs
      becomes needed k made = kept (keep-as old needed new k made)

      -- a path may be selected after it
      selects : (mid : AgentRecord H P) (path : Option Path) → Reselects (loses_selected old mid) mid path new → Persists p mid.pairs → Persists p new.pairs
      selects mid path h (q, there, same) =
          let k = keep-reselects (loses_selected old mid) mid new path h q there in (k.0, k.1, (k.2.0 ∙ same.0, k.2.1 ∙ same.1))

      as-before : (mid : AgentRecord H P) (path : Option Path) → Reselects (loses_selected old mid) mid path new → mid ≡ old → Persists p new.pairs
      as-before mid path h made = selects mid path h (keep-same old mid made p has)

      packet : (now : ℕ) (via : Path) (bytes : List ℕ) → Receives mac answers now old via bytes e new → Persists p new.pairs
      packet now via bytes (inl (fault, has_fault, is, made)) = as-it-was made
      packet now via bytes (inr (m, reads, (Ok true, emitted, is, (accepted, (mid, takes, made))))) = becomes (discovered_emitted m.class emitted via mid) (by-class mac m.class now old mid via m emitted takes) made
      packet now via bytes (inr (m, reads, (Ok false, emitted, is, (no_one, nothing, made)))) = as-it-was made
      packet now via bytes (inr (m, reads, (Err error, emitted, is, (may, nothing, made)))) = as-it-was made

      -- it is there with its checks, stores one more, or may be removed
      abbrev Lasts : Call P → Type 0
      Lasts call = Persists p new.pairs ⊎ (Sends mac old.timing.max_retransmits p e.emitted.issued new ⊎ MayEnd answers old call e p)

      timeout-by : (now : ℕ) (emitted : Emitted) (o : Option RequestRecord) → request_at now old ≡ o → e.answer ≡ Done → e.emitted ≡ emitted
          → MatchOption o (MaintainsPairs mac now (timeout_begun now old) s emitted new t) (λ q. ServesQueued mac q (at_request now (timeout_begun now old)) s emitted new t) → Lasts (HandleTimeout now)
      timeout-by now emitted None none is_done says h = elim (maintains_pairs mac now (timeout_begun now old) new s t emitted h p has) [
        | inl persists ↦ inl persists
        | inr more ↦
            inr (elim more [
              | inl sends ↦ inl (subst (λ (x : Emitted). Sends mac old.timing.max_retransmits p x.issued new) (sym says) sends)
              | inr gone ↦ inr (is_done, none, gone)
            ])
      ]
      timeout-by now emitted (Some q) is is_done says (h, drawn) = inl (kept (keep-serves mac q (first_taken (at_request now (timeout_begun now old))) new emitted h))

      lasts : (call : Call P) → Step mac answers old s call e new t → Lasts call
      lasts (SetMtu target warn) (Ok _, is, h, drawn) = inl (becomes _ (keeps-self old.pairs) h.1)
      lasts (SetMtu target warn) (Err error, is, h, drawn) = inl (as-it-was (mtu_kept old new target warn error h))
      lasts (SetControlTieBreaker tie) (is, made, drawn) = inl (becomes _ (keeps-self old.pairs) made)
      lasts (SetMaxCandidatePairs n) (is, made, drawn) = inl (becomes _ (keeps-self old.pairs) made)
      lasts (SetMaxDiscovered n) (is, made, drawn) = inl (becomes _ (keeps-self old.pairs) made)
      lasts (SetMaxCandidates n) (is, made, drawn) = inl (becomes _ (keeps-self old.pairs) made)
      lasts (SetIceLite lite) (is, made, drawn) = inl (becomes _ (keeps-self old.pairs) made)
      lasts (SetRenomination on) (is, made, drawn) = inl (becomes _ (keeps-self old.pairs) made)
      lasts (SetProfile profile) (is, made, drawn) = inl (becomes _ (keeps-self old.pairs) made)
      lasts (SetConsent consent) (is, made, drawn) = inl (becomes _ (keeps-self old.pairs) made)
      lasts (SetTimingAdvance by) (is, made, drawn) = inl (becomes _ (keeps-self old.pairs) made)
      lasts (SetInitialStunRto rto) (is, made, drawn) =
          inl (becomes (with_rtos rto old.timing.max_rto.0 old)
          (keeps-if (old.timing.initial_rto.0 == rto && old.timing.max_rto.0 == old.timing.max_rto.0) old.pairs (map undue old.pairs) (keeps-map undue old.pairs (λ q. (refl, refl)))) made)
      lasts (SetMaxStunRto rto) (is, made, drawn) =
          inl (becomes (with_rtos old.timing.initial_rto.0 rto old)
          (keeps-if (old.timing.initial_rto.0 == old.timing.initial_rto.0 && old.timing.max_rto.0 == rto) old.pairs (map undue old.pairs) (keeps-map undue old.pairs (λ q. (refl, refl)))) made)
      lasts (SetMaxStunRetransmits n) h = either (n == 0) h
          (λ _ k. inl (as-it-was k.1))
          (λ _ k. inl (becomes _ (keeps-self old.pairs) k.1))
      lasts (SetLiteTimeout by) (is, made, drawn) = inl (becomes _ (keeps-self old.pairs) made)
      lasts (SetLocalPreference object) (is, made, drawn) = inl (becomes _ (keeps-self old.pairs) made)
      lasts (SetControlling controlling) (is, made, drawn) = inl (becomes _ (keeps-self old.pairs) made)
      lasts (SetLocalCredentials creds) (Ok _, is, h, drawn) = inl (becomes _ (keeps-self old.pairs) h.1)
      lasts (SetLocalCredentials creds) (Err error, is, h, drawn) = inl (as-it-was (local_kept old new creds error h))
      lasts (SetRemoteCredentials creds) (Ok _, is, h, drawn) = inl (becomes _ (keeps-self old.pairs) h.1)
      lasts (SetRemoteCredentials creds) (Err error, is, h, drawn) = inl (as-it-was (remote_kept old new creds error h))
      lasts (SkipPairIds n) (is, made, drawn) = inl (becomes _ (keeps-self old.pairs) made)
      lasts (AddLocalCandidate c) (Ok (Some place), emitted, is, (path, mid, h, again, emits), drawn) =
          elim (local-leaves answers old mid c place p sound has h) [
            | inl there ↦ inl (selects mid path again (p, there, (refl, refl)))
            | inr ends ↦ inr (inr (ap (λ (x : Entry). x.answer) is, ends))
          ]
      lasts (AddLocalCandidate c) (Ok None, emitted, is, (path, mid, h, again, emits), drawn) =
          inl (as-before mid path again (none-entered answers old mid c h))
      lasts (AddLocalCandidate c) (Err error, emitted, is, (path, mid, h, again, emits), drawn) =
          inl (as-before mid path again (enrolment_kept answers old mid c error h))
      lasts (AddRemoteCandidate c) (Ok _, emitted, is, (path, mid, h, again, emits), drawn) = elim (remote-leaves old mid c p sound has h) [
        | inl there ↦ inl (selects mid path again (p, there, (refl, refl)))
        | inr ends ↦ inr (inr (ap (λ (x : Entry). x.answer) is, ends))
      ]
      lasts (AddRemoteCandidate c) (Err error, emitted, is, (path, mid, h, again, emits), drawn) =
          inl (as-before mid path again (storing_kept old mid c error h))
      lasts (InvalidateCandidate c) (found, emitted, is, (path, mid, h, again, emits), drawn) =
          elim (discards old mid c p has (local_to_discard c old) (remote_to_discard c old) found refl refl h) [
            | inl k ↦ inl (selects mid path again k)
            | inr gone ↦ inr (inr (ap (λ (x : Entry). x.answer) is ∙ ap Flag gone.0, gone.1))
          ]
      lasts (RestartIce creds keep) (Ok _, is, h, drawn) = inr (inr (ap (λ (x : Entry). x.answer) is))
      lasts (RestartIce creds keep) (Err error, is, h, drawn) = inl (as-it-was (restart_kept old new creds keep error h))
      lasts RecreateCandidatePairs (Ok _, is, h, drawn) = inr (inr (ap (λ (x : Entry). x.answer) is))
      lasts RecreateCandidatePairs (Err error, is, h, drawn) = inl (as-it-was (recreation_kept old new error h))
      lasts (ReceivePacket now via bytes) (h, drawn) = inl (packet now via bytes h)
      lasts (HandleTimeout now) (Ok _, emitted, is, h) = timeout-by now emitted (request_at now old) refl (ap (λ (x : Entry). x.answer) is) (ap (λ (x : Entry). x.emitted) is) h
      lasts (HandleTimeout now) (Err error, emitted, is, (may, nothing, made, drawn)) = inl (as-it-was made)
      lasts PollTransmit (given, is, (polled, made), drawn) = inl (becomes _ (keeps-self old.pairs) made)
      lasts PollTimeout (deadline, is, h, drawn) =
          inl (by_waking old new deadline h (λ made. as-it-was made)
          (λ at made. becomes _ (keeps-map (scheduled at old.timing) old.pairs (λ q. (refl, refl))) made))
      lasts PollEvent (given, is, (polled, made), drawn) = inl (becomes _ (keeps-self old.pairs) made)

    -- ---- the step

    -- the pair of the number is on its path
    on-path : (old new : AgentRecord H P) (call : Call P) (e : Entry) (p q : PairRecord) → IsSound old → PathEffect mac old call e new → Has old.pairs p → Has new.pairs q
        → q.number ≡ p.number → path_of new q ≡ path_of old p
    on-path old new call e p q sound f has there number = elim (f.numbers q there) [
      | inl (o, o_there, o_number, path, valid, nominated) ↦
          (let one : o ≡ p = one_pair old.pairs o p (rising-each old.pairs sound.rising) o_there has (o_number ∙ number) in
          subst (λ (x : PairRecord). path_of new q ≡ path_of old x) one (sym path))
      | inr fresh ↦
          (let lt : p.number < old.next_number = below-each old.next_number old.pairs sound.below p has in
          let le : old.next_number ≤ q.number = fresh.0 in
          absurd (let no : ⊥ = omega (arith, lt, le, number) in no))
    ]

    pub pairs-keep-checks : PairsKeepChecks {H = H} {P = P} mac answers
    pairs-keep-checks old new s t call e p sound given step has = by (lasts old new s t e p sound has call step) where
      effect : PathEffect mac old call e new
      effect = (path_theorem mac answers old new s t call e sound given step).0

      path-of : (q : PairRecord) → Has new.pairs q → q.number ≡ p.number → path_of new q ≡ path_of old p
      path-of q there number = on-path old new call e p q sound effect has there number

      sent : Sends mac old.timing.max_retransmits p e.emitted.issued new → Follows old e p new
      sent (q, there, number, (c, checks, (r, r_there, r_number, is))) = record {
        pair = q;
        there = there;
        number = number;
        path = path-of q there number;
        checks = inr (c, is ∙ ap (λ via. Some (issued_as via class.Request c.id)) (path-of r r_there r_number), search (checks));
      }

      by : Persists p new.pairs ⊎ (Sends mac old.timing.max_retransmits p e.emitted.issued new ⊎ MayEnd answers old call e p) → Follows old e p new ⊎ MayEnd answers old call e p
      by (inl (q, there, (number, checks))) = inl (record { pair = q; there = there; number = number; path = path-of q there number; checks = inl checks })
      by (inr (inl sends)) = inl (sent sends)
      by (inr (inr ends)) = inr ends

    -- after one more check the last ones still contain this one
    kept-following : (kept later : ℕ) (before following : List Check) (check c : Check) → length following ≡ later → suc later < kept
        → (front : List Check) × (last_checks kept ((before ++ check ∷ following) ++ c ∷ []) ≡ front ++ check ∷ (following ++ c ∷ []))
    kept-following kept later before following check c count lt =
        let rear = check ∷ (following ++ c ∷ []) in
        let joined : (before ++ check ∷ following) ++ c ∷ [] ≡ before ++ rear = append_assoc before (check ∷ following) (c ∷ []) in
        let long : length (before ++ rear) ≡ length before + length rear = length-append before rear in
        let more : length (following ++ c ∷ []) ≡ length following + 1 = length-append following (c ∷ []) in
        let within : length (before ++ rear) - kept ≤ length before = omega (arith, long, more, count, lt) in
        (drop (length (before ++ rear) - kept) before, ap (λ ys. last_checks kept ys) joined ∙ drop-append-le (length (before ++ rear) - kept) before rear within)

    pub checks-pend : ChecksPend {H = H} {P = P} mac answers
    checks-pend old new s t call e number path check later sound given step k = elim (pairs-keep-checks old new s t call e k.pair sound given step k.there) [
      | inl f ↦ by f f.checks
      | inr ends ↦ inr (inr (k.pair, k.there, k.numbered, k.on, ends))
    ] where
      stays : (f : Follows old e k.pair new) (before following : List Check) (n : ℕ) → sent_of f.pair ≡ before ++ check ∷ following → length following ≡ n → Pends new number path check n
      stays f before following n split count = record {
        pair = f.pair;
        there = f.there;
        numbered = f.number ∙ k.numbered;
        on = f.path ∙ k.on;
        before = before;
        following = following;
        split = split;
        count = count;
      }

      room : (b : Bool) → nat_lt (suc later) old.timing.max_retransmits ≡ b → (suc later < old.timing.max_retransmits) ⊎ (old.timing.max_retransmits ≤ suc later)
      room true is = inl (ltb-true (suc later) old.timing.max_retransmits is)
      room false is = inr (ltb-false (suc later) old.timing.max_retransmits is)

      by : (f : Follows old e k.pair new) → (sent_of f.pair ≡ sent_of k.pair) ⊎ SendsLater old e k.pair f.pair
          → Pends new number path check later ⊎ (PendsAfter old e number path check later new ⊎ EndsOf answers old call e number path)
      by f (inl same) = inl (stays f k.before k.following later (same ∙ k.split) k.count)
      by f (inr (c, out, sent)) = inr (inl (
        c.id,
        out ∙ ap (λ via. Some (issued_as via class.Request c.id)) k.on,
        elim (room (nat_lt (suc later) old.timing.max_retransmits) refl) [
          | inl lt ↦
              (let m = kept-following old.timing.max_retransmits later k.before k.following check c k.count lt in
              let count : length (k.following ++ c ∷ []) ≡ suc later = length-append k.following (c ∷ []) ∙ (let own = k.count in omega (arith, own)) in
              inl (stays f m.0 (k.following ++ c ∷ []) (suc later) (sent ∙ (ap (λ cs. last_checks old.timing.max_retransmits (cs ++ c ∷ [])) k.split ∙ m.1)) count))
          | inr ge ↦ inr (omega (arith, ge))
        ],
      ))

    -- ---- a per-agent execution

    fewer : (b : Bool) (n : ℕ) → n ≤ (if b then suc n else n)
    fewer true n = omega arith
    fewer false n = omega arith

    pub checks-pend-along : ChecksPendAlong {H = H} {P = P} mac answers
    checks-pend-along old new [] number path check later limit sound is keeps k lt =
        inl (later, omega arith, subst (λ (a : AgentRecord H P). Pends a number path check later) (sym is) k)
    checks-pend-along old new (x ∷ rest) number path check later limit sound (mid, s, t, based, step, more) (enough, keeps) k lt =
        by (λ n l room. checks-pend-along mid new rest number path check n limit (path_theorem mac answers old mid s t x.0 x.1 sound based step).1 more keeps l room)
        (checks-pend old mid s t x.0 x.1 number path check later sound based step k) where
          Goal : Type 0
          Goal = ((n : ℕ) × (n ≤ later + checks_on path (x ∷ rest)) × Pends new number path check n) ⊎ EndsAlong mac answers (x ∷ rest) old new (mid, s, t, based, step, more) path

          -- the statement for the remaining calls
          Onward : Type 0
          Onward = (n : ℕ) → Pends mid number path check n → n + checks_on path rest < limit
              → ((m : ℕ) × (m ≤ n + checks_on path rest) × Pends new number path check m) ⊎ EndsAlong mac answers rest mid new more path

          less : checks_on path rest ≤ checks_on path (x ∷ rest)
          less = fewer (is_check_on path x.1.emitted.issued) (checks_on path rest)

          from : Onward → (n : ℕ) → n + checks_on path rest ≤ later + checks_on path (x ∷ rest) → Pends mid number path check n → Goal
          from onward n within l = elim (onward n l (omega (arith, within, lt))) [
            | inl (m, le, still) ↦ inl (m, omega (arith, le, within), still)
            | inr ends ↦ inr (inr ends)
          ]

          by : Onward → Pends mid number path check later ⊎ (PendsAfter old x.1 number path check later mid ⊎ EndsOf answers old x.0 x.1 number path) → Goal
          by onward (inl l) = from onward later (let f = less in omega (arith, f)) l
          by onward (inr (inl (id, out, holds))) =
              let one : checks_on path (x ∷ rest) ≡ suc (checks_on path rest) =
              ap (λ b. if b then suc (checks_on path rest) else checks_on path rest) (is-on path x.1.emitted.issued id out) in
              elim holds [
                | inl l ↦ from onward (suc later) (omega (arith, one)) l
                | inr full ↦ absurd (let none : ⊥ = omega (arith, one, full, enough, lt) in none)
              ]
          by onward (inr (inr (p, has, own, path_is, ends))) =
              inr (inl (p, has, (ap (λ (w : Path). w.source) path_is, ap (λ (w : Path). w.destination) path_is), ends))

    -- ---- exchanges

    -- the check that is sent is pending
    begun : (now : ℕ) (via : Path) (id : List ℕ) (sent : AgentRecord H P) → Checks mac answers now via id sent → PairRecord
    begun now via id sent k = if nominates_at_once k.old then renominated k.pair else k.pair

    pends-now : (now : ℕ) (via : Path) (id : List ℕ) (sent : AgentRecord H P) → 0 < sent.timing.max_retransmits → (k : Checks mac answers now via id sent)
        → Pends sent k.pair.number via (check_of now k.old.controlling id (begun now via id sent k)) 0
    unfolding begun
    pends-now now via id sent some k = subst (λ (a : AgentRecord H P). Pends a k.pair.number via c 0) (sym k.made) (record {
      pair = after;
      there = subst (λ ps. Has ps after) (sym (sent-pairs begins k.pair.number now k.old.timing k.old.controlling id k.old.pairs))
          (subst (λ (x : PairRecord). Has (change_pair k.pair.number (sent_at begins now k.old.timing k.old.controlling id) k.old.pairs) x)
          (ap (λ b. if b then after else k.pair) (number_same k.pair.number))
          (Has-mapped (change_at k.pair.number (sent_at begins now k.old.timing k.old.controlling id)) k.old.pairs k.pair k.has));
      numbered = sent-number begins now k.old.timing k.old.controlling id k.pair;
      on = by-begins begins (λ x. path_of needed x ≡ via) now k.old.timing k.old.controlling id k.pair k.path k.path;
      before = drop (length (sent_of k.pair ++ c ∷ []) - kept) (sent_of k.pair);
      following = [];
      split = stores begins ∙ drop-append-le (length (sent_of k.pair ++ c ∷ []) - kept) (sent_of k.pair) (c ∷ []) within;
      count = refl;
    }) where
      needed : AgentRecord H P
      needed = check_sent mac now k.remote k.pair id k.old

      begins : Bool
      begins = nominates_at_once k.old

      kept : ℕ
      kept = k.old.timing.max_retransmits

      c : Check
      c = check_of now k.old.controlling id (begun now via id sent k)

      after : PairRecord
      after = sent_at begins now k.old.timing k.old.controlling id k.pair

      stores : (b : Bool) → sent_of (sent_at b now k.old.timing k.old.controlling id k.pair)
          ≡ last_checks kept (sent_of k.pair ++ check_of now k.old.controlling id (if b then renominated k.pair else k.pair) ∷ [])
      stores true = sent-last kept (renominated k.pair) (check_of now k.old.controlling id (renominated k.pair)) refl
      stores false = sent-last kept k.pair (check_of now k.old.controlling id k.pair) refl

      positive : 0 < kept
      positive = subst (λ (a : AgentRecord H P). 0 < a.timing.max_retransmits) k.made some

      within : length (sent_of k.pair ++ c ∷ []) - kept ≤ length (sent_of k.pair)
      within = let long : length (sent_of k.pair ++ c ∷ []) ≡ length (sent_of k.pair) + 1 = length-append (sent_of k.pair) (c ∷ []) in let more = positive in omega (arith, long, more)

    -- and is stored while it is pending
    pends-kept : (a : AgentRecord H P) (number : ℕ) (path via : Path) (check : Check) (later : ℕ) → is_reverse via path ≡ true → Pends a number path check later
        → list_any (keeps_check_on a via check.id) a.pairs ≡ true
    pends-kept a number path via check later back k =
        let has : Has (sent_of k.pair) check = subst (λ cs. Has cs check) (sym k.split) (Has-rear k.before (check ∷ k.following) check (inl refl)) in
        let o = Has-map as_sent k.pair.checks check has in
        let own : has_id check.id o.0 ≡ true = ap (λ (x : Check). bytes_eq x.id check.id) o.2 ∙ bytes_same check.id in
        let kept : keeps_check check.id k.pair ≡ true = any_has (has_id check.id) k.pair.checks o.0 o.1 own in
        any_has (keeps_check_on a via check.id) a.pairs k.pair k.there
        (ap (λ b. b && is_reverse via (path_of a k.pair)) kept ∙ (ap (λ w. is_reverse via w) k.on ∙ back))

    -- the check that was sent is still stored, or such a pair may have been removed
    pub still-kept : (k : SentCheck mac answers) (b : AgentRecord H P) (answer : Packet) (r : ReturnedWhilePending mac answers k b answer) → is_reverse (via_out answer) (via_out k.check) ≡ true
        → (list_any (keeps_check_on r.mid (via_out answer) k.id) r.mid.pairs ≡ true) ⊎ EndsAlong mac answers r.calls k.sent r.mid r.execution (via_out k.check)
    still-kept k b answer r returns =
        let sound = sound-sent mac answers k in
        let x = checks-as mac answers k.sender k.sent k.before k.following k.now (via_out k.check) k.id k.timeout k.sends.emitted k.step in
        let c : Check = check_of k.now x.old.controlling k.id (begun k.now (via_out k.check) k.id k.sent x) in
        let few = r.few in
        elim (checks-pend-along k.sent r.mid r.calls x.pair.number (via_out k.check) c 0 r.limit sound r.execution (search r.keeps) (pends-now k.now (via_out k.check) k.id k.sent sound.checks x) (omega (arith, few))) [
          | inl (n, le, still) ↦ inl (pends-kept r.mid x.pair.number (via_out k.check) (via_out answer) c n returns still)
          | inr ends ↦ inr ends
        ]

    valid-by : (taken : AgentRecord H P) (answer : Packet) (back : ℕ) (returned : Entry) → IsTaken {H = H} {P = P} mac answers answer back returned class.Success
        → AnswersAreValid (ReceivePacket back (via_out answer) answer.contents) returned taken → IsValidBy mac answers taken (via_out answer)
    valid-by taken answer back returned (m, brings, class_is) valid = found (valid back (via_out answer) m brings class_is) where
      found : (p : PairRecord) × Has taken.pairs p × (keeps_check_on taken (via_out answer) m.id p ≡ true) × (is_valid p ≡ true) → IsValidBy mac answers taken (via_out answer)
      found (p, has, keeps, is) = (p, has, (both (keeps_check m.id p) (is_reverse (via_out answer) (path_of taken p)) keeps).1, is)

    pub carried-succeed-later : CarriedAreServed {H = H} {P = P} mac answers → CarriedAreAccepted {H = H} {P = P} mac answers → CarriedSucceedLater {H = H} {P = P} mac answers
    carried-succeed-later served_law accepted_law k c apart = (s, returns) where
      got : ReceivedPacket mac answers c.came
      got = c.receipt

      s : ServedCheck mac answers k c.came got
      s =
          let taken = served_law k.sender k.sent got.receiver got.served k.check c.came k.id got.at got.handed (search k.sound) (search got.sound) (search c.know) (search apart) (search got.reached)
          (issued-check mac answers k) (search c.unaltered) (search got.delivered) in
          record { taken = taken.0; reply = taken.1.0; via_back = taken.1.1; sends = taken.1.2 }

      returns : (r : CarriedBack mac answers k c s.reply) → SucceedsOrEnds mac answers k got.receiver r.answer r.receipt
      returns r = elim (still-kept k got.receiver r.answer r.receipt (search r.back)) [
        | inl still ↦
            (let b = r.receipt in
            let is_taken = accepted_law b.mid b.taken got.receiver got.served s.reply r.answer k.id b.at b.returned got.sound (search b.know) (issued-reply mac answers k c.came got s) (search r.unaltered) still b.delivered in
            let sound_mid = sound-execution mac answers b.calls k.sent b.mid (sound-sent mac answers k) b.execution in
            let effect = (path_theorem mac answers b.mid b.taken b.delivered.before b.delivered.following (ReceivePacket b.at (via_out r.answer) r.answer.contents) b.returned sound_mid tt b.delivered.step).0 in
            inl (is_taken, valid-by b.taken r.answer b.at b.returned is_taken effect.taken))
        | inr ends ↦ inr ends
      ]

    -- the network of today is the one that rewrites nothing
    pub exchanges-succeed-later : CarriedSucceedLater {H = H} {P = P} mac answers → ExchangesSucceedLater {H = H} {P = P} mac answers
    exchanges-succeed-later law k c know apart =
        let e = law k (record { came = k.check; unaltered = refl; receipt = c; know = know }) (inl apart) in (
          e.0,
          λ r. e.1 (record {
            answer = e.0.reply;
            unaltered = refl;
            back = subst (λ w. is_reverse w (via_out k.check) ≡ true) (sym e.0.via_back) (back_again (via_out k.check));
            receipt = r;
          }),
        )

-- An agent that is connected after a `handle_timeout` call has selected the path of a pair with consent.
use Rattle.is_theorems.proofs.Common.{[], ◌++◌, ◌∙◌, ◌∷◌, ◌≡◌, AgentRecord, answer_by, ap, at_request, CandidateRecord}
use Rattle.is_theorems.proofs.Common.{ConnectedHaveConsent, Done, done, Emitted, Entry, Err, false, HandleTimeout, IceError, is_connected}
use Rattle.is_theorems.proofs.Common.{is_nominated, is_valid, IsSound, List, MaintainsPairs, MatchOption, None, Ok, refl, Rejected}
use Rattle.is_theorems.proofs.Common.{request_at, Result, selected_along, ServesQueued, Stream, subst, sym, timeout_begun, TimesOut, true}
use Rattle.is_theorems.proofs.Common.{ℕ}
use Rattle.is_theorems.proofs.BasicLemmas.EqualAddresses.{both}
use Rattle.is_theorems.proofs.CallEffects.FailedCallsAndNewAgents.{fresh_sound}
use Rattle.is_theorems.proofs.CallEffects.PathAndTradeEffects.{path_theorem}
use Rattle.is_theorems.proofs.ConnectedConsent.ConnectedPairs.{maintained-backed}
use Rattle.is_theorems.proofs.PathSelection.NominatedByPeerPerAgent.{execution_on, names-from}
use Rattle.is_theorems.proofs.PathSelection.SelectedAfterResponse.{nominated-eligible}
use Rattle.is_theorems.proofs.PathSelection.SelectedPairIsNominated.{names-best}
use Rattle.is_theorems.proofs.PunctualTimeouts.ConsentInTime.{consent-holds}
use Rattle.is_theorems.proofs.StoredPairs.TransactionsOverPackets.{sound-execution}

module _ {H P : Type 0} (mac : H → List ℕ → List ℕ → List ℕ) where
  -- a call that did not fail, and served no early request
  pub succeeded : (now : ℕ) (e : Entry) (old new : AgentRecord H P) (s t : Stream) → e.answer ≡ Done
      → (r : Result (Unit {0}) IceError) (emitted : Emitted) → e ≡ record { answer = answer_by done r; emitted = emitted } → TimesOut mac now old s r emitted new t
      → TimesOut mac now old s (Ok tt) emitted new t
  succeeded now e old new s t finished (Ok u) emitted is h = h
  succeeded now e old new s t finished (Err error) emitted is h =
      absurd (let no : Rejected error ≡ Done = sym (ap (λ (x : Entry). x.answer) is) ∙ finished in cc)

  pub maintained : (now : ℕ) (old new : AgentRecord H P) (s t : Stream) (emitted : Emitted) → request_at now old ≡ None → TimesOut mac now old s (Ok tt) emitted new t
      → MaintainsPairs mac now (timeout_begun now old) s emitted new t
  maintained now old new s t emitted none h =
      subst (λ o. MatchOption o (MaintainsPairs mac now (timeout_begun now old) s emitted new t) (λ q. ServesQueued mac q (at_request now (timeout_begun now old)) s emitted new t)) none h

  pub connected-have-consent : (answers : P → CandidateRecord → ℕ → ℕ → Type 0) → ConnectedHaveConsent mac answers
  connected-have-consent answers before now timeout last c =
      let sound_first : IsSound c.first = subst (λ (a : AgentRecord H P). IsSound a) (sym c.fresh.2) (fresh_sound H P c.first.provider c.fresh.0 c.fresh.1) in
      let sound_near = sound-execution mac answers before c.first c.near sound_first c.execution in
      let finished : timeout.answer ≡ Done = search c.done in
      let none : request_at now c.near ≡ None = search c.unqueued in
      let full : c.near.lite ≡ false = search c.full in
      let is_connected_now : is_connected last.state ≡ true = search c.connected in
      let e = c.step in
      let call = succeeded now timeout c.near last c.drawn c.left finished e.0 e.1 e.2 e.3 in
      let p = maintained-backed mac now c.near last c.drawn c.left e.1 (maintained now c.near last c.drawn c.left e.1 none call) is_connected_now in
      let is = both (is_valid p.0) (is_nominated p.0) p.2 in
      let able = nominated-eligible last.controlling p.0 is.0 is.1 in
      let all = before ++ (HandleTimeout now, timeout) ∷ [] in
      let whole = execution_on mac answers before ((HandleTimeout now, timeout) ∷ []) c.first c.near last c.execution (last, c.drawn, c.left, tt, c.step, refl) in
      let named = names-from mac answers all c.first last sound_first (ap (λ (a : AgentRecord H P). a.pairs) c.fresh.2) whole in
      let effect = (path_theorem mac answers c.near last c.drawn c.left (HandleTimeout now) timeout sound_near tt c.step).0 in
      let top = names-best last (selected_along None all) p.0 p.1 able named (effect.points (finished, none)) in
      let consent = consent-holds P mac c.near last now c.drawn c.left e.1 (record { full = full; unqueued = none; call = call }) top.0 top.1 in
      (top.0, top.1, top.2, top.3, consent)

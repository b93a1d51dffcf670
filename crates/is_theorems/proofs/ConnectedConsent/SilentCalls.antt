-- Calls in which no response and no request arrives on a path, and `handle_timeout` calls: the times from which consent on it is counted stay.
use Rattle.is_stun.specs.declared.header.Class.TheVariants as class
use Rattle.is_theorems.proofs.Common.{◌⊎◌, each-way, formed, formed_again}
use Rattle.is_theorems.proofs.Common.{◌∙◌, ◌≡◌, AcceptsSuccessOn, AddLocalCandidate, AddRemoteCandidate, AddsLocal, AddsRemote, AgentRecord}
use Rattle.is_theorems.proofs.Common.{ap, appended, as_remote, scheduled, Bool, Brings, Call, CandidateRecord, Class, Combination}
use Rattle.is_theorems.proofs.Common.{discovered_emitted, Emitted, enabled_again, Entry, Err, false, FormsAll, HandlesFailure}
use Rattle.is_theorems.proofs.Common.{HandlesSuccess, HandleTimeout, Has, IceError, inl, inr, is_in_round, is_local_at, is_reverse, IsSound}
use Rattle.is_theorems.proofs.Common.{keeps_check_on, List, local_discarded, loses_selected, MaintainsPairs, map, Message, None, not, Ok}
use Rattle.is_theorems.proofs.Common.{Option, PairRecord, Path, path_of, PollEvent, PollTimeout, PollTransmit, ReceivePacket, Receives}
use Rattle.is_theorems.proofs.Common.{refl, request_in, Result, reversed, SetControlling, SetControlTieBreaker, SetLocalCredentials}
use Rattle.is_theorems.proofs.Common.{SetLocalPreference, SetMaxCandidatePairs, SetMaxCandidates, SetMaxDiscovered, SetMtu, SetRenomination, SetTimingAdvance}
use Rattle.is_theorems.proofs.Common.{Some, Step, Stream, subst, switched_sides, sym, Takes, timeout_begun, true, with_priority_in}
use Rattle.is_theorems.proofs.Common.{with_remote, ℕ}
use Rattle.is_theorems.proofs.BasicLemmas.EqualAddresses.{both}
use Rattle.is_theorems.proofs.CallEffects.AddedCandidates.{by_adding_local, by_adding_remote, by_waking}
use Rattle.is_theorems.proofs.CallEffects.ChangedCandidates.{discards_local, local_changes, remote_changes}
use Rattle.is_theorems.proofs.CallEffects.ChecksAndResponses.{Has-get, Has-set, local_joins}
use Rattle.is_theorems.proofs.CallEffects.FailedCallsAndNewAgents.{enrolment_kept, local_kept, mtu_kept, storing_kept}
use Rattle.is_theorems.proofs.CallEffects.PathAndTradeEffects.{path_theorem}
use Rattle.is_theorems.proofs.CallEffects.ServedRequests.{remote_joins}
use Rattle.is_theorems.proofs.ConnectedConsent.SilentPairs.{Carried, carried-over, forms-over, Goes, IsOver, made-over, moved-over, over-as, over-new}
use Rattle.is_theorems.proofs.ConnectedConsent.SilentPairs.{PairsOver, parts, reselects-over}
use Rattle.is_theorems.proofs.ConnectedConsent.SilentRequests.{requested-over}
use Rattle.is_theorems.proofs.DuePairs.AfterNominationAndRemoval.{nominates-thins}
use Rattle.is_theorems.proofs.DuePairs.ConsentAfterTimeouts.{maintains-consents}
use Rattle.is_theorems.proofs.ExecutionLogs.LogSegments.{no-case}
use Rattle.is_theorems.proofs.PathSelection.NominationPoints.{All1, All3, AllNumbers, fit_of}
use Rattle.is_theorems.proofs.RuleEffects.ChangedPairs.{Has-map}
use Rattle.is_theorems.proofs.RuleEffects.EarlierAndNewPairs.{Fit, Has-filter, Has-push}
use Rattle.is_theorems.proofs.RuleEffects.NotedErrors.{coded, recoded, by_failure}

-- no response and no request arrives on the path in this call
pub record IsSilent {P : Type 0} (strict : Bool) (path : Path) (call : Call P) (e : Entry) : Type 0 where
  pub unanswered : AcceptsSuccessOn call e path → ⊥
  pub unasked : strict ≡ false → (at : ℕ) (by : Path) (m : Message) → Brings call e at by m → m.class ≡ class.Request → reversed by ≡ path → ⊥

module _ {H P : Type 0} (mac : H → List ℕ → List ℕ → List ℕ) (answers : P → CandidateRecord → ℕ → ℕ → Type 0) (strict : Bool) (sent heard : ℕ) (path : Path) where
  abbrev Over : AgentRecord H P → Type 0
  Over a = PairsOver strict sent heard path a

  abbrev FitIn : AgentRecord H P → Type 0
  FitIn a = Fit (parts strict sent heard path a)

  made-of : (old new : AgentRecord H P) → new ≡ old → Over old → Over new
  made-of old new made o = made-over strict sent heard path old new made o

  moved : (old new : AgentRecord H P) → FitIn old → Goes (parts strict sent heard path old) (parts strict sent heard path new) → ((p : PairRecord) → Has new.pairs p → Has old.pairs p) → Over old → Over new
  moved old new fit goes among o = moved-over strict sent heard path (parts strict sent heard path old) (parts strict sent heard path new) fit goes among o

  same-over : (f : PairRecord → PairRecord) (old : AgentRecord H P) → ((p : PairRecord) → ((f p).local ≡ p.local) × ((f p).remote ≡ p.remote) × ((f p).consented ≡ p.consented) × ((f p).last_request ≡ p.last_request))
      → Over old → Over (record old { pairs = map f old.pairs })
  same-over f old same o p has on =
      let k = Has-map f old.pairs p has in let s = same k.0 in
      subst (λ (x : PairRecord). IsOver strict sent heard path x) k.2
      (over-as strict sent heard path k.0 (f k.0) s.2 s.3
      (o k.0 k.1 ((ap (λ l. path_of old (record k.0 { local = l })) (sym s.0) ∙ ap (λ r. path_of old (record k.0 { local = (f k.0).local; remote = r })) (sym s.1))
      ∙ (ap (λ (x : PairRecord). path_of old x) k.2 ∙ on))))

  -- ---- candidates

  adds-local : (old new : AgentRecord H P) (c : CandidateRecord) (r : Result (Option ℕ) IceError) → FitIn old → AddsLocal answers old c r new → Over old → Over new
  adds-local old new c (Ok place) fit h o = by_adding_local old new answers c place h
      (λ made. made-of old new made o)
      (λ x based f. joins old x _ fit f o)
      (λ k lt f. forms-over strict sent heard path (enabled_again k old) new _ f
      (moved old (enabled_again k old) fit (local_changes AllNumbers All1 All3 (parts strict sent heard path old) k _ fit refl refl) (λ p has. has) o))
      (λ x based k f. (
      let gone = discards_local AllNumbers All1 All3 old k fit in
      joins (local_discarded k old) x _ gone.fit f
      (moved old (local_discarded k old) fit gone (λ p has. Has-filter (λ (p : PairRecord). not (is_local_at k p)) old.pairs p has) o))) where
        joins : (mid : AgentRecord H P) (x : CandidateRecord) (all : List Combination) → FitIn mid → FormsAll (appended x mid) all new → Over mid → Over new
        joins mid x all fit f o = forms-over strict sent heard path (appended x mid) new all f
            (moved mid (appended x mid) fit (local_joins AllNumbers All1 All3 (parts strict sent heard path mid) x fit) (λ p has. has) o)
  adds-local old new c (Err error) fit h o = made-of old new (enrolment_kept answers old new c error h) o

  adds-remote : (old new : AgentRecord H P) (c : CandidateRecord) (r : Result (Unit {0}) IceError) → FitIn old → AddsRemote old c r new → Over old → Over new
  adds-remote old new c (Ok _) fit h o = by_adding_remote old new c h
      (λ made. made-of old new made o)
      (λ f. forms-over strict sent heard path (with_remote (as_remote c) None old) new _ f
      (moved old (with_remote (as_remote c) None old) fit (remote_joins AllNumbers All1 All3 (parts strict sent heard path old) (as_remote c) fit) (λ p has. has) o))
      (λ k lt same f. forms-over strict sent heard path (with_remote (as_remote c) (Some k) old) new _ f
      (moved old (with_remote (as_remote c) (Some k) old) fit (remote_changes AllNumbers All1 All3 (parts strict sent heard path old) k (as_remote c) fit (sym same)) (λ p has. has) o))
  adds-remote old new c (Err error) fit h o = made-of old new (storing_kept old new c error h) o

  -- ---- packets

  -- each pair was there before, or is formed again
  again-has : (s : AgentRecord H P) (p : PairRecord) → Has (formed_again s).pairs p → Has s.pairs p ⊎ ((i j : ℕ) × (formed s i j ≡ p))
  again-has s p = each-way (λ a. Has a.pairs p → Has s.pairs p ⊎ ((i j : ℕ) × (formed s i j ≡ p))) s (λ has. inl has)
      (λ i j may has. elim (Has-push s.pairs (formed s i j) p has) [ inl was ↦ inl was | inr is ↦ inr (i, j, is) ])

  success : (now : ℕ) (old new : AgentRecord H P) (via : Path) (m : Message) (emitted : Emitted) → HandlesSuccess now old via m emitted new
      → Carried strict sent heard path (λ p. keeps_check_on old via m.id p ≡ true) old new
  success now old new via m emitted (recorded, (i, p, after, found, keeps, (place, c, at, took), made), (named, mid, nominates, is, done)) q has =
      let thinned = (nominates-thins 0 (formed_again recorded) mid named nominates).1 in
      let k = thinned.back q (subst (λ (a : AgentRecord H P). Has a.pairs q) done has) in
      elim (again-has recorded k.0 k.1) [
        | inl there ↦ inl (elim (Has-set old.pairs i after k.0 (subst (λ (a : AgentRecord H P). Has a.pairs k.0) made there)) [
          | inl was ↦ (k.0, was, k.2.number, inl (k.2.consented, k.2.heard))
          | inr now_is ↦ (
            p,
            Has-get old.pairs i p found,
            k.2.number ∙ (ap (λ (x : PairRecord). x.number) (sym now_is) ∙ ap (λ (x : PairRecord). x.number) took),
            inr keeps,
          )
        ])
        | inr (j, r, is_new) ↦ inr (over-as strict sent heard path k.0 q k.2.consented k.2.heard
            (subst (λ (x : PairRecord). IsOver strict sent heard path x) is_new (over-new strict sent heard path (formed recorded j r) refl refl)))
      ]

  failure : (old new : AgentRecord H P) (via : Path) (m : Message) (emitted : Emitted) → HandlesFailure old via m emitted new → Over old → Over new
  failure old new via m emitted h o =
      by_failure (λ _ a. Over a) old new via m emitted notes
      (λ code. same-over (with_priority_in (switched_sides old)) (recoded code old) (λ p. (refl, refl, refl, refl)) (notes code)) h where
        notes : (code : PairRecord → Option ℕ) → Over (recoded code old)
        notes code = same-over (coded code) old (λ p. (refl, refl, refl, refl)) o

  -- what an accepted message does
  module _ (now : ℕ) (via : Path) (bytes : List ℕ) (m : Message) (e : Entry) (silent : IsSilent {P = P} strict path (ReceivePacket now via bytes) e)
      (brings : Brings {P = P} (ReceivePacket now via bytes) e now via m) where
    by-class : (c : Class) → m.class ≡ c → (old mid new : AgentRecord H P) (s t : Stream) (emitted : Emitted) → IsSound old → Step mac answers old s (ReceivePacket now via bytes) e new t
        → Takes mac c now old via m emitted mid → new ≡ discovered_emitted m.class emitted via mid → Over old → Over new
    by-class class.Request is old mid new s t emitted sound step h made o = made-over strict sent heard path (discovered_emitted m.class emitted via mid) new made
        (requested-over mac strict sent heard path (request_in now via m) (λ loose back. silent.unasked loose now via m brings is back) old.remote_creds old mid emitted sound.based (fit_of old sound) h o)
    by-class class.Success is old mid new s t emitted sound step h made o =
        carried-over strict sent heard path (λ p. keeps_check_on old via m.id p ≡ true) old new sound (path_theorem mac answers old new s t (ReceivePacket now via bytes) e sound tt step).0.numbers
        (λ p keeps on. silent.unanswered (now, via, m, brings, is, ap (λ w. is_reverse via w) (sym on) ∙ (both _ (is_reverse via (path_of old p)) keeps).1))
        (λ q has. success now old mid via m emitted h q (subst (λ (a : AgentRecord H P). Has a.pairs q) made has)) o
    by-class class.Failure is old mid new s t emitted sound step h made o = made-over strict sent heard path (discovered_emitted m.class emitted via mid) new made (failure old mid via m emitted h o)
    by-class class.Indication is old mid new s t emitted sound step h made o = absurd h
    by-class class.Unknown is old mid new s t emitted sound step h made o = absurd h

  packet : (now : ℕ) (via : Path) (bytes : List ℕ) (e : Entry) (old new : AgentRecord H P) (s t : Stream) → IsSilent {P = P} strict path (ReceivePacket now via bytes) e → IsSound old
      → Step mac answers old s (ReceivePacket now via bytes) e new t → Receives mac answers now old via bytes e new → Over old → Over new
  packet now via bytes e old new s t silent sound step (inl (fault, has, is, made)) o = made-of old new made o
  packet now via bytes e old new s t silent sound step (inr (m, reads, (Ok false, emitted, is, (rejected, nothing, made)))) o = made-of old new made o
  packet now via bytes e old new s t silent sound step (inr (m, reads, (Ok true, emitted, is, (accepted, (mid, takes, made))))) o =
      by-class now via bytes m e silent (refl, refl, reads, ap (λ (x : Entry). x.answer) is) m.class refl old mid new s t emitted sound step takes made o
  packet now via bytes e old new s t silent sound step (inr (m, reads, (Err error, emitted, is, (may, nothing, made)))) o = made-of old new made o

  -- ---- calls

  pub step-over : (call : Call P) (e : Entry) (old new : AgentRecord H P) (s t : Stream) → is_in_round true call ≡ true → IsSilent strict path call e → IsSound old
      → Step mac answers old s call e new t → Over old → Over new
  step-over (ReceivePacket at via bytes) e old new s t is silent sound (h, drawn) o = packet at via bytes e old new s t silent sound (h, drawn) h o
  step-over PollTransmit e old new s t is silent sound (given, reported, (polled, made), drawn) o = subst (λ (a : AgentRecord H P). Over a) (sym made) o
  step-over PollTimeout e old new s t is silent sound (deadline, reported, h, drawn) o = by_waking old new deadline h
      (λ made. made-of old new made o)
      (λ at made. subst (λ (a : AgentRecord H P). Over a) (sym made) (same-over (scheduled at old.timing) old (λ p. (refl, refl, refl, refl)) o))
  step-over PollEvent e old new s t is silent sound (given, reported, (polled, made), drawn) o = subst (λ (a : AgentRecord H P). Over a) (sym made) o
  step-over (AddLocalCandidate c) e old new s t is silent sound (r, emitted, reported, (named, mid, h, again, emits), drawn) o =
      reselects-over strict sent heard path (loses_selected old mid) mid new named again (adds-local old mid c r (fit_of old sound) h o)
  step-over (AddRemoteCandidate c) e old new s t is silent sound (r, emitted, reported, (named, mid, h, again, emits), drawn) o =
      reselects-over strict sent heard path (loses_selected old mid) mid new named again (adds-remote old mid c r (fit_of old sound) h o)
  step-over (SetMtu target warn) e old new s t is silent sound (Ok _, reported, h, drawn) o = subst (λ (a : AgentRecord H P). Over a) (sym h.1) o
  step-over (SetMtu target warn) e old new s t is silent sound (Err error, reported, h, drawn) o = made-of old new (mtu_kept old new target warn error h) o
  step-over (SetLocalCredentials creds) e old new s t is silent sound (Ok _, reported, h, drawn) o = subst (λ (a : AgentRecord H P). Over a) (sym h.1) o
  step-over (SetLocalCredentials creds) e old new s t is silent sound (Err error, reported, h, drawn) o = made-of old new (local_kept old new creds error h) o
  step-over (SetControlTieBreaker tie) e old new s t is silent sound h o = subst (λ (a : AgentRecord H P). Over a) (sym h.1) o
  step-over (SetMaxCandidatePairs k) e old new s t is silent sound h o = subst (λ (a : AgentRecord H P). Over a) (sym h.1) o
  step-over (SetMaxDiscovered limit) e old new s t is silent sound h o = subst (λ (a : AgentRecord H P). Over a) (sym h.1) o
  step-over (SetMaxCandidates limit) e old new s t is silent sound h o = subst (λ (a : AgentRecord H P). Over a) (sym h.1) o
  step-over (SetRenomination renominates) e old new s t is silent sound h o = subst (λ (a : AgentRecord H P). Over a) (sym h.1) o
  step-over (SetTimingAdvance by) e old new s t is silent sound h o = subst (λ (a : AgentRecord H P). Over a) (sym h.1) o
  step-over (SetLocalPreference object) e old new s t is silent sound h o = subst (λ (a : AgentRecord H P). Over a) (sym h.1) o
  step-over (SetControlling controlling) e old new s t is silent sound h o = subst (λ (a : AgentRecord H P). Over a) (sym h.1) o
  step-over _ e old new s t is silent sound h o = no-case is

  -- a `handle_timeout` call that serves no early request
  pub maintained-over : (now : ℕ) (e : Entry) (old new : AgentRecord H P) (s t : Stream) (emitted : Emitted) → old.lite ≡ false → IsSound old
      → Step mac answers old s (HandleTimeout now) e new t → MaintainsPairs mac now (timeout_begun now old) s emitted new t → Over old → Over new
  maintained-over now e old new s t emitted full sound step h o =
      carried-over strict sent heard path (λ p. ⊥) old new sound (path_theorem mac answers old new s t (HandleTimeout now) e sound tt step).0.numbers (λ p none on. none)
      (λ q has. inl (let k = (maintains-consents mac now (timeout_begun now old) new s t emitted full h).1 q has in (k.0, k.1, k.2.number, inl (k.2.consented, k.2.heard)))) o

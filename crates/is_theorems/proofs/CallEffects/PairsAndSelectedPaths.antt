-- For each call: its effect on pairs, and which paths are selected.
use Rattle.is_stun.specs.declared.header.Class.TheVariants as class
use Rattle.is_theorems.proofs.Common.{[], ◌&&◌, ◌++◌, ◌==◌, ◌||◌, ◌∙◌, ◌∷◌, ◌≡◌, ◌≤◌, ◌⊎◌, added, AddLocalCandidate, AddRemoteCandidate}
use Rattle.is_theorems.proofs.Common.{AddsLocal, AddsRemote, AgentRecord, Answer, answer_by, ap, as_taken, at_request, Becomes, below-each}
use Rattle.is_theorems.proofs.Common.{binding_reply, binding_role_conflict_reply, Bool, Brings, Call, CandidateRecord, carried, Check}
use Rattle.is_theorems.proofs.Common.{Class, conflict_by, conflict_of, discovered_emitted, Done, done, Drops, Emitted, Entry, Err, false}
use Rattle.is_theorems.proofs.Common.{first_taken, Flag, given, HandlesFailure, HandlesSuccess, HandleTimeout, Happened, Has, IceCreds}
use Rattle.is_theorems.proofs.Common.{IceError, if◌then◌else◌, inl, inr, InvalidateCandidate, Invalidates, is_reverse, is_some}
use Rattle.is_theorems.proofs.Common.{IsAcceptedAs, IsAcceptedOn, IsAnswered, IsBased, IsNumberedByPeer, IsPut, IsServing, IsSignedBy}
use Rattle.is_theorems.proofs.Common.{IsSomeAnd, IsSound, issued_as, keeps_check, keeps_check_on, keeps_role, List, loses_selected}
use Rattle.is_theorems.proofs.Common.{MaintainsPairs, MatchBool, MatchOption, MayDo, MaySelect, Message, NextTimeout, None, not, NotCalled}
use Rattle.is_theorems.proofs.Common.{nothing_emitted, numbers, Ok, Option, PairRecord, Path, path_of, Polled, PollEvent, PollTimeout}
use Rattle.is_theorems.proofs.Common.{PollTransmit, queued, quiet, Reads, ReceivePacket, Receives, RecreateCandidatePairs, Recreates, refl}
use Rattle.is_theorems.proofs.Common.{Rejected, request_at, request_in, RequestRecord, RestartIce, Restarts, Result, reversed, rising-each}
use Rattle.is_theorems.proofs.Common.{selected_in, selected_only, Send487, Serves, ServesQueued, SetConsent, SetControlling}
use Rattle.is_theorems.proofs.Common.{SetControlTieBreaker, SetIceLite, SetInitialStunRto, SetLiteTimeout, SetLocalCredentials}
use Rattle.is_theorems.proofs.Common.{SetLocalPreference, SetMaxCandidatePairs, SetMaxCandidates, SetMaxDiscovered, SetMaxStunRetransmits, SetMaxStunRto}
use Rattle.is_theorems.proofs.Common.{SetMtu, SetProfile, SetRemoteCredentials, SetRenomination, SetsLocal, SetsMtu, SetsRemote}
use Rattle.is_theorems.proofs.Common.{SetTimingAdvance, SkipPairIds, Some, Step, Stream, subst, switched, sym, Takes, timeout_begun}
use Rattle.is_theorems.proofs.Common.{TimesOut, true, with_retransmits, written, ℕ}
use Rattle.is_theorems.proofs.BasicLemmas.EqualAddresses.{both}
use Rattle.is_theorems.proofs.CallEffects.FailedCallsAndNewAgents.{mtu_kept, local_kept, remote_kept, restart_kept, recreation_kept}
use Rattle.is_theorems.proofs.RuleEffects.UnchangedSettings.{Frame, frame_of, packet_along}
use Rattle.is_theorems.proofs.CallEffects.SettingsRoleAndQueues as frames
use Rattle.is_theorems.proofs.RuleEffects.EarlierAndNewPairs.{Parts, Fit, IsNominatedIn, Onward, here, onward}
use Rattle.is_theorems.proofs.RuleEffects.ChangedPairs.{parts_of}
use Rattle.is_theorems.proofs.RuleEffects.SelectedPaths.{Returns, returns_none, returns_one, returns_after}
use Rattle.is_theorems.proofs.CallEffects.CallsThatEmitNothing.{Silent, is_calm, is_of_candidate}
use Rattle.is_theorems.proofs.CallEffects.CallsThatEmitNothing as calls
use Rattle.is_theorems.proofs.CallEffects.TimeoutsAndSuccesses.{CheckOut, maintains_pairs, only_pair, succeeds}
use Rattle.is_theorems.proofs.CallEffects.ServedRequests.{Replied, ConflictSent, AcceptedNominations, serves_does, notes}
use Rattle.is_theorems.proofs.CallEffects.ServedRequests.{notes_and_switches}
use Rattle.is_theorems.proofs.CallEffects.ChangedCandidates.{local_goes, remote_goes, without_goes, reselects_goes, recreates_goes}
use Rattle.is_theorems.proofs.CallEffects.ChangedCandidates.{restarts_goes, skips_goes, rtos_goes, polls_goes}
use Rattle.is_theorems.proofs.RuleEffects.NotedErrors.{by_failure}

or_true : (a b : Bool) → (a || b) ≡ true → (a ≡ true) ⊎ (b ≡ true)
or_true true b h = inl refl
or_true false b h = inr h

and_left : (a b : Bool) → (a && b) ≡ true → a ≡ true
and_left true b h = refl
and_left false b h = h

module _ {H P : Type 0} (mac : H → List ℕ → List ℕ → List ℕ) (answers : P → CandidateRecord → ℕ → ℕ → Type 0) (old new : AgentRecord H P) (s t : Stream) (e : Entry) where
  abbrev pub Asks : Call P → Path → ℕ → Type 0
  Asks call path m = IsNumberedByPeer old call e path m ⊎ ((old.lite ≡ true) ⊎ ((old.controlling ≡ true) ⊎ (new.controlling ≡ true)))

  abbrev pub Met : Call P → Path → Type 0
  Met call path = IsAnswered mac old call e path ⊎ (old.lite ≡ true)

  abbrev pub Sent : Path → List ℕ → Bool → Type 0
  Sent path id role = (e.emitted.issued ≡ Some (issued_as path class.Request id)) × (role ≡ old.controlling) × (new.controlling ≡ old.controlling)

  abbrev pub Moves : Call P → AgentRecord H P → Type 0
  Moves call a =
      Onward (Asks call) (Met call) Sent (parts_of (Asks call) (Met call) Sent old) (parts_of (Asks call) (Met call) Sent a)

  abbrev pub Telling : Call P → Type 0
  Telling call =
      Returns (Asks call) (Met call) Sent (parts_of (Asks call) (Met call) Sent old) (parts_of (Asks call) (Met call) Sent new) old.selected_pair new.selected_pair e.emitted.selected_paths

  -- what is sent: nothing, a check, or a response to the request that is served
  abbrev pub Posted : Call P → Type 0
  Posted call =
      (e.emitted.issued ≡ None)
      ⊎ (((new.controlling ≡ old.controlling) × CheckOut mac (frame_of old) old.local old.packets e.emitted.issued new.packets)
      ⊎ ((q : RequestRecord) × IsServing old call e q
      × (Replied (Asks call) (Met call) Sent mac q old e.emitted new ⊎ ConflictSent (Asks call) (Met call) Sent mac q old e.emitted new)))

  abbrev pub PairEffect : Call P → Type 0
  PairEffect call = Moves call new × Telling call × Posted call

  module _ (call : Call P) (fit : Fit (parts_of (Asks call) (Met call) Sent old)) where
    silent : (emitted : Emitted) → e.emitted ≡ emitted → emitted ≡ nothing_emitted → new.selected_pair ≡ old.selected_pair → Moves call new → PairEffect call
    silent emitted is nothing number moves = (
      moves,
      subst (λ (ps : List (Option Path)). Returns (Asks call) (Met call) Sent (parts_of (Asks call) (Met call) Sent old) (parts_of (Asks call) (Met call) Sent new) old.selected_pair new.selected_pair ps)
          (sym (ap (λ (x : Emitted). x.selected_paths) (is ∙ nothing)))
          (returns_none (Asks call) (Met call) Sent (parts_of (Asks call) (Met call) Sent old) (parts_of (Asks call) (Met call) Sent new) old.selected_pair new.selected_pair number),
      inl (ap (λ (x : Emitted). x.issued) (is ∙ nothing)),
    )

    quietly : (answer : Answer) → e ≡ quiet answer → Silent call old e new → Moves call new → PairEffect call
    quietly answer is calm moves = silent nothing_emitted (ap (λ (x : Entry). x.emitted) is) refl calm.selected_paths moves

    unmoved : new ≡ old → Moves call new
    unmoved made = subst (λ (a : AgentRecord H P). Moves call a) (sym made) (here (Asks call) (Met call) Sent (parts_of (Asks call) (Met call) Sent old) fit)

    becomes : (needed : AgentRecord H P) → Moves call needed → Silent call old e new → Becomes needed s e new t → PairEffect call
    becomes needed moves calm (is, made, drawn) = quietly Done is calm (subst (λ (a : AgentRecord H P). Moves call a) (sym made) moves)

    resting : Moves call old
    resting = here (Asks call) (Met call) Sent (parts_of (Asks call) (Met call) Sent old) fit

    done_or : (Does : Result (Unit {0}) IceError → AgentRecord H P → Type 0) → (Does (Ok _) new → Moves call new)
        → ((error : IceError) → Does (Err error) new → new ≡ old) → Silent call old e new → MayDo Does s e new t → PairEffect call
    done_or Does goes kept calm (Ok _, is, h, drawn) = quietly Done is calm (goes h)
    done_or Does goes kept calm (Err error, is, h, drawn) = quietly (Rejected error) is calm (unmoved (kept error h))

    -- a candidate is added or invalidated, and then another path may be selected
    selects : {A : Type 0} (to_answer : A → Answer) (Does : A → AgentRecord H P → Type 0)
        → ((mid : AgentRecord H P) (r : A) → Does r mid → (frame_of mid ≡ frame_of old) × (mid.packets ≡ old.packets))
        → ((mid : AgentRecord H P) (r : A) → Does r mid → Moves call mid)
        → ((mid : AgentRecord H P) (r : A) → Does r mid → mid.selected_pair ≡ old.selected_pair)
        → MaySelect to_answer Does old s e new t → PairEffect call
    selects to_answer Does frames goes number (r, emitted, is, (path, mid, h, again, out), drawn) =
        let frame = (frames mid r h).0 in
        let first = goes mid r h in
        let x : Parts = parts_of (Asks call) (Met call) Sent old in
        let y : Parts = parts_of (Asks call) (Met call) Sent mid in
        let z : Parts = parts_of (Asks call) (Met call) Sent new in
        let emitted_is : e.emitted ≡ selected_only path = ap (λ (k : Entry). k.emitted) is ∙ out in
        let second = reselects_goes (Asks call) (Met call) Sent (loses_selected old mid) mid new path
        (λ allowed p m. elim (or_true mid.controlling mid.lite allowed) [
          | inl c ↦ inr (inr (inl (sym (ap (λ (f : Frame H). f.controlling) frame) ∙ c)))
          | inr l ↦ inr (inl (sym (ap (λ (f : Frame H). f.lite) frame) ∙ l))
        ]) first.fit again in
        let one = returns_one (Asks call) (Met call) Sent y z mid.selected_pair new.selected_pair path second.1 in
        let all = returns_after (Asks call) (Met call) Sent x y z mid.selected_pair new.selected_pair (selected_in path None) first one in (
          onward (Asks call) (Met call) Sent x y z first second.0,
          subst (λ (ps : List (Option Path)). Returns (Asks call) (Met call) Sent x z old.selected_pair new.selected_pair ps)
              (sym (ap (λ (k : Emitted). k.selected_paths) emitted_is ∙ only_pair path))
              (subst (λ n. Returns (Asks call) (Met call) Sent x z n new.selected_pair (selected_in path None)) (number mid r h) all),
          inl (ap (λ (k : Emitted). k.issued) emitted_is),
        )

    sends_487_of : (a : AgentRecord H P) → a.tie_breaker ≡ old.tie_breaker → a.controlling ≡ old.controlling → keeps_role a ≡ keeps_role old → (q : RequestRecord) → conflict_of a q ≡ Send487 → conflict_of old q ≡ Send487
    sends_487_of a tie role keeps q is =
        sym (ap (λ k. conflict_by k a.tie_breaker (if a.controlling then q.ice_controlling else q.ice_controlled)) keeps
        ∙ (ap (λ n. conflict_by (keeps_role old) n (if a.controlling then q.ice_controlling else q.ice_controlled)) tie ∙ ap (λ c. conflict_by (keeps_role old) old.tie_breaker (if c then q.ice_controlling else q.ice_controlled)) role)) ∙ is

    -- a request that is served, with its reverse path
    accepts_nomination : (q : RequestRecord) (a : AgentRecord H P) → a.lite ≡ old.lite → a.controlling ≡ old.controlling → numbers a ≡ numbers old → IsServing old call e q
        → AcceptedNominations (Asks call) (Met call) Sent mac q a
    accepts_nomination q a lite role numbered serving = record {
      valid = λ h. inr (sym lite ∙ and_left a.lite (not a.controlling) h);
      asking = λ c u m le. inl (q, serving, sym (ap (λ b. (as_taken b q).use_candidate) numbered) ∙ u, refl, subst (λ b. m ≤ given (as_taken b q).nomination) numbered le);
      free = λ h p m. elim (or_true a.controlling a.lite h) [ inl c ↦ inr (inr (inl (sym role ∙ c))) | inr l ↦ inr (inl (sym lite ∙ l)) ];
    }

    accepts_nomination_switched : (q : RequestRecord) (a : AgentRecord H P) → a.lite ≡ old.lite → new.controlling ≡ not a.controlling → numbers a ≡ numbers old → IsServing old call e q
        → AcceptedNominations (Asks call) (Met call) Sent mac q (switched a)
    accepts_nomination_switched q a lite role numbered serving = record {
      valid = λ h. inr (sym lite ∙ and_left a.lite (not (not a.controlling)) h);
      asking = λ c u m le. inl (q, serving, sym (ap (λ b. (as_taken b q).use_candidate) numbered) ∙ u, refl, subst (λ b. m ≤ given (as_taken b q).nomination) numbered le);
      free = λ h p m. elim (or_true (not a.controlling) a.lite h) [ inl c ↦ inr (inr (inr (role ∙ c))) | inr l ↦ inr (inl (sym lite ∙ l)) ];
    }

    serves_pairs : (q : RequestRecord) (a b : AgentRecord H P) (emitted : Emitted) → parts_of (Asks call) (Met call) Sent a ≡ parts_of (Asks call) (Met call) Sent old
        → parts_of (Asks call) (Met call) Sent new ≡ parts_of (Asks call) (Met call) Sent b → ((c : CandidateRecord) → Has a.local c → IsBased c)
        → a.lite ≡ old.lite → a.controlling ≡ old.controlling → new.controlling ≡ b.controlling
        → a.selected_pair ≡ old.selected_pair → new.selected_pair ≡ b.selected_pair → a.packets ≡ old.packets → new.packets ≡ b.packets
        → (a.provider ≡ old.provider) × (a.local_creds ≡ old.local_creds) × (a.tie_breaker ≡ old.tie_breaker) × (keeps_role a ≡ keeps_role old) × (numbers a ≡ numbers old)
        → IsServing old call e q → e.emitted ≡ emitted → Serves mac q a emitted b → PairEffect call
    serves_pairs q a b emitted parts following based lite role after number number_after packets packets_after (provider, creds, tie, keeps, numbered) serving is h =
        let fit_a : Fit (parts_of (Asks call) (Met call) Sent a) = subst (λ (x : Parts). Fit x) (sym parts) fit in
        let k = serves_does (Asks call) (Met call) Sent mac q a b emitted based fit_a (λ _. accepts_nomination q a lite role numbered serving)
        (λ _ switched_role. accepts_nomination_switched q a lite (after ∙ switched_role) numbered serving) h in
        let x : Parts = parts_of (Asks call) (Met call) Sent old in
        let y : Parts = parts_of (Asks call) (Met call) Sent b in
        let bytes : (m : Message) → written (mac a.provider) (Some a.local_creds.pass) m ≡ written (mac old.provider) (Some old.local_creds.pass) m =
        (λ m. ap (λ p. written (mac p) (Some a.local_creds.pass) m) provider ∙ ap (λ (c : IceCreds). written (mac old.provider) (Some c.pass) m) creds) in
        let out : (m : Message) → b.packets ≡ a.packets ++ packet_along (reversed q.path) (written (mac a.provider) (Some a.local_creds.pass) m) ∷ []
        → new.packets ≡ old.packets ++ packet_along (reversed q.path) (written (mac old.provider) (Some old.local_creds.pass) m) ∷ [] =
        (λ m put. packets_after ∙ put ∙ ap (λ ps. ps ++ packet_along (reversed q.path) (written (mac a.provider) (Some a.local_creds.pass) m) ∷ []) packets
        ∙ ap (λ w. old.packets ++ packet_along (reversed q.path) w ∷ []) (bytes m)) in (
          subst (λ (x : Parts). Onward (Asks call) (Met call) Sent (parts_of (Asks call) (Met call) Sent old) x) (sym following)
              (subst (λ (x : Parts). Onward (Asks call) (Met call) Sent x y) parts k.0),
          subst (λ (t : Emitted). Returns (Asks call) (Met call) Sent x (parts_of (Asks call) (Met call) Sent new) old.selected_pair new.selected_pair t.selected_paths) (sym is)
              (subst (λ n. Returns (Asks call) (Met call) Sent x (parts_of (Asks call) (Met call) Sent new) old.selected_pair n emitted.selected_paths) (sym number_after)
              (subst (λ n. Returns (Asks call) (Met call) Sent x (parts_of (Asks call) (Met call) Sent new) n b.selected_pair emitted.selected_paths) number
              (subst (λ (z : Parts). Returns (Asks call) (Met call) Sent x z a.selected_pair b.selected_pair emitted.selected_paths) (sym following)
              (subst (λ (z : Parts). Returns (Asks call) (Met call) Sent z y a.selected_pair b.selected_pair emitted.selected_paths) parts k.1)))),
          subst (λ (t : Emitted). (t.issued ≡ None) ⊎ (((new.controlling ≡ old.controlling) × CheckOut mac (frame_of old) old.local old.packets t.issued new.packets)
              ⊎ ((q : RequestRecord) × IsServing old call e q
              × (Replied (Asks call) (Met call) Sent mac q old t new ⊎ ConflictSent (Asks call) (Met call) Sent mac q old t new)))) (sym is)
              (elim k.2 [
                | inl r ↦ elim r [
                  | inl none ↦ inl none.0
                  | inr (issued, values, put, nominates_it) ↦ inr (inr (
                    q,
                    serving,
                    inl (inr (
                      issued,
                      subst (λ w. IsPut w (binding_reply q.id (carried q.path.source))) (bytes (binding_reply q.id q.path.source)) values,
                      out (binding_reply q.id q.path.source) put,
                      (λ uses controlled. subst (λ (z : Parts). IsNominatedIn z (reversed q.path)) (sym following) (nominates_it (ap (λ b. (as_taken b q).use_candidate) numbered ∙ uses) (sym after ∙ controlled))),
                    )),
                  ))
                ]
                | inr (issued, values, put, sends_487, stays) ↦ inr (inr (
                  q,
                  serving,
                  inr (
                    issued,
                    subst (λ w. IsPut w (binding_role_conflict_reply q.id)) (bytes (binding_role_conflict_reply q.id)) values,
                    out (binding_role_conflict_reply q.id) put,
                    sends_487_of a tie role keeps q sends_487,
                    after ∙ stays ∙ role,
                  ),
                ))
              ]),
        )

  -- ---- `handle_timeout` calls

  timeout_by : (now : ℕ) (sound : IsSound old) (fit : Fit (parts_of (Asks (HandleTimeout now)) (Met (HandleTimeout now)) Sent old)) (emitted : Emitted) (o : Option RequestRecord)
      → request_at now old ≡ o → e ≡ record { answer = Done; emitted = emitted }
      → MatchOption o (MaintainsPairs mac now (timeout_begun now old) s emitted new t) (λ q. ServesQueued mac q (at_request now (timeout_begun now old)) s emitted new t) → PairEffect (HandleTimeout now)
  timeout_by now sound fit emitted None is e_is h =
      let call : Call P = HandleTimeout now in
      let frame = frames.maintains_pairs mac now (timeout_begun now old) new s t emitted h in
      let role : new.controlling ≡ old.controlling = ap (λ (f : Frame H). f.controlling) frame.0 in
      let emitted_is : e.emitted ≡ emitted = ap (λ (x : Entry). x.emitted) e_is in
      let k = maintains_pairs (Asks call) (Met call) Sent mac now (timeout_begun now old) new s t emitted
      (λ allowed p m. elim (or_true old.controlling old.lite allowed) [ inl c ↦ inr (inr (inl c)) | inr l ↦ inr (inl l) ])
      (λ path id out. (ap (λ (x : Emitted). x.issued) emitted_is ∙ out, refl, role)) fit h in (
        k.0,
        subst (λ (x : Emitted). Returns (Asks call) (Met call) Sent (parts_of (Asks call) (Met call) Sent old) (parts_of (Asks call) (Met call) Sent new) old.selected_pair new.selected_pair x.selected_paths) (sym emitted_is) k.1,
        inr (inl (
          role,
          subst (λ (x : Emitted). CheckOut mac (frame_of old) old.local old.packets x.issued new.packets) (sym emitted_is)
              k.2,
        )),
      )
  timeout_by now sound fit emitted (Some q) is e_is (h, drawn) =
      serves_pairs (HandleTimeout now) fit q (first_taken (at_request now (timeout_begun now old))) new emitted refl refl sound.based refl refl refl refl refl refl refl (refl, refl, refl, refl, refl)
      (is, ap (λ (x : Entry). x.answer) e_is) (ap (λ (x : Entry). x.emitted) e_is) h

  -- ---- packets

  module _ (now : ℕ) (via : Path) (bytes : List ℕ) (m : Message) (mid : AgentRecord H P) (emitted : Emitted) (sound : IsSound old)
      (fit : Fit (parts_of (Asks (ReceivePacket now via bytes)) (Met (ReceivePacket now via bytes)) Sent old))
      (reads : Reads bytes m) (accepted : IsAcceptedOn mac old via m) (e_is : e ≡ record { answer = Flag true; emitted = emitted }) (made : new ≡ discovered_emitted m.class emitted via mid) where
    abbrev packet : Call P
    packet = ReceivePacket now via bytes

    emitted_is : e.emitted ≡ emitted
    emitted_is = ap (λ (x : Entry). x.emitted) e_is

    brought : Brings packet e now via m
    brought = (refl, refl, reads, ap (λ (x : Entry). x.answer) e_is)

    following : parts_of (Asks packet) (Met packet) Sent new ≡ parts_of (Asks packet) (Met packet) Sent mid
    following = ap (λ (a : AgentRecord H P). parts_of (Asks packet) (Met packet) Sent a) made

    moved_on : Moves packet mid → Moves packet new
    moved_on k = subst (λ (x : Parts). Onward (Asks packet) (Met packet) Sent (parts_of (Asks packet) (Met packet) Sent old) x) (sym following) k

    rounds_to_select : (n : Option ℕ) → mid.selected_pair ≡ n
        → Returns (Asks packet) (Met packet) Sent (parts_of (Asks packet) (Met packet) Sent old) (parts_of (Asks packet) (Met packet) Sent mid) old.selected_pair mid.selected_pair emitted.selected_paths
        → Telling packet
    rounds_to_select n is k =
        subst (λ (x : Emitted). Returns (Asks packet) (Met packet) Sent (parts_of (Asks packet) (Met packet) Sent old) (parts_of (Asks packet) (Met packet) Sent new) old.selected_pair new.selected_pair x.selected_paths) (sym emitted_is)
        (subst (λ (a : AgentRecord H P). Returns (Asks packet) (Met packet) Sent (parts_of (Asks packet) (Met packet) Sent old) (parts_of (Asks packet) (Met packet) Sent a) old.selected_pair a.selected_pair emitted.selected_paths) (sym made) k)

    drops_pairs : (a : AgentRecord H P) → Moves packet a → a.selected_pair ≡ old.selected_pair → Drops a emitted mid → PairEffect packet
    drops_pairs a moves number (nothing, same_is) =
        silent packet fit emitted emitted_is nothing (ap (λ (x : AgentRecord H P). x.selected_pair) made ∙ ap (λ (x : AgentRecord H P). x.selected_pair) same_is ∙ number) (moved_on (subst (λ (x : AgentRecord H P). Moves packet x) (sym same_is) moves))

    request_pairs : (peer : Option IceCreds) → old.remote_creds ≡ peer → m.class ≡ class.Request
        → MatchOption peer ((emitted ≡ nothing_emitted) × (mid ≡ queued (request_in now via m) old)) (λ peer. Serves mac (request_in now via m) old emitted mid) → PairEffect packet
    request_pairs None none is (nothing, same_is) =
        silent packet fit emitted emitted_is nothing (ap (λ (x : AgentRecord H P). x.selected_pair) made ∙ ap (λ (x : AgentRecord H P). x.selected_pair) same_is)
        (moved_on (subst (λ (x : AgentRecord H P). Moves packet x) (sym same_is) (resting packet fit)))
    request_pairs (Some peer) known is h =
        serves_pairs packet fit (request_in now via m) old mid emitted refl following sound.based refl refl (ap (λ (a : AgentRecord H P). a.controlling) made)
        refl (ap (λ (a : AgentRecord H P). a.selected_pair) made) refl (ap (λ (a : AgentRecord H P). a.packets) made) (refl, refl, refl, refl, refl)
        (now, via, m, brought, is, ap is_some known, refl) emitted_is h

    awaited : (c : Class) → m.class ≡ c → IsAcceptedAs mac c (keeps_check_on old via m.id) old m
    awaited c is = subst (λ x. IsAcceptedAs mac x (keeps_check_on old via m.id) old m) is accepted.1

    signed_by : (peer : Option IceCreds) → old.remote_creds ≡ peer → IsSomeAnd peer (λ p. IsSignedBy (mac old.provider) m p.pass)
        → (p : IceCreds) × (old.remote_creds ≡ Some p) × IsSignedBy (mac old.provider) m p.pass
    signed_by None none h = absurd h
    signed_by (Some p) known h = (p, known, h)

    answers_path : m.class ≡ class.Success → (p : PairRecord) (c : Check) → Has old.pairs p → keeps_check_on old via m.id p ≡ true → Has p.checks c → c.id ≡ m.id
        → Met packet (path_of old p)
    answers_path is p c has on keeps id_is =
        let peer = signed_by old.remote_creds refl (awaited class.Success is).1 in
        let goes = both (keeps_check m.id p) (is_reverse via (path_of old p)) on in
        inl (now, via, m, c.controlling, peer.0, brought, is, (p, c, has, keeps, id_is, refl, refl), peer.1, peer.2, goes.1)

    failure_pairs : HandlesFailure old via m emitted mid → PairEffect packet
    failure_pairs h =
        let k : (emitted ≡ nothing_emitted) × (mid.selected_pair ≡ old.selected_pair) × Moves packet mid =
        by_failure (λ x a. (x ≡ nothing_emitted) × (a.selected_pair ≡ old.selected_pair) × Moves packet a) old mid via m emitted
        (λ code. (refl, refl, notes (Asks packet) (Met packet) Sent code old fit))
        (λ code. (refl, refl, notes_and_switches (Asks packet) (Met packet) Sent code old fit)) h in
        drops_pairs mid k.2 k.1 (k.0, refl)

    quiet_success : HandlesSuccess now old via m emitted mid → emitted.issued ≡ None
    quiet_success (recorded, records_it, (path, named, nominating, is, done)) = ap (λ (x : Emitted). x.issued) is

    taken : (c : Class) → m.class ≡ c → Takes mac c now old via m emitted mid → PairEffect packet
    taken class.Request is h = request_pairs old.remote_creds refl is h
    taken class.Success is h =
        let k = succeeds (Asks packet) (Met packet) Sent now old mid via m emitted
        (λ allowed p m. elim (or_true old.controlling old.lite allowed) [ inl c ↦ inr (inr (inl c)) | inr l ↦ inr (inl l) ])
        (answers_path is) fit h in
        (moved_on k.0, rounds_to_select mid.selected_pair refl k.1, inl (ap (λ (x : Emitted). x.issued) emitted_is ∙ quiet_success h))
    taken class.Failure is h = failure_pairs h
    taken class.Indication is h = absurd h
    taken class.Unknown is h = absurd h

  receives : (now : ℕ) (via : Path) (bytes : List ℕ) (sound : IsSound old) (fit : Fit (parts_of (Asks (ReceivePacket now via bytes)) (Met (ReceivePacket now via bytes)) Sent old))
      → Receives mac answers now old via bytes e new → PairEffect (ReceivePacket now via bytes)
  receives now via bytes sound fit (inl (fault, has, is, made)) = silent (ReceivePacket now via bytes) fit nothing_emitted (ap (λ (x : Entry). x.emitted) is) refl (ap (λ (x : AgentRecord H P). x.selected_pair) made) (unmoved (ReceivePacket now via bytes) fit made)
  receives now via bytes sound fit (inr (m, reads, (Ok false, emitted, is, (unaccepted, nothing, made)))) =
      silent (ReceivePacket now via bytes) fit emitted (ap (λ (x : Entry). x.emitted) is) nothing (ap (λ (x : AgentRecord H P). x.selected_pair) made) (unmoved (ReceivePacket now via bytes) fit made)
  receives now via bytes sound fit (inr (m, reads, (Ok true, emitted, is, (accepted, (mid, takes, made))))) =
      taken now via bytes m mid emitted sound fit reads accepted is made m.class refl takes
  receives now via bytes sound fit (inr (m, reads, (Err error, emitted, is, (may, nothing, made)))) =
      silent (ReceivePacket now via bytes) fit emitted (ap (λ (x : Entry). x.emitted) is) nothing (ap (λ (x : AgentRecord H P). x.selected_pair) made) (unmoved (ReceivePacket now via bytes) fit made)

  timeouts : (now : ℕ) (sound : IsSound old) (fit : Fit (parts_of (Asks (HandleTimeout now)) (Met (HandleTimeout now)) Sent old)) (r : Result (Unit {0}) IceError) (emitted : Emitted)
      → e ≡ record { answer = answer_by done r; emitted = emitted } → TimesOut mac now old s r emitted new t → PairEffect (HandleTimeout now)
  timeouts now sound fit (Ok _) emitted is h = timeout_by now sound fit emitted (request_at now old) refl is h
  timeouts now sound fit (Err error) emitted is (may, nothing, made, drawn) =
      silent (HandleTimeout now) fit emitted (ap (λ (x : Entry). x.emitted) is) nothing (ap (λ (x : AgentRecord H P). x.selected_pair) made) (unmoved (HandleTimeout now) fit made)

  retransmits : (b : Bool) (n : ℕ) (fit : Fit (parts_of (Asks (SetMaxStunRetransmits n)) (Met (SetMaxStunRetransmits n)) Sent old))
      → Silent (SetMaxStunRetransmits n) old e new → MatchBool b ((e ≡ quiet NotCalled) × (new ≡ old) × (t ≡ s)) (Becomes (with_retransmits n old) s e new t) → PairEffect (SetMaxStunRetransmits n)
  retransmits true n fit calm (is, made, drawn) = quietly (SetMaxStunRetransmits n) fit NotCalled is calm (unmoved (SetMaxStunRetransmits n) fit made)
  retransmits false n fit calm h = becomes (SetMaxStunRetransmits n) fit (with_retransmits n old) (resting (SetMaxStunRetransmits n) fit) calm h

  fits : (call : Call P) → IsSound old → Fit (parts_of (Asks call) (Met call) Sent old)
  fits call sound = record { placed = sound.placed; rising = rising-each old.pairs sound.rising; below = below-each old.next_number old.pairs sound.below; started = λ p has c keeps. sound.started p c has keeps; consented = sound.consented }

  -- no path is selected
  abbrev calms : (call : Call P) → is_calm call ≡ true → is_of_candidate call ≡ false → Step mac answers old s call e new t → Silent call old e new
  calms call is other h = calls.silent mac answers old new s t e call is other h

  abbrev as_it_was : (call : Call P) → IsSound old → Moves call old
  as_it_was call sound = resting call (fits call sound)

  -- each call
  pub paired : (call : Call P) (sound : IsSound old) → Step mac answers old s call e new t → PairEffect call
  paired (SetMtu target warn) sound h = done_or (SetMtu target warn) (fits (SetMtu target warn) sound) (SetsMtu old target warn)
      (λ k. subst (λ (a : AgentRecord H P). Moves (SetMtu target warn) a) (sym k.1) (as_it_was (SetMtu target warn) sound)) (λ error k. mtu_kept old new target warn error k) (calms (SetMtu target warn) refl refl h) h
  paired (SetControlTieBreaker tie) sound h = becomes (SetControlTieBreaker tie) (fits (SetControlTieBreaker tie) sound) _ (as_it_was (SetControlTieBreaker tie) sound) (calms (SetControlTieBreaker tie) refl refl h) h
  paired (SetMaxCandidatePairs n) sound h = becomes (SetMaxCandidatePairs n) (fits (SetMaxCandidatePairs n) sound) _ (as_it_was (SetMaxCandidatePairs n) sound) (calms (SetMaxCandidatePairs n) refl refl h) h
  paired (SetMaxDiscovered n) sound h = becomes (SetMaxDiscovered n) (fits (SetMaxDiscovered n) sound) _ (as_it_was (SetMaxDiscovered n) sound) (calms (SetMaxDiscovered n) refl refl h) h
  paired (SetMaxCandidates n) sound h = becomes (SetMaxCandidates n) (fits (SetMaxCandidates n) sound) _ (as_it_was (SetMaxCandidates n) sound) (calms (SetMaxCandidates n) refl refl h) h
  paired (SetIceLite lite) sound h = becomes (SetIceLite lite) (fits (SetIceLite lite) sound) _ (as_it_was (SetIceLite lite) sound) (calms (SetIceLite lite) refl refl h) h
  paired (SetRenomination on) sound h = becomes (SetRenomination on) (fits (SetRenomination on) sound) _ (as_it_was (SetRenomination on) sound) (calms (SetRenomination on) refl refl h) h
  paired (SetProfile profile) sound h = becomes (SetProfile profile) (fits (SetProfile profile) sound) _ (as_it_was (SetProfile profile) sound) (calms (SetProfile profile) refl refl h) h
  paired (SetConsent consent) sound h = becomes (SetConsent consent) (fits (SetConsent consent) sound) _ (as_it_was (SetConsent consent) sound) (calms (SetConsent consent) refl refl h) h
  paired (SetTimingAdvance by) sound h = becomes (SetTimingAdvance by) (fits (SetTimingAdvance by) sound) _ (as_it_was (SetTimingAdvance by) sound) (calms (SetTimingAdvance by) refl refl h) h
  paired (SetInitialStunRto rto) sound h =
      let call : Call P = SetInitialStunRto rto in
      becomes call (fits call sound) _ (rtos_goes (Asks call) (Met call) Sent old rto old.timing.max_rto.0 (fits call sound)) (calms (SetInitialStunRto rto) refl refl h) h
  paired (SetMaxStunRto rto) sound h =
      let call : Call P = SetMaxStunRto rto in
      becomes call (fits call sound) _ (rtos_goes (Asks call) (Met call) Sent old old.timing.initial_rto.0 rto (fits call sound)) (calms (SetMaxStunRto rto) refl refl h) h
  paired (SetMaxStunRetransmits n) sound h = retransmits (n == 0) n (fits (SetMaxStunRetransmits n) sound) (calms (SetMaxStunRetransmits n) refl refl h) h
  paired (SetLiteTimeout by) sound h = becomes (SetLiteTimeout by) (fits (SetLiteTimeout by) sound) _ (as_it_was (SetLiteTimeout by) sound) (calms (SetLiteTimeout by) refl refl h) h
  paired (SetLocalPreference object) sound h = becomes (SetLocalPreference object) (fits (SetLocalPreference object) sound) _ (as_it_was (SetLocalPreference object) sound) (calms (SetLocalPreference object) refl refl h) h
  paired (SetControlling controlling) sound h = becomes (SetControlling controlling) (fits (SetControlling controlling) sound) _ (as_it_was (SetControlling controlling) sound) (calms (SetControlling controlling) refl refl h) h
  paired (SetLocalCredentials creds) sound h = done_or (SetLocalCredentials creds) (fits (SetLocalCredentials creds) sound) (SetsLocal old creds)
      (λ k. subst (λ (a : AgentRecord H P). Moves (SetLocalCredentials creds) a) (sym k.1) (as_it_was (SetLocalCredentials creds) sound)) (λ error k. local_kept old new creds error k) (calms (SetLocalCredentials creds) refl refl h) h
  paired (SetRemoteCredentials creds) sound h = done_or (SetRemoteCredentials creds) (fits (SetRemoteCredentials creds) sound) (SetsRemote old creds)
      (λ k. subst (λ (a : AgentRecord H P). Moves (SetRemoteCredentials creds) a) (sym k.1) (as_it_was (SetRemoteCredentials creds) sound)) (λ error k. remote_kept old new creds error k) (calms (SetRemoteCredentials creds) refl refl h) h
  paired (SkipPairIds n) sound h =
      let call : Call P = SkipPairIds n in
      becomes call (fits call sound) _ (skips_goes (Asks call) (Met call) Sent old n (fits call sound)) (calms (SkipPairIds n) refl refl h) h
  paired (AddLocalCandidate c) sound h =
      let call : Call P = AddLocalCandidate c in
      selects call (fits call sound) (answer_by added) (AddsLocal answers old c) (λ mid r k. frames.adds_local answers old mid c r k)
      (λ mid r k. local_goes (Asks call) (Met call) Sent answers old mid c r (fits call sound) k)
      (λ mid r k. (calls.adds_local answers old mid c r k).selected_paths) h
  paired (AddRemoteCandidate c) sound h =
      let call : Call P = AddRemoteCandidate c in
      selects call (fits call sound) (answer_by done) (AddsRemote old c) (λ mid r k. frames.adds_remote old mid c r k)
      (λ mid r k. remote_goes (Asks call) (Met call) Sent old mid c r (fits call sound) k) (λ mid r k. (calls.adds_remote old mid c r k).selected_paths) h
  paired (InvalidateCandidate c) sound h =
      let call : Call P = InvalidateCandidate c in
      selects call (fits call sound) Flag (Invalidates old c) (λ mid r k. frames.invalidates old mid c r k)
      (λ mid r k. without_goes (Asks call) (Met call) Sent old mid c r (fits call sound) k) (λ mid r k. (calls.invalidates old mid c r k).selected_paths) h
  paired (RestartIce creds keep) sound h =
      let call : Call P = RestartIce creds keep in
      done_or call (fits call sound) (Restarts old creds keep) (λ k. restarts_goes (Asks call) (Met call) Sent old new creds keep k.1)
      (λ error k. restart_kept old new creds keep error k) (calms (RestartIce creds keep) refl refl h) h
  paired RecreateCandidatePairs sound h =
      let call : Call P = RecreateCandidatePairs in
      done_or call (fits call sound) (Recreates old) (λ k. recreates_goes (Asks call) (Met call) Sent old new (fits call sound) k)
      (λ error k. recreation_kept old new error k) (calms RecreateCandidatePairs refl refl h) h
  paired (ReceivePacket now via bytes) sound h = receives now via bytes sound (fits (ReceivePacket now via bytes) sound) h.0
  paired (HandleTimeout now) sound (r, emitted, is, h) = timeouts now sound (fits (HandleTimeout now) sound) r emitted is h
  paired PollTransmit sound (given, is, (polled, made), drawn) = quietly PollTransmit (fits PollTransmit sound) (Polled given) is (calms PollTransmit refl refl (given, is, (polled, made), drawn))
      (subst (λ (a : AgentRecord H P). Moves PollTransmit a) (sym made) (as_it_was PollTransmit sound))
  paired PollTimeout sound (deadline, is, h, drawn) = quietly PollTimeout (fits PollTimeout sound) (NextTimeout deadline) is (calms PollTimeout refl refl (deadline, is, h, drawn))
      (polls_goes (Asks PollTimeout) (Met PollTimeout) Sent old new deadline (fits PollTimeout sound) h)
  paired PollEvent sound (given, is, (polled, made), drawn) = quietly PollEvent (fits PollEvent sound) (Happened given) is (calms PollEvent refl refl (given, is, (polled, made), drawn))
      (subst (λ (a : AgentRecord H P). Moves PollEvent a) (sym made) (as_it_was PollEvent sound))

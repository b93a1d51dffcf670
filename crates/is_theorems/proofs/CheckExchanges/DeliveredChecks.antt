-- A check that is delivered is served, and its response is accepted.
use Rattle.is_stun.specs.declared.header.Class.TheVariants as class
use Rattle.is_rules.specs.declared.emitted.Issued as code
use Rattle.is_theorems.specs.Delivery.{IsReachedBy, Issued}
use Rattle.is_theorems.proofs.Common.{[], ◌&&◌, ◌++◌, ◌+◌, ◌==◌, ◌||◌, ◌∙◌, ◌∷◌, ◌≡◌, ◌≤◌, Absent, AddsPairAndResponds, AddsUnknownSender}
use Rattle.is_theorems.proofs.Common.{AgentRecord, answer_by, ap, are_too_long, AreApart, arith, AttributesRecord, Barred, binding_reply}
use Rattle.is_theorems.proofs.Common.{binding_request, Bool, bytes_eq, bytes_eq-Decides, Call, candidate_at, CandidateRecord, carried}
use Rattle.is_theorems.proofs.Common.{CarriedAreAccepted, CarriedAreServed, check_priority, ChecksAreServed, Class, Conflict, conflict_by}
use Rattle.is_theorems.proofs.Common.{conflict_of, CountsAndServes, Delivered, Drops, Emitted, Entry, Err, false, Fault, FindsOrAddsPair}
use Rattle.is_theorems.proofs.Common.{FindsSender, FitsInto, Flag, formed, Full, HandlesPacket, HandlesRequest, Has, has_room, HasPlaceFor}
use Rattle.is_theorems.proofs.Common.{IceCreds, IceError, IfSome, if◌then◌else◌, inl, inr, is_for_other_peer, is_gone_at, is_live}
use Rattle.is_theorems.proofs.Common.{is_misled, is_on, is_reached, is_rejection, is_sender, is_some, is_temporary, IsAcceptedAs}
use Rattle.is_theorems.proofs.Common.{IsAcceptedOn, IsAddressed, IsFragment, IsGreatestPlace, IsIssued, IsPut, IsRemotePlace, IsSenderPlace}
use Rattle.is_theorems.proofs.Common.{IsServing, IsSignedBy, IsSomeAnd, IsSound, issued_as, IsTaken, IsVacancy, IsWrittenPlain}
use Rattle.is_theorems.proofs.Common.{keeps_check_on, keeps_role, key_for, KnowEachOther, Known, length, length-append, List, list_any}
use Rattle.is_theorems.proofs.Common.{local_place, LONGEST_NUMBERED_CHECK, LONGEST_REPLY, map, MatchBool, MatchOption, Message, None, not}
use Rattle.is_theorems.proofs.Common.{Ok, Option, option_map_or, option_or, Packet, PairRecord, ParseFault, Path, path_between, place_by}
use Rattle.is_theorems.proofs.Common.{position, position_or_len, Queues, Reads, ReadsBack, ReceivePacket, Receives, receives}
use Rattle.is_theorems.proofs.Common.{RecordsAndResponds, refl, RemotePlace, RepliesAreAccepted, request_counted, request_in, RequestRecord}
use Rattle.is_theorems.proofs.Common.{resolved_in_turn, ResolvesRoleConflictBy, Result, reversed, rival_in, role_once, SameMessage, Says}
use Rattle.is_theorems.proofs.Common.{Send487, Sends, Serves, SidesRecord, SocketAddr, Some, split_username, subst, switched}
use Rattle.is_theorems.proofs.Common.{switched_sides, SwitchRole, sym, Takes, true, Unknown, username_between, USERNAME_LIMIT, Vacant}
use Rattle.is_theorems.proofs.Common.{via_out, with_nomination, with_pair, with_priority_in, with_sender, with_sender_at, written}
use Rattle.is_theorems.proofs.Common.{WrittenIsRead, ℕ}
use Rattle.is_theorems.proofs.RuleEffects.UnchangedSettings.{either}
use Rattle.is_theorems.proofs.BasicLemmas.EqualAddresses.{both}
use Rattle.is_theorems.proofs.CallEffects.PathAndTradeEffects.{issues, trade_theorem}
use Rattle.is_theorems.proofs.BasicLemmas.UsernamesAndFirstMatches.{splits, first_found, any_has}
use Rattle.is_theorems.proofs.CallEffects.PathEffects.{path_effect}
use Rattle.is_rules.proofs.PollsAndResponses.AddressesInResponses.{plain-reply}
use Rattle.is_theorems.proofs.RuleEffects.SelectedPaths.{some_is}
use Rattle.is_theorems.proofs.BasicLemmas.CandidatesByIndex.{found-at, is-listed}

-- the packets after equal lists are equal
last_same : (xs : List Packet) (x y : Packet) → xs ++ x ∷ [] ≡ xs ++ y ∷ [] → x ≡ y
last_same [] x y h = cc
last_same (z ∷ xs) x y h = last_same xs x y (let same : z ∷ (xs ++ x ∷ []) ≡ z ∷ (xs ++ y ∷ []) = h in cc)

-- the username fragments of two agents fit into a check
name_fits : (own peer : IceCreds) → are_too_long own (Some peer) ≡ false → length (username_between peer own) ≤ USERNAME_LIMIT
name_fits own peer h =
    let long : length (peer.ufrag ++ 58 ∷ own.ufrag) ≡ length peer.ufrag + length (58 ∷ own.ufrag) = length-append peer.ufrag (58 ∷ own.ufrag) in
    let within : length own.ufrag + 1 + length peer.ufrag ≤ USERNAME_LIMIT = grind (arith, h) in
    omega (arith, long, within)

-- two results of parsing the same bytes are equal
pub same_reading : (bytes : List ℕ) (m n : Message) → Reads bytes m → Reads bytes n → n ≡ m
same_reading bytes m n r s = s.spelled ∙ sym r.spelled

faultless : {A : Type 0} (bytes : List ℕ) (m : Message) (fault : ParseFault) → Reads bytes m → Fault bytes fault → A
faultless bytes m fault r is = absurd (let no : None ≡ Some fault = sym r.faultless ∙ is in cc)

pub emitted_as : (via path : Path) (c d : Class) (i j : List ℕ) → Some (issued_as via c i) ≡ Some (issued_as path d j) → (via ≡ path) × (c ≡ d) × (i ≡ j)
emitted_as via path c d i j h =
    let same : issued_as via c i ≡ issued_as path d j = some_is _ _ h in
    (ap (λ (x : code.Issued). x.path) same, ap (λ (x : code.Issued). x.class) same, ap (λ (x : code.Issued). x.id.0) same)

-- one that passes has not gone
neither_way : (d s : Bool) → s ≡ true → (s && not d) ≡ false → (s && d) ≡ false → ⊥
neither_way true true is live gone = cc
neither_way false true is live gone = cc
neither_way d false is live gone = cc

passes_none : (test : CandidateRecord → Bool) (cs : List CandidateRecord) (c : CandidateRecord) → list_any test cs ≡ false → Has cs c → test c ≡ false
passes_none test cs c none has = none_passes (test c) refl where
  none_passes : (b : Bool) → test c ≡ b → test c ≡ false
  none_passes false is = is
  none_passes true is = let wrong : true ≡ false = sym (any_has test cs c has is) ∙ none in absurd (cc)

-- a check claims the sender's role, which the other agent does not have, and nominates only from the controlling one
no_rival : (c : Bool) (q : RequestRecord) (tie : ℕ) → q.ice_controlling ≡ (if c then Some tie else None) → q.ice_controlled ≡ (if c then None else Some tie) → rival_in (not c) q ≡ None
no_rival true q tie one other = other
no_rival false q tie one other = one

not_misled : (c u : Bool) → (u ≡ true → c ≡ true) → (not c && u) ≡ false
not_misled true u leads = refl
not_misled false true leads = let wrong : false ≡ true = leads refl in absurd (cc)
not_misled false false leads = refl

module _ {H P : Type 0} (mac : H → List ℕ → List ℕ → List ℕ) where
  -- an agent's check arrives at another one that knows it: the check claims the role of its sender, and passes the
  -- test of its username fragment
  pub record Comes (a b : AgentRecord H P) (check : Packet) (id : List ℕ) (at : ℕ) (e : Entry) : Type 0 where
    pub message : Message
    pub reads : Reads check.contents message
    pub accepted : e.answer ≡ Flag true
    pub request : message.class ≡ class.Request
    pub id_is : message.id ≡ id
    pub named : is_for_other_peer b (request_in at (via_out check) message) ≡ false
    pub controlling : message.attributes.ice_controlling ≡ (if a.controlling then Some a.tie_breaker else None)
    pub controlled : message.attributes.ice_controlled ≡ (if a.controlling then None else Some a.tie_breaker)
    pub leads : message.attributes.use_candidate ≡ true → a.controlling ≡ true
    pub mid : AgentRecord H P
    pub serves : Serves mac (request_in at (via_out check) message) b e.emitted mid

module _ {H P : Type 0} (mac : H → List ℕ → List ℕ → List ℕ) (answers : P → CandidateRecord → ℕ → ℕ → Type 0) where
  -- ---- what a step issued

  pub issued_packet : (a sent : AgentRecord H P) (class : Class) (id : List ℕ) (packet : Packet) → IsSound a → (i : Issued mac answers class id packet a sent)
      → IsIssued mac a i.call i.entry packet sent.controlling
  issued_packet a sent c id packet sound i =
      let posted = (path_effect mac answers a sent i.before i.following i.entry i.call sound i.step).2 in
      elim (issues mac answers a sent i.before i.following i.entry i.call posted) [
        | inl none ↦ absurd (let no : None ≡ Some (issued_as (via_out packet) c id) = sym none ∙ i.sends.emitted in cc)
        | inr (other, put, issued) ↦ subst (λ (p : Packet). IsIssued mac a i.call i.entry p sent.controlling) (last_same a.packets other packet (sym put ∙ i.sends.put)) issued
      ]

  -- ---- a check reads

  module _ (read : (m : List ℕ → List ℕ → List ℕ) (key : List ℕ) (x : Message) → WrittenIsRead m key x)
      (fits : (key id username : List ℕ) (controlling : Bool) (tie_breaker priority : ℕ) (nominates : Bool) (number : Option ℕ)
      → length username ≤ USERNAME_LIMIT → FitsInto key LONGEST_NUMBERED_CHECK (with_nomination number (binding_request username id controlling tie_breaker priority nominates))) where
    pub check_reads : (key : List ℕ) (own peer : IceCreds) (id : List ℕ) (controlling uses : Bool) (number : Option ℕ) (tie priority : ℕ) (m : List ℕ → List ℕ → List ℕ) (bytes : List ℕ)
        → ((k text : List ℕ) → length (m k text) ≡ 20) → are_too_long own (Some peer) ≡ false → IsFragment own.ufrag → IsFragment peer.ufrag
        → IsPut bytes (with_nomination number (binding_request (username_between peer own) id controlling tie priority uses))
        → ReadsBack m key (written m (Some key) (with_nomination number (binding_request (username_between peer own) id controlling tie priority uses)))
        (with_nomination number (binding_request (username_between peer own) id controlling tie priority uses))
    check_reads key own peer id controlling uses number tie priority m bytes twenty short mine its put =
        let x : Message = with_nomination number (binding_request (username_between peer own) id controlling tie priority uses) in
        read m key x twenty LONGEST_NUMBERED_CHECK
        (fits key id (username_between peer own) controlling tie priority uses number (name_fits own peer short) LONGEST_NUMBERED_CHECK (omega arith))
        (record { class = tt; id = put.values.id; values = put.values.values; demands = rw (splits peer.ufrag own.ufrag its.plain mine.some) refl })

  -- ---- when a request is served

  -- the first candidate that receives it is live
  pub live_place : (b : AgentRecord H P) (q : RequestRecord) → list_any (is_live (receives q.path)) b.local ≡ true
      → (l : ℕ) × (local_place b.local q ≡ Some l) × ((candidate_at b.local l).discarded ≡ false)
  live_place b q there =
      let at : position (is_live (is_reached q)) b.local ≡ Some (position_or_len (is_live (is_reached q)) b.local) = first_found (is_live (is_reached q)) b.local there in
      let l = position_or_len (is_live (is_reached q)) b.local in
      let found = found-at (is_live (is_reached q)) b.local l at in (
        l,
        ap (λ (o : Option ℕ). option_or o (position (is_reached q) b.local)) at,
        persists (candidate_at b.local l).discarded (both (is_reached q (candidate_at b.local l)) (not (candidate_at b.local l).discarded) found.1).1,
      ) where
        persists : (d : Bool) → not d ≡ true → d ≡ false
        persists true h = absurd (cc)
        persists false h = refl

  module _ (q : RequestRecord) where
    -- the response is sent
    abbrev Replied : Emitted → Type 0
    Replied emitted = (path : Path) × (emitted.issued ≡ Some (issued_as path class.Success q.id))

    at_pair : (l r number : ℕ) (s new : AgentRecord H P) (emitted : Emitted) → RecordsAndResponds mac q l r number s emitted new → Replied emitted
    at_pair l r number s new emitted (path, mid, nominates, (values, is, made)) = (path_between s l r, ap (λ (t : Emitted). t.issued) is)

    takes_at : (l r : ℕ) (number : Option ℕ) (s new : AgentRecord H P) (emitted : Emitted) → (candidate_at s.local l).discarded ≡ false
        → FindsOrAddsPair mac q l r number s emitted new → Replied emitted
    takes_at l r (Some number) s new emitted live h = at_pair l r number s new emitted h
    takes_at l r None s new emitted live h =
        let k : AddsPairAndResponds mac q l r s emitted new = subst (λ b. MatchBool b (Drops s emitted new) (AddsPairAndResponds mac q l r s emitted new)) live h in
        at_pair l r s.next_number (with_pair (formed s l r) s) new emitted k.1

    joins_at : (l : ℕ) (place : RemotePlace) (s new : AgentRecord H P) (emitted : Emitted) → (candidate_at s.local l).discarded ≡ false
        → (place ≡ Barred → ⊥) → (place ≡ Full → ⊥) → AddsUnknownSender mac q l place s emitted new → Replied emitted
    joins_at l (Known r) s new emitted live met some (number, between, h) = takes_at l r number s new emitted live h
    joins_at l Barred s new emitted live met some h = absurd (met refl)
    joins_at l (Vacant r) s new emitted live met some (number, between, h) = takes_at l r number (with_sender_at r q s) new emitted live h
    joins_at l Full s new emitted live met some h = absurd (some refl)
    joins_at l Unknown s new emitted live met some (number, between, h) = takes_at l (length s.remote) number (with_sender q s) new emitted live h

    -- if no candidate at its source address was discarded, its remote place is not `Barred`
    meets : (remote : List CandidateRecord) (place : RemotePlace) → list_any (is_gone_at q.path) remote ≡ false → IsRemotePlace remote q place → place ≡ Barred → ⊥
    meets remote place none (Some live, greatest, is) barred = let wrong : Known live ≡ Barred = sym is ∙ barred in cc
    meets remote place none (None, greatest, is) barred = senders remote none greatest (list_any (is_sender q) remote) refl (sym is ∙ barred) where
      senders : (cs : List CandidateRecord) → list_any (is_gone_at q.path) cs ≡ false → IsGreatestPlace (is_live (is_sender q)) cs None
          → (knows : Bool) → list_any (is_sender q) cs ≡ knows → place_by None knows ≡ Barred → ⊥
      senders cs none greatest false is wrong = let no : Unknown ≡ Barred = wrong in cc
      senders cs none greatest true is wrong =
          let at : position (is_sender q) cs ≡ Some (position_or_len (is_sender q) cs) = first_found (is_sender q) cs is in
          let k = position_or_len (is_sender q) cs in
          let found = found-at (is_sender q) cs k at in
          let c = candidate_at cs k in
          neither_way c.discarded (is_sender q c) found.1 (greatest k found.0) (passes_none (is_gone_at q.path) cs c none (is-listed cs k found.0))

    -- the sender of a delivered check is not barred, also with a limit
    is-met : (s : AgentRecord H P) (place : RemotePlace) → list_any (is_gone_at q.path) s.remote ≡ false → IsSenderPlace s q place → place ≡ Barred → ⊥
    is-met s place none (Known k, is, same) barred = let no : Known k ≡ Barred = sym same ∙ barred in cc
    is-met s place none (Barred, is, same) barred = meets s.remote Barred none is refl
    is-met s place none (Unknown, is, room) barred = either (has_room s.max_discovered s.remote) room
        (λ _ same. (let no : Unknown ≡ Barred = sym same ∙ barred in cc))
        (λ _ vacancy. subst (λ r. IsVacancy s.remote s.pairs r) barred vacancy)
    is-met s place none (Vacant k, is, wrong) barred = wrong
    is-met s place none (Full, is, wrong) barred = wrong

    -- a known sender has a place without regard to the limit
    is-unknown : (s : AgentRecord H P) → IsRemotePlace s.remote q Unknown → list_any (is_sender q) s.remote ≡ false
    is-unknown s (Some live, greatest, is) = let no : Unknown ≡ Known live = is in cc
    is-unknown s (None, greatest, is) = by (list_any (is_sender q) s.remote) is where
      by : (b : Bool) → Unknown ≡ place_by None b → b ≡ false
      by true wrong = let no : Unknown ≡ Barred = wrong in cc
      by false e = refl

    -- so there is a place for the sender
    fits-in : (s : AgentRecord H P) (place : RemotePlace) → HasPlaceFor s q.path → IsSenderPlace s q place → place ≡ Full → ⊥
    fits-in s place some (Known k, is, same) full = let no : Known k ≡ Full = sym same ∙ full in cc
    fits-in s place some (Barred, is, same) full = let no : Barred ≡ Full = sym same ∙ full in cc
    fits-in s place some (Vacant k, is, wrong) full = wrong
    fits-in s place some (Full, is, wrong) full = wrong
    fits-in s place some (Unknown, is, room) full = either (has_room s.max_discovered s.remote) room
        (λ _ same. (let no : Unknown ≡ Full = sym same ∙ full in cc))
        (λ filled vacancy. lacks filled (subst (λ r. IsVacancy s.remote s.pairs r) full vacancy) some) where
          lacks : has_room s.max_discovered s.remote ≡ false → IsVacancy s.remote s.pairs Full → HasPlaceFor s q.path → ⊥
          lacks filled none (inl e) =
              let no : true ≡ false = sym e ∙ rw (is-unknown s is, filled) refl in cc
          lacks filled none (inr (k, lt, vacant)) = let no : true ≡ false = sym vacant ∙ none k lt in cc

    -- USE-CANDIDATE comes only from a controlling agent, and the candidates exist: so the request is served
    admitted : (l : ℕ) (s new : AgentRecord H P) (emitted : Emitted) → (candidate_at s.local l).discarded ≡ false → list_any (is_gone_at q.path) s.remote ≡ false → HasPlaceFor s q.path
        → is_misled s.controlling q ≡ false → CountsAndServes mac q l s emitted new → Replied emitted
    admitted l s new emitted live from room led n =
        let o : FindsSender mac q l (request_counted s) emitted new = subst (λ b. MatchBool b (Drops s emitted new) (FindsSender mac q l (request_counted s) emitted new)) led n in
        joins_at l o.0 (request_counted s) new emitted live (is-met s o.0 from o.1) (fits-in s o.0 room o.1) o.2

    -- a candidate that no pair has is free after the role has switched, too
    still-free : (sides : SidesRecord) (k : ℕ) (pairs : List PairRecord) → list_any (is_on k) (map (with_priority_in sides) pairs) ≡ list_any (is_on k) pairs
    still-free sides k [] = refl
    still-free sides k (p ∷ pairs) = ap (λ b. is_on k p || b) (still-free sides k pairs)

    still-room : (s : AgentRecord H P) → HasPlaceFor s q.path → HasPlaceFor (switched s) q.path
    still-room s (inl known) = inl known
    still-room s (inr (k, lt, vacant)) =
        inr (k, omega (arith, lt), subst (λ b. (is_temporary (candidate_at s.remote k) && not b) ≡ true) (sym (still-free (switched_sides s) k s.pairs)) vacant)

    -- the roles differ
    serves : (s new : AgentRecord H P) (emitted : Emitted) → is_for_other_peer s q ≡ false → IsReachedBy s q.path → conflict_of s q ≡ Absent
        → is_misled s.controlling q ≡ false → Serves mac q s emitted new → Replied emitted
    serves s new emitted named reached apart led h =
        let place = live_place s q reached.there in
        admitted place.0 s new emitted place.2 reached.from reached.room led (subst (λ c. ResolvesRoleConflictBy mac c q place.0 s emitted new) apart (resolved_in_turn mac q s new emitted place.0 named place.1 h))

    -- the agent switches its role
    serves-switched : (s new : AgentRecord H P) (emitted : Emitted) → is_for_other_peer s q ≡ false → IsReachedBy s q.path → conflict_of s q ≡ SwitchRole
        → is_misled (not s.controlling) q ≡ false → Serves mac q s emitted new → Replied emitted
    serves-switched s new emitted named reached switches led h =
        let place = live_place s q reached.there in
        admitted place.0 (switched s) new emitted place.2 reached.from (still-room s reached.room) led
        (subst (λ c. ResolvesRoleConflictBy mac c q place.0 s emitted new) switches (resolved_in_turn mac q s new emitted place.0 named place.1 h))

  -- ---- the result of a packet

  abbrev pub Took : Packet → ℕ → AgentRecord H P → Entry → Message → Type 0
  Took packet at old e m = (e.answer ≡ Flag true) × ((mid : AgentRecord H P) × Takes mac m.class at old (via_out packet) m e.emitted mid)

  pub took : (packet : Packet) (at : ℕ) (old : AgentRecord H P) (e : Entry) (new : AgentRecord H P) (m : Message) → Reads packet.contents m
      → IsAcceptedOn mac old (via_out packet) m → Delivered mac answers packet at old e new → Took packet at old e m
  took packet at old e new m reads accepted d = by d.step.0 where
    handled : (r : Result Bool IceError) (emitted : Emitted) → e ≡ record { answer = answer_by Flag r; emitted = emitted }
        → HandlesPacket mac at old (via_out packet) m r emitted new → Took packet at old e m
    handled (Ok false) emitted is h = absurd (h.0 accepted)
    handled (Ok true) emitted is h =
        (ap (λ (x : Entry). x.answer) is, (h.1.0, subst (λ (t : Emitted). Takes mac m.class at old (via_out packet) m t h.1.0) (sym (ap (λ (x : Entry). x.emitted) is)) h.1.1))
    handled (Err error) emitted is h = absurd (let wrong : true ≡ false = sym (ap (λ (x : Entry). is_rejection x.answer) is) ∙ d.nomination_accepted in cc)

    by : Receives mac answers at old (via_out packet) packet.contents e new → Took packet at old e m
    by (inl (fault, is, answer, same)) = faultless packet.contents m fault reads is
    by (inr (n, other, (r, emitted, is, handles))) =
        handled r emitted is (subst (λ (x : Message). HandlesPacket mac at old (via_out packet) x r emitted new) (same_reading packet.contents m n reads other) handles)

  -- the packet that is sent while the request is served takes the reverse path
  pub goes-back : (c : Class) (b served : AgentRecord H P) (check : Packet) (id : List ℕ) (at : ℕ) (e : Entry) → IsSound b → Delivered mac answers check at b e served
      → ((packet : Packet) (m : Message) → Says c b (ReceivePacket at (via_out check) check.contents) e packet.contents m (via_out packet) served.controlling → via_out packet ≡ reversed (via_out check))
      → (path : Path) → e.emitted.issued ≡ Some (issued_as path c id)
      → (reply : Packet) × (via_out reply ≡ reversed (via_out check)) × Sends b e c id reply served
  goes-back c b served check id at e sound_b delivered turns path emitted =
      let call : Call P = ReceivePacket at (via_out check) check.contents in
      let posted = (path_effect mac answers b served delivered.before delivered.following e call sound_b delivered.step).2 in
      elim (issues mac answers b served delivered.before delivered.following e call posted) [
        | inl none ↦ absurd (let no : None ≡ Some (issued_as path c id) = sym none ∙ emitted in cc)
        | inr (packet, put, issue) ↦ (let same = emitted_as path (via_out packet) c issue.0.class id issue.0.id (sym emitted ∙ issue.2) in (
          packet,
          turns packet issue.0 (subst (λ k. Says k b call e packet.contents issue.0 (via_out packet) served.controlling) (sym same.1) issue.3),
          record { emitted = emitted ∙ ap (λ w. Some (issued_as w c id)) same.0; put = put },
        ))
      ]

  -- the request that is served came on the packet's path
  pub brought-by : (b : AgentRecord H P) (check : Packet) (at : ℕ) (e : Entry) (q : RequestRecord) → IsServing b (ReceivePacket at (via_out check) check.contents) e q → q.path ≡ via_out check
  brought-by b check at e q (now, by, n, (now_is, by_is, reads, flag), request, known, is) = ap (λ (r : RequestRecord). r.path) is ∙ sym by_is

  -- ---- the check

  module _ (read : (m : List ℕ → List ℕ → List ℕ) (key : List ℕ) (x : Message) → WrittenIsRead m key x)
      (fits : (key id username : List ℕ) (controlling : Bool) (tie_breaker priority : ℕ) (nominates : Bool) (number : Option ℕ)
      → length username ≤ USERNAME_LIMIT → FitsInto key LONGEST_NUMBERED_CHECK (with_nomination number (binding_request username id controlling tie_breaker priority nominates))) where
    -- the check of a known agent arrives: it is accepted, and passes the test of its username fragment
    pub check-comes : (a sent b served : AgentRecord H P) (check came : Packet) (id : List ℕ) (at : ℕ) (e : Entry) → IsSound a → KnowEachOther mac a b
        → Issued mac answers class.Request id check a sent → came.contents ≡ check.contents → Delivered mac answers came at b e served → Comes mac a b came id at e
    check-comes a sent b served check came id at e sound_a know issued unaltered delivered =
        let i = issued_packet a sent class.Request id check sound_a issued in
        let same = emitted_as (via_out check) (via_out check) class.Request i.0.class id i.0.id (sym issued.sends.emitted ∙ i.2) in
        asked i.0 (i.1 ∙ ap (λ c. written (mac a.provider) (Some (key_for c a.local_creds a.remote_creds)) i.0) (sym same.1)) (sym same.2)
        (subst (λ c. Says c a issued.call issued.entry check.contents i.0 (via_out check) sent.controlling) (sym same.1) i.3) where
          via : Path
          via = via_out came

          taken : (peer : IceCreds) (c : CandidateRecord) (uses : Bool) (number : Option ℕ) (own : List ℕ) → own ≡ id → (uses ≡ true → a.controlling ≡ true) → peer ≡ b.local_creds
              → (back : ReadsBack (mac a.provider) peer.pass
              (written (mac a.provider) (Some peer.pass) (with_nomination number (binding_request (username_between peer a.local_creds) own a.controlling a.tie_breaker (check_priority c) uses)))
              (with_nomination number (binding_request (username_between peer a.local_creds) own a.controlling a.tie_breaker (check_priority c) uses)))
              → Reads came.contents back.read → Comes mac a b came id at e
          taken peer c uses number own id_is leads it back reads =
              let x : Message = with_nomination number (binding_request (username_between peer a.local_creds) own a.controlling a.tie_breaker (check_priority c) uses) in
              let n : Message = back.read in
              let same : SameMessage n x = back.same in
              let names : split_username n.attributes ≡ Some (peer.ufrag, a.local_creds.ufrag) =
              ap (λ (r : AttributesRecord). split_username r) same.attributes
              ∙ splits peer.ufrag a.local_creds.ufrag (subst (λ (y : IceCreds). list_any (λ b. b == 58) y.ufrag ≡ false) (sym it) know.other.plain) know.own.some in
              let addressed : IsAddressed b n =
              subst (λ o. IsSomeAnd o (λ (name : List ℕ × List ℕ). (name.0 ≡ b.local_creds.ufrag) × IfSome b.remote_creds (λ (k : IceCreds). name.1 ≡ k.ufrag))) (sym names)
              (ap (λ (y : IceCreds). y.ufrag) it, subst (λ o. IfSome o (λ (k : IceCreds). a.local_creds.ufrag ≡ k.ufrag)) (sym know.its) refl) in
              let signed : IsSignedBy (mac b.provider) n b.local_creds.pass =
              subst (λ k. IsSignedBy k n b.local_creds.pass) know.alike (subst (λ (y : IceCreds). IsSignedBy (mac a.provider) n y.pass) it back.signed) in
              let accepted : IsAcceptedOn mac b via n =
              (same.method, subst (λ k. IsAcceptedAs mac k (keeps_check_on b via n.id) b n) (sym same.class) (addressed, signed)) in
              let t = took came at b e served n reads accepted delivered in
              let q : RequestRecord = request_in at via n in
              let mid = t.1.0 in
              let takes : HandlesRequest mac q b e.emitted mid = subst (λ k. Takes mac k at b via n e.emitted mid) same.class t.1.1 in
              let from : q.ufrag ≡ a.local_creds.ufrag = ap (λ o. option_map_or (λ (name : List ℕ × List ℕ). name.1) o []) names in
              let nominates : n.attributes.use_candidate ≡ uses = ap (λ (r : AttributesRecord). r.use_candidate) same.attributes in
              record {
                message = n;
                reads = reads;
                accepted = t.0;
                request = same.class;
                id_is = same.id ∙ id_is;
                named = ap (λ o. option_map_or (λ (k : IceCreds). not (bytes_eq q.ufrag k.ufrag)) o true) know.its
                    ∙ ap not ((bytes_eq-Decides q.ufrag a.local_creds.ufrag).1 from);
                controlling = ap (λ (r : AttributesRecord). r.ice_controlling) same.attributes;
                controlled = ap (λ (r : AttributesRecord). r.ice_controlled) same.attributes;
                leads = λ is. leads (sym nominates ∙ is);
                mid = mid;
                serves = subst (λ o. MatchOption o (Queues q b e.emitted mid) (λ _. Serves mac q b e.emitted mid)) know.its takes;
              }

          asked : (m : Message) → check.contents ≡ written (mac a.provider) (Some (key_for class.Request a.local_creds a.remote_creds)) m → m.id ≡ id
              → Says class.Request a issued.call issued.entry check.contents m (via_out check) sent.controlling → Comes mac a b came id at e
          asked m contents id_is (peer, c, uses, number, known, has, m_is, put, role, leads, numbered) =
              let x : Message = with_nomination number (binding_request (username_between peer a.local_creds) m.id a.controlling a.tie_breaker (check_priority c) uses) in
              let it : peer ≡ b.local_creds = some_is peer b.local_creds (sym known ∙ know.mine) in
              let bytes : check.contents ≡ written (mac a.provider) (Some peer.pass) x =
              contents ∙ ap (λ o. written (mac a.provider) (Some (key_for class.Request a.local_creds o)) m) known ∙ ap (λ (y : Message). written (mac a.provider) (Some peer.pass) y) m_is in
              let back : ReadsBack (mac a.provider) peer.pass (written (mac a.provider) (Some peer.pass) x) x =
              check_reads read fits peer.pass a.local_creds peer m.id a.controlling uses number a.tie_breaker (check_priority c) (mac a.provider) check.contents know.twenty
              (let short : are_too_long a.local_creds (Some b.local_creds) ≡ false = cc (know.fit) in
              subst (λ (y : IceCreds). are_too_long a.local_creds (Some y) ≡ false) (sym it) short) know.own
              (subst (λ (y : IceCreds). IsFragment y.ufrag) (sym it) know.other) (subst (λ (y : Message). IsPut check.contents y) m_is put) in
              taken peer c uses number m.id id_is leads it back (subst (λ bs. Reads bs back.read) (sym (unaltered ∙ bytes)) back.reads)

    pub carried-are-served : CarriedAreServed mac answers
    carried-are-served a sent b served check came id at e sound_a sound_b know apart reached issued unaltered delivered =
        let reply = replied (conflict_of b q) refl apart in (
          (k.message, (refl, refl, k.reads, k.accepted), k.request),
          goes-back class.Success b served came id at e sound_b delivered (λ packet m says. says.3 ∙ ap reversed (brought-by b came at e says.0 says.1))
              reply.0 (reply.1 ∙ ap (λ i. Some (issued_as reply.0 class.Success i)) k.id_is),
        ) where
          k : Comes mac a b came id at e
          k = check-comes a sent b served check came id at e sound_a know issued unaltered delivered

          q : RequestRecord
          q = request_in at (via_out came) k.message

          role : served.controlling ≡ role_once (conflict_of b q) b.controlling
          role =
              let place = live_place b q reached.there in
              (trade_theorem mac answers b served delivered.before delivered.following (ReceivePacket at (via_out came) came.contents) e sound_b tt delivered.step).settled q
              (at, via_out came, k.message, (refl, refl, k.reads, k.accepted), k.request, ap (λ o. is_some o) know.its, refl) (k.named, (place.0, place.1))

          led : (r : Bool) → r ≡ not a.controlling → is_misled r q ≡ false
          led r other = subst (λ z. (z && q.use_candidate) ≡ false) (sym other) (not_misled a.controlling q.use_candidate k.leads)

          differ : b.controlling ≡ not a.controlling → Replied q e.emitted
          differ other =
              let rival_of : rival_in b.controlling q ≡ None = subst (λ r. rival_in r q ≡ None) (sym other) (no_rival a.controlling q a.tie_breaker k.controlling k.controlled) in
              serves q b k.mid e.emitted k.named reached (ap (λ o. conflict_by (keeps_role b) b.tie_breaker o) rival_of) (led b.controlling other) k.serves

          replied : (c : Conflict) → conflict_of b q ≡ c → AreApart mac answers a b served → Replied q e.emitted
          replied c is (inl other) = differ other
          replied Absent is (inr after) = differ (sym (role ∙ ap (λ c. role_once c b.controlling) is) ∙ after)
          replied Send487 is (inr after) = differ (sym (role ∙ ap (λ c. role_once c b.controlling) is) ∙ after)
          replied SwitchRole is (inr after) =
              serves-switched q b k.mid e.emitted k.named reached is (led (not b.controlling) (sym (role ∙ ap (λ c. role_once c b.controlling) is) ∙ after)) k.serves

    pub checks-are-served : ChecksAreServed mac answers
    checks-are-served a sent b served check id at e sound_a sound_b know apart reached issued delivered =
        carried-are-served a sent b served check check id at e sound_a sound_b know (inl apart) reached issued refl delivered

  -- ---- its response

  module _ (read : (m : List ℕ → List ℕ → List ℕ) (key : List ℕ) (x : Message) → WrittenIsRead m key x)
      (unscoped : (m : List ℕ → List ℕ → List ℕ) (key : Option (List ℕ)) (x : Message) → IsWrittenPlain m key x)
      (fits : (key id : List ℕ) (address : SocketAddr) → FitsInto key LONGEST_REPLY (binding_reply id address)) where
    pub carried-are-accepted : CarriedAreAccepted mac answers
    carried-are-accepted a taken b served reply came id at e sound_b know issued unaltered kept delivered =
        let i = issued_packet b served class.Success id reply sound_b issued in
        let same = emitted_as (via_out reply) (via_out reply) class.Success i.0.class id i.0.id (sym issued.sends.emitted ∙ i.2) in
        emitted i.0 (i.1 ∙ ap (λ c. written (mac b.provider) (Some (key_for c b.local_creds b.remote_creds)) i.0) (sym same.1)) (sym same.2)
        (subst (λ c. Says c b issued.call issued.entry reply.contents i.0 (via_out reply) served.controlling) (sym same.1) i.3) where
          via : Path
          via = via_out came

          emitted : (m : Message) → reply.contents ≡ written (mac b.provider) (Some b.local_creds.pass) m → m.id ≡ id
              → Says class.Success b issued.call issued.entry reply.contents m (via_out reply) served.controlling → IsTaken mac answers came at e class.Success
          emitted m contents id_is (q, serving, m_is, path_is, put) =
              let key : List ℕ = b.local_creds.pass in
              let x : Message = binding_reply q.id (carried q.path.source) in
              let bytes : reply.contents ≡ written (mac b.provider) (Some key) x =
              contents ∙ ap (λ (y : Message). written (mac b.provider) (Some key) y) m_is ∙ unscoped (mac b.provider) (Some key) (binding_reply q.id q.path.source)
              ∙ ap (λ (y : Message). written (mac b.provider) (Some key) y) (plain-reply q.id q.path.source) in
              let twenty : (k text : List ℕ) → length (mac b.provider k text) ≡ 20 = subst (λ (f : List ℕ → List ℕ → List ℕ). (k text : List ℕ) → length (f k text) ≡ 20) know.alike know.twenty in
              let back : ReadsBack (mac b.provider) key (written (mac b.provider) (Some key) x) x =
              read (mac b.provider) key x twenty LONGEST_REPLY (fits key q.id (carried q.path.source) LONGEST_REPLY (omega arith))
              (record { class = tt; id = put.values.id; values = put.values.values; demands = refl }) in
              let n : Message = back.read in
              let same : SameMessage n x = back.same in
              let own : n.id ≡ id = same.id ∙ sym (ap (λ (y : Message). y.id) m_is) ∙ id_is in
              let signed : IsSomeAnd a.remote_creds (λ peer. IsSignedBy (mac a.provider) n peer.pass) =
              subst (λ o. IsSomeAnd o (λ (peer : IceCreds). IsSignedBy (mac a.provider) n peer.pass)) (sym know.mine) (subst (λ k. IsSignedBy k n key) (sym know.alike) back.signed) in
              let awaited : list_any (keeps_check_on a via n.id) a.pairs ≡ true = subst (λ k. list_any (keeps_check_on a via k) a.pairs ≡ true) (sym own) kept in
              let accepted : IsAcceptedOn mac a via n =
              (same.method, subst (λ k. IsAcceptedAs mac k (keeps_check_on a via n.id) a n) (sym same.class) (awaited, signed)) in
              let reads : Reads came.contents n = subst (λ bs. Reads bs n) (sym (unaltered ∙ bytes)) back.reads in
              let t = took came at a e taken n reads accepted delivered in
              (n, (refl, refl, reads, t.0), same.class)

    pub replies-are-accepted : RepliesAreAccepted mac answers
    replies-are-accepted a taken b served reply id at e sound_b know issued kept delivered =
        carried-are-accepted a taken b served reply reply id at e sound_b know issued refl kept delivered

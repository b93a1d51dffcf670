-- How requests, packets and timeouts change the lists that a limit bounds.
use Rattle.is_stun.specs.declared.header.Class.TheVariants as class
use Rattle.is_theorems.proofs.Common.{[], ◌&&◌, ◌++◌, ◌-◌, ◌<◌, ◌∙◌, ◌∷◌, ◌≡◌, ◌≤◌, Absent, AddsUnknownSender, AgentRecord, ap, arith}
use Rattle.is_theorems.proofs.Common.{at_request, Barred, Bool, candidate_at, CandidateRecord, Class, Conflict, conflict_of}
use Rattle.is_theorems.proofs.Common.{CountsAndServes, discovered_count, discovered_emitted, Drops, Emitted, Entry, Err, false}
use Rattle.is_theorems.proofs.Common.{FindsOrAddsPair, first_taken, formed, Full, HandlesPacket, has_local_room, has_room, IceCreds}
use Rattle.is_theorems.proofs.Common.{IceError, if◌then◌else◌, in_turn, inl, inr, is_for_other_peer, is_known_address, is_left_out}
use Rattle.is_theorems.proofs.Common.{is_mapped, is_misled, is_passed_over, is_signaled, is_temporary, is_valid_at, IsPlaceOf}
use Rattle.is_theorems.proofs.Common.{IsSenderPlace, IsWithin, Known, length, length-drop, List, local_place, ltb-true, MaintainsPairs}
use Rattle.is_theorems.proofs.Common.{mapped_added, mapped_candidate, mapped_count, MatchOption, Message, newest, None, not, Ok, Option}
use Rattle.is_theorems.proofs.Common.{pair_served, PairRecord, Path, Queues, Receives, RecordsAndResponds, refl, RemotePlace, request_at}
use Rattle.is_theorems.proofs.Common.{request_counted, request_in, RequestRecord, ResolvesRoleConflict, ResolvesRoleConflictBy, Result}
use Rattle.is_theorems.proofs.Common.{selects_at_requests, Send487, sender_candidate, Serves, SocketAddr, Some, Source, Stream, subst}
use Rattle.is_theorems.proofs.Common.{success_counted, switched, SwitchRole, sym, Takes, timeout_begun, TimesOut, true, Unknown, Vacant}
use Rattle.is_theorems.proofs.Common.{with_pair, with_sender, with_sender_at, ℕ}
use Rattle.is_theorems.proofs.RuleEffects.UnchangedSettings.{either}
use Rattle.is_theorems.proofs.BasicLemmas.UsernamesAndFirstMatches.{neither}
use Rattle.is_theorems.proofs.StorageBounds.BoundedLists.{Lists, Within, fits-brought, fits-put, is_own}
use Rattle.is_theorems.proofs.StorageBounds.UnchangedLists.{lists_of, Same, same, where_same, maintains_pairs_same, success_same}
use Rattle.is_theorems.proofs.StorageBounds.UnchangedLists.{failure_same}

not-false : (b : Bool) → not b ≡ false → b ≡ true
not-false true h = refl
not-false false h = absurd (cc)

-- an unknown sender is appended only below the limit
room-below : (most : ℕ) (limit : Option ℕ) (q : RequestRecord) (remote : List CandidateRecord) (pairs : List PairRecord) → IsWithin most limit → IsPlaceOf limit remote pairs q Unknown
    → discovered_count remote < most
room-below most None q remote pairs le place = absurd le
room-below most (Some n) q remote pairs le (Known k, is, wrong) = absurd (let no : Unknown ≡ Known k = wrong in cc)
room-below most (Some n) q remote pairs le (Barred, is, wrong) = absurd (let no : Unknown ≡ Barred = wrong in cc)
room-below most (Some n) q remote pairs le (Vacant k, is, wrong) = absurd wrong
room-below most (Some n) q remote pairs le (Full, is, wrong) = absurd wrong
room-below most (Some n) q remote pairs le (Unknown, is, room) = either (has_room (Some n) remote) room
    (λ e _. let lt = ltb-true (discovered_count remote) n e in omega (arith, lt, le))
    (λ _ wrong. absurd wrong)

-- a mapped address is appended only below the limit
room-local : (most : ℕ) (limit : Option ℕ) (local : List CandidateRecord) (mapped : SocketAddr) → IsWithin most limit → is_left_out limit local mapped ≡ false → mapped_count local < most
room-local most None local mapped le e = absurd le
room-local most (Some n) local mapped le e =
    let room = not-false (has_local_room (Some n) local) (neither (is_known_address local mapped) (not (has_local_room (Some n) local)) e).1 in
    let lt = ltb-true (mapped_count local) n room in omega (arith, lt, le)

-- the sources that are kept
newest-short : (most : ℕ) (limit : Option ℕ) (sources : List Source) → IsWithin most limit → length (newest limit sources) ≤ most
newest-short most None sources le = absurd le
newest-short most (Some n) sources le = let e = length-drop (length sources - n) sources in omega (arith, e, le)

module _ {H P : Type 0} where
  -- ---- requests

  module _ (most g n : ℕ) where
    abbrev pub Stays : AgentRecord H P → AgentRecord H P → Type 0
    Stays old new = Within most g n (lists_of old) → Within most g n (lists_of new)

    pub by_same : (old new : AgentRecord H P) → Same old new → Stays old new
    by_same old new e within = subst (λ l. Within most g n l) (sym e) within

    -- the limit stays, and so do the bounds
    abbrev Served : AgentRecord H P → AgentRecord H P → Type 0
    Served s new = (new.max_discovered ≡ s.max_discovered) × (IsWithin most s.max_discovered → Stays s new)

    served_same : (s new : AgentRecord H P) → Same s new → Served s new
    served_same s new e = (ap (λ (l : Lists). l.limit) e, λ _. by_same s new e)

    module _ (mac : H → List ℕ → List ℕ → List ℕ) (q : RequestRecord) where
      pair : (l r number : ℕ) (s new : AgentRecord H P) (emitted : Emitted) → RecordsAndResponds mac q l r number s emitted new → Same s new
      pair l r number s new emitted (path, mid, nominates, (values, is, made)) =
          ap (λ (a : AgentRecord H P). lists_of a) made ∙ where_same (selects_at_requests s && is_valid_at number s.pairs) (pair_served q number s) mid path nominates

      takes : (l r : ℕ) (number : Option ℕ) (s new : AgentRecord H P) (emitted : Emitted) → FindsOrAddsPair mac q l r number s emitted new → Same s new
      takes l r (Some number) s new emitted h = pair l r number s new emitted h
      takes l r None s new emitted h = either (candidate_at s.local l).discarded h (λ _ k. same s new k.1) (λ _ k. pair l r s.next_number (with_pair (formed s l r) s) new emitted k.1)

      joins_at : (l : ℕ) (place : RemotePlace) (s new : AgentRecord H P) (emitted : Emitted) → IsSenderPlace s q place → AddsUnknownSender mac q l place s emitted new → Served s new
      joins_at l (Known r) s new emitted is (number, between, h) = served_same s new (takes l r number s new emitted h)
      joins_at l Barred s new emitted is h = served_same s new (same s new h.1)
      joins_at l Full s new emitted is h = served_same s new (same s new h.1)
      joins_at l Unknown s new emitted is (number, between, h) =
          let e = takes l (length s.remote) number (with_sender q s) new emitted h in
          let c : CandidateRecord = sender_candidate s q in (
            ap (λ (l : Lists). l.limit) e,
            λ limit within. by_same (with_sender q s) new e (record {
              local = within.local;
              remote = fits-brought is_temporary is_signaled (λ x. refl) most n s.remote c refl (room-below most s.max_discovered q s.remote s.pairs limit is) within.remote;
              sources = within.sources;
            }),
          )
      joins_at l (Vacant r) s new emitted is (number, between, h) =
          let e = takes l r number (with_sender_at r q s) new emitted h in
          let c : CandidateRecord = sender_candidate s q in (
            ap (λ (l : Lists). l.limit) e,
            λ limit within. by_same (with_sender_at r q s) new e (record {
              local = within.local;
              remote = fits-put is_signaled most n s.remote r c refl within.remote;
              sources = within.sources;
            }),
          )

      admitted : (l : ℕ) (s new : AgentRecord H P) (emitted : Emitted) → CountsAndServes mac q l s emitted new → Served s new
      admitted l s new emitted h = either (is_misled s.controlling q) h (λ _ k. served_same s new (same s new k.1))
          (λ _ k. (let j = joins_at l k.0 (request_counted s) new emitted k.1 k.2 in (j.0, λ limit within. j.1 limit (record { local = within.local; remote = within.remote; sources = within.sources }))))

      resolves_by : (conflict : Conflict) (l : ℕ) (s new : AgentRecord H P) (emitted : Emitted) → ResolvesRoleConflictBy mac conflict q l s emitted new → Served s new
      resolves_by Absent l s new emitted h = admitted l s new emitted h
      resolves_by Send487 l s new emitted (values, is, made) = served_same s new (ap (λ (a : AgentRecord H P). lists_of a) made)
      resolves_by SwitchRole l s new emitted h = (let j = admitted l (switched s) new emitted h in (j.0, λ limit within. j.1 limit (record { local = within.local; remote = within.remote; sources = within.sources })))

      here : (place : Option ℕ) (s new : AgentRecord H P) (emitted : Emitted) → MatchOption place (Drops s emitted new) (λ l. ResolvesRoleConflict mac q l s emitted new) → Served s new
      here None s new emitted h = served_same s new (same s new h.1)
      here (Some l) s new emitted h = resolves_by (conflict_of s q) l s new emitted h

      serves : (s new : AgentRecord H P) (emitted : Emitted) → Serves mac q s emitted new → Served s new
      serves s new emitted h = either (is_for_other_peer s q) (in_turn mac q s new emitted h) (λ _ k. served_same s new (same s new k.1)) (λ _ k. here (local_place s.local q) s new emitted k)

      requested : (remote : Option IceCreds) (s new : AgentRecord H P) (emitted : Emitted) → MatchOption remote (Queues q s emitted new) (λ _. Serves mac q s emitted new) → Served s new
      requested None s new emitted h = served_same s new (ap (λ (a : AgentRecord H P). lists_of a) h.1)
      requested (Some peer) s new emitted h = serves s new emitted h

    -- ---- responses

    new_mapped_candidate : (p : PairRecord) (mapped : Option SocketAddr) (s : AgentRecord H P) → Served s (mapped_added p mapped (success_counted s))
    new_mapped_candidate p None s = (refl, λ limit within. record { local = within.local; remote = within.remote; sources = within.sources })
    new_mapped_candidate p (Some mapped) s = (refl, λ limit within. by (is_left_out s.max_discovered s.local mapped) refl limit within) where
      by : (b : Bool) → is_left_out s.max_discovered s.local mapped ≡ b → IsWithin most s.max_discovered → Within most g n (lists_of s)
          → Within most g n (record {
            limit = s.max_discovered;
            local = if b then s.local else s.local ++ mapped_candidate (success_counted s) p mapped ∷ [];
            remote = s.remote;
            sources = s.discovered_sources;
          })
      by true e limit within = record { local = within.local; remote = within.remote; sources = within.sources }
      by false e limit within = record {
        local = fits-brought is_mapped is_own (λ x. refl) most g s.local (mapped_candidate (success_counted s) p mapped) refl (room-local most s.max_discovered s.local mapped limit e) within.local;
        remote = within.remote;
        sources = within.sources;
      }

    -- ---- packets

    module _ (mac : H → List ℕ → List ℕ → List ℕ) where
      by_class : (c : Class) (now : ℕ) (old mid : AgentRecord H P) (via : Path) (m : Message) (emitted : Emitted) → Takes mac c now old via m emitted mid → Served old mid
      by_class class.Request now old mid via m emitted h = requested mac (request_in now via m) old.remote_creds old mid emitted h
      by_class class.Success now old mid via m emitted h =
          let k = success_same now old mid via m emitted h in
          let l = new_mapped_candidate k.0 m.attributes.xor_mapped_address old in
          (ap (λ (x : Lists). x.limit) k.1 ∙ l.0, λ limit within. by_same (mapped_added k.0 m.attributes.xor_mapped_address (success_counted old)) mid k.1 (l.1 limit within))
      by_class class.Failure now old mid via m emitted h = served_same old mid (failure_same old mid via m emitted h)
      by_class class.Indication now old mid via m emitted h = absurd h
      by_class class.Unknown now old mid via m emitted h = absurd h

      discovered : (c : Class) (emitted : Emitted) (via : Path) (a : AgentRecord H P) → IsWithin most a.max_discovered → Stays a (discovered_emitted c emitted via a)
      discovered c emitted via a limit within = record {
        local = within.local;
        remote = within.remote;
        sources = by (is_passed_over c emitted via a);
      } where
        more : List Source
        more = a.discovered_sources ++ record { proto = via.proto; address = via.source } ∷ []

        by : (b : Bool) → length (if b then a.discovered_sources else newest a.max_discovered more) ≤ most
        by true = within.sources
        by false = newest-short most a.max_discovered more limit

      handled : (now : ℕ) (old new : AgentRecord H P) (via : Path) (m : Message) (r : Result Bool IceError) (emitted : Emitted) → IsWithin most old.max_discovered
          → HandlesPacket mac now old via m r emitted new → Stays old new
      handled now old new via m (Ok false) emitted limit (rejected, is, made) = by_same old new (same old new made)
      handled now old new via m (Ok true) emitted limit (accepted, (mid, takes_it, made)) =
          let k = by_class m.class now old mid via m emitted takes_it in
          λ within. by_same (discovered_emitted m.class emitted via mid) new (ap (λ (a : AgentRecord H P). lists_of a) made) (discovered m.class emitted via mid (subst (λ o. IsWithin most o) (sym k.0) limit) (k.1 limit within))
      handled now old new via m (Err error) emitted limit (may, is, made) = by_same old new (same old new made)

      pub received : (answers : P → CandidateRecord → ℕ → ℕ → Type 0) (now : ℕ) (old new : AgentRecord H P) (via : Path) (bytes : List ℕ) (e : Entry) → IsWithin most old.max_discovered
          → Receives mac answers now old via bytes e new → Stays old new
      received answers now old new via bytes e limit (inl (fault, has, is, made)) = by_same old new (same old new made)
      received answers now old new via bytes e limit (inr (m, reads, (r, emitted, is, handles))) = handled now old new via m r emitted limit handles

      pub timed : (now : ℕ) (old new : AgentRecord H P) (s t : Stream) (r : Result (Unit {0}) IceError) (emitted : Emitted) → IsWithin most old.max_discovered
          → TimesOut mac now old s r emitted new t → Stays old new
      timed now old new s t (Ok _) emitted limit h = by (request_at now old) h where
        by : (q : Option RequestRecord) → MatchOption q (MaintainsPairs mac now (timeout_begun now old) s emitted new t) (λ q. Serves mac q (first_taken (at_request now (timeout_begun now old))) emitted new × (t ≡ s)) → Stays old new
        by None k = by_same old new (maintains_pairs_same mac now (timeout_begun now old) new s t emitted k)
        by (Some q) (k, drawn) =
            λ within. (serves mac q (first_taken (at_request now (timeout_begun now old))) new emitted k).1 limit (record { local = within.local; remote = within.remote; sources = within.sources })
      timed now old new s t (Err error) emitted limit (may, is, made, drawn) = by_same old new (same old new made)

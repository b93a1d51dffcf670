-- Serving a Binding request (RFC 8445, section 7.3): what is chosen before anything changes, the steps, and their list, `ServesAt`. `s` is the
-- state before, and `emitted` and `new` are what serving emits, and the state after it.
use Rattle.std.specs.Prelude.{◌≡◌, ℕ, ◌==◌, ◌&&◌, ◌||◌, Bool, true, false, not, List, [], ◌∷◌, ◌++◌, length, slice_set, bytes_eq, max, unwrap_or, Option, Some, None}
use Rattle.std.specs.Prelude.{is_some, MatchBool, MatchOption, if◌then◌else◌}
use Rattle.std.specs.Option.{option_map_or}
use Rattle.is_proto.specs.Times.{MAX, counted}
use Rattle.is_proto.specs.declared.error.IceError.{IceError}
use Rattle.is_proto.specs.declared.error.IceError.TheVariants.{OutOfMemory, PairIdsExhausted}
use Rattle.is_candidate.specs.Candidates.{CandidateRecord, candidate_at}
use Rattle.is_candidate.specs.Making.{peer_reflexive_candidate}
use Rattle.is_candidate.specs.Equality.{TEMPORARY}
use Rattle.is_pair.specs.Pairs.{PairRecord, is_nominated, with_request, validated, nominated, numbered}
use Rattle.is_pair.specs.Due.{triggered}
use Rattle.is_stun.specs.declared.header.Class.TheVariants.{Success, Failure}
use Rattle.is_stun.specs.Checks.{binding_reply, binding_role_conflict_reply}
use Rattle.is_stun.specs.Theorems.{IsPut}
use Rattle.is_stun.specs.Writing.{written}
use Rattle.is_stun.specs.Timing.{is_modern}
use Rattle.is_rules.specs.declared.credentials.IceCreds.{IceCreds}
use Rattle.is_rules.specs.declared.places.RemotePlace.{RemotePlace}
use Rattle.is_rules.specs.declared.places.RemotePlace.TheVariants.{Known, Barred, Unknown, Vacant, Full}
use Rattle.is_rules.specs.declared.roles.Conflict.{Conflict}
use Rattle.is_rules.specs.declared.roles.Conflict.TheVariants.{Absent, Send487, SwitchRole}
use Rattle.is_rules.specs.declared.serving.Places.{Places}
use Rattle.is_rules.specs.declared.emitted.Path.{Path}
use Rattle.is_rules.specs.declared.emitted.Emitted.{Emitted}
use Rattle.is_rules.specs.Emitted.{nothing_emitted, issued_as, issued_only, emitted_by, reversed}
use Rattle.is_rules.specs.Request.{RequestRecord}
use Rattle.is_rules.specs.Agent.{AgentRecord}
use Rattle.is_pair.specs.Multiset.{change_pair, is_valid_at, IsPairBetween}
use Rattle.is_rules.specs.Places.{local_place, remote_index}
use Rattle.is_rules.specs.Limit.{IsSenderPlace}
use Rattle.is_rules.specs.Forming.{formed, with_pair}
use Rattle.is_rules.specs.Queue.{queued}
use Rattle.is_rules.specs.Sending.{carried, path_between, with_packet}
use Rattle.is_rules.specs.Nominating.{numbers, NominatesWhere}
use Rattle.is_rules.specs.StateUpdates.{state_updated}
use Rattle.is_rules.specs.Roles.{conflict_of, switched}

-- A lite agent sends no checks of its own: while it is controlled, each request makes the pair valid.
abbrev pub validated_by_peer : Bool → Bool → PairRecord → PairRecord
validated_by_peer controlling lite p = if lite && not controlling then validated p else p

-- A controlled agent nominates the pair if the request has USE-CANDIDATE and the pair is not nominated yet (RFC 8445, section
-- 7.3.1.5).
abbrev pub nominated_by_peer : Bool → Bool → RequestRecord → PairRecord → PairRecord
nominated_by_peer controlling lite q p = if not controlling && q.use_candidate && not (is_nominated p) then nominated lite p else p

-- What a request says of nomination, as the agent takes it. If nominations have numbers, NOMINATION decides, where it is present: 0 is
-- none. Otherwise it is ignored.
abbrev pub as_taken : Bool → RequestRecord → RequestRecord
as_taken false q = record q { nomination = None }
as_taken true q = record q { use_candidate = option_map_or (λ n. not (n == 0)) q.nomination q.use_candidate }

-- On a controlled agent the pair keeps the greatest number of its nominations.
abbrev pub numbered_by_peer : Bool → Option ℕ → PairRecord → PairRecord
numbered_by_peer controlling None p = p
numbered_by_peer controlling (Some n) p = if controlling then p else numbered n p

-- A nomination with a number was served, now or before.
abbrev pub sees_number : Bool → Option ℕ → Bool → Bool
sees_number controlling None seen = seen
sees_number controlling (Some n) seen = if controlling || n == 0 then seen else true

-- the pair that the peer nominated last, after a request at the pair with this number
abbrev pub nominated_last : Bool → RequestRecord → ℕ → Option ℕ → Option ℕ
nominated_last controlling q number last = if not controlling && q.use_candidate then Some number else last

-- the pair records the peer's check, and may become valid and nominated, with a number
abbrev pub served : Bool → Bool → RequestRecord → PairRecord → PairRecord
served controlling lite q p =
    numbered_by_peer controlling q.nomination (nominated_by_peer controlling lite q (validated_by_peer controlling lite (with_request q.time p)))

-- The peer sends USE-CANDIDATE while the agent is controlling.
abbrev pub is_misled : Bool → RequestRecord → Bool
is_misled controlling q = controlling && q.use_candidate

-- Serving continues to the remote candidate: the request passes the rules on role conflicts and on USE-CANDIDATE. `controlling`
-- is the role before them.
abbrev pub is_admitted : Conflict → Bool → RequestRecord → Bool
is_admitted Absent controlling q = not (is_misled controlling q)
is_admitted Send487 controlling q = false
is_admitted SwitchRole controlling q = not (is_misled (not controlling) q)

-- There is no pair of the two candidates, and one would be added.
abbrev pub needs_pair_at : RemotePlace → Option ℕ → Bool → Bool
needs_pair_at Barred pair discarded = false
needs_pair_at (Known r) pair discarded = not (is_some pair) && not discarded
needs_pair_at Unknown pair discarded = not (is_some pair) && not discarded
needs_pair_at (Vacant r) pair discarded = not (is_some pair) && not discarded
needs_pair_at Full pair discarded = false

-- The agent keeps its role, and sends a 487.
abbrev pub is_487 : Conflict → Bool
is_487 Absent = false
is_487 Send487 = true
is_487 SwitchRole = false

-- The index of the sender among the remote candidates. None: only discarded candidates match it, or there is no place for it at the limit.
abbrev pub sender_index : List CandidateRecord → RemotePlace → Option ℕ
sender_index remote (Known r) = Some r
sender_index remote Barred = None
sender_index remote Unknown = Some (length remote)
sender_index remote (Vacant r) = Some r
sender_index remote Full = None

module _ {H P : Type 0} where
  -- the request is dropped
  abbrev pub Drops : AgentRecord H P → Emitted → AgentRecord H P → Type 0
  Drops s emitted new = (emitted ≡ nothing_emitted) × (new ≡ s)

  -- The request is queued as an early request.
  abbrev pub Queues : RequestRecord → AgentRecord H P → Emitted → AgentRecord H P → Type 0
  Queues q s emitted new = (emitted ≡ nothing_emitted) × (new ≡ queued q s)

  -- ---- what each rule reads and changes

  -- The request has another username fragment than the known peer, or no peer is known.
  abbrev pub is_for_other_peer : AgentRecord H P → RequestRecord → Bool
  is_for_other_peer s q = option_map_or (λ (peer : IceCreds). not (bytes_eq q.ufrag peer.ufrag)) s.remote_creds true

  -- The request nominates its pair, if the agent is controlled: by USE-CANDIDATE, or by NOMINATION if nominations have numbers.
  abbrev pub nominates : AgentRecord H P → RequestRecord → Bool
  nominates s q = (as_taken (numbers s) q).use_candidate

  -- The sender claims the agent's own role, and the agent keeps it: it sends a 487 (RFC 8445, section 7.3.1.1).
  abbrev pub sends_487 : AgentRecord H P → RequestRecord → Bool
  sends_487 s q = is_487 (conflict_of s q)

  abbrev pub role_after : Conflict → AgentRecord H P → AgentRecord H P
  role_after Absent s = s
  role_after Send487 s = s
  role_after SwitchRole s = switched s

  -- The role switches if the sender claims it with a greater tie-breaker.
  abbrev pub role_resolved : RequestRecord → AgentRecord H P → AgentRecord H P
  role_resolved q s = role_after (conflict_of s q) s

  abbrev pub request_counted : AgentRecord H P → AgentRecord H P
  request_counted s = record s { stats = record s.stats { bind_request_recv = counted s.stats.bind_request_recv } }

  -- the peer-reflexive candidate that an unknown sender becomes (RFC 8445, section 7.3.1.3)
  abbrev pub sender_candidate : AgentRecord H P → RequestRecord → CandidateRecord
  sender_candidate s q = peer_reflexive_candidate (Some TEMPORARY) q.path.proto q.priority q.path.source q.path.source s.local_creds.ufrag

  abbrev pub with_sender : RequestRecord → AgentRecord H P → AgentRecord H P
  with_sender q s = record s { remote = s.remote ++ sender_candidate s q ∷ [] }

  -- The sender becomes a remote candidate in place of the one at the index.
  abbrev pub with_sender_at : ℕ → RequestRecord → AgentRecord H P → AgentRecord H P
  with_sender_at r q s = record s { remote = slice_set s.remote r (sender_candidate s q) }

  -- An unknown sender is appended to the remote candidates. At the limit it replaces a candidate that has no pair.
  abbrev pub sender_added : RequestRecord → RemotePlace → AgentRecord H P → AgentRecord H P
  sender_added q (Known r) s = s
  sender_added q Barred s = s
  sender_added q Unknown s = with_sender q s
  sender_added q (Vacant r) s = with_sender_at r q s
  sender_added q Full s = s

  -- The number of the pair of both candidates. If there is none, one is added; but not with a local candidate that is discarded: None.
  abbrev pub pair_number : ℕ → Option ℕ → AgentRecord H P → Option ℕ
  pair_number l (Some number) s = Some number
  pair_number l None s = if (candidate_at s.local l).discarded then None else Some s.next_number

  -- The pair of both candidates is added, if there is none, without regard to the limit and to redundancy (RFC 8445, section 7.3.1.4).
  abbrev pub pair_added : ℕ → ℕ → Option ℕ → AgentRecord H P → AgentRecord H P
  pair_added l r (Some number) s = s
  pair_added l r None s = if (candidate_at s.local l).discarded then s else with_pair (formed s l r) s

  -- when a request triggers a check: at once, and not before the last `handle_timeout` call
  abbrev pub triggered_time : RequestRecord → AgentRecord H P → ℕ
  triggered_time q s = max q.time (unwrap_or s.last_time 0)

  -- the pair after the request
  abbrev pub after_request : RequestRecord → AgentRecord H P → PairRecord → PairRecord
  after_request q s p = served s.controlling s.lite (as_taken (numbers s) q) (triggered (is_modern s.timing) (triggered_time q s) p)

  abbrev pub pair_served : RequestRecord → ℕ → AgentRecord H P → AgentRecord H P
  pair_served q number s = record s {
    pairs = change_pair number (after_request q s) s.pairs;
    last_nominated = nominated_last s.controlling (as_taken (numbers s) q) number s.last_nominated;
    numbers_seen = sees_number s.controlling (as_taken (numbers s) q).nomination s.numbers_seen;
  }

  -- Nomination is evaluated when a request arrives on a valid pair (RFC 8445, sections 7.3.1.5 and 8.1.1).
  abbrev pub selects_at_requests : AgentRecord H P → Bool
  selects_at_requests s = if is_modern s.timing then true else s.controlling

  -- Nomination is evaluated when a request arrives on the pair with this number.
  abbrev pub evaluates_at : ℕ → AgentRecord H P → Bool
  evaluates_at number s = selects_at_requests s && is_valid_at number s.pairs

  -- ---- what serving prepares

  -- the candidate that serving adds
  abbrev pub sender_at : AgentRecord H P → RequestRecord → RemotePlace → Option CandidateRecord
  sender_at s q (Known r) = None
  sender_at s q Barred = None
  sender_at s q Unknown = Some (sender_candidate s q)
  sender_at s q (Vacant r) = Some (sender_candidate s q)
  sender_at s q Full = None

  -- ---- what is chosen before anything changes

  -- These are candidates, and a pair, at which the request can be served. None: the request is dropped before that.
  abbrev pub Chooses : AgentRecord H P → RequestRecord → Option Places → Type 0
  Chooses s q None = MatchBool (is_for_other_peer s q) (Unit {0}) (local_place s.local q ≡ None)
  Chooses s q (Some at) =
      (is_for_other_peer s q ≡ false) × (local_place s.local q ≡ Some at.local) × IsSenderPlace s q at.remote
      × IsPairBetween s.pairs at.local (remote_index s.remote at.remote) at.pair

  -- A pair must be added to serve the request at these candidates.
  abbrev pub needs_pair : AgentRecord H P → RequestRecord → Places → Bool
  needs_pair s q at =
      is_admitted (conflict_of s q) s.controlling q && needs_pair_at at.remote at.pair (candidate_at s.local at.local).discarded

  -- A pair must be added to serve the request, and no number is left: they run from 0 to one below the greatest counter.
  abbrev pub lacks_number : AgentRecord H P → RequestRecord → Places → Bool
  lacks_number s q at = s.next_number == MAX && needs_pair s q at

  -- ---- the steps

  module _ (mac : H → List ℕ → List ℕ → List ℕ) where
    -- The success response is signed with the present local password, and carries the address from which the request came. It is
    -- sent on the pair's path (RFC 8445, section 7.3.1.2).
    abbrev pub replied : RequestRecord → Path → AgentRecord H P → AgentRecord H P
    replied q path s = with_packet path (written (mac s.provider) (Some s.local_creds.pass) (binding_reply q.id q.path.source)) s

    -- The 487 is signed with the present local password, and sent on the reverse path of the request.
    abbrev pub role_conflict_sent : RequestRecord → AgentRecord H P → AgentRecord H P
    role_conflict_sent q s = with_packet (reversed q.path) (written (mac s.provider) (Some s.local_creds.pass) (binding_role_conflict_reply q.id)) s

    -- The response is sent, after the path `selected_paths`, if any, was selected.
    abbrev pub Replies : RequestRecord → Path → Option Path → AgentRecord H P → Emitted → AgentRecord H P → Type 0
    Replies q path selected_paths s emitted new =
        IsPut (written (mac s.provider) (Some s.local_creds.pass) (binding_reply q.id q.path.source)) (binding_reply q.id (carried q.path.source))
        × (emitted ≡ emitted_by (Some (issued_as path Success q.id)) selected_paths None) × (new ≡ replied q path s)

    -- The 487 is sent, and serving ends.
    abbrev pub SendsRoleConflict : RequestRecord → AgentRecord H P → Emitted → AgentRecord H P → Type 0
    SendsRoleConflict q s emitted new =
        IsPut (written (mac s.provider) (Some s.local_creds.pass) (binding_role_conflict_reply q.id)) (binding_role_conflict_reply q.id)
        × (emitted ≡ issued_only (reversed q.path) Failure q.id) × (new ≡ role_conflict_sent q s)

    -- The steps of serving a request at these places, in the order of RFC 8445, section 7.3.1, each with the state after it: the role conflict,
    -- USE-CANDIDATE to a controlling agent, the count, the sender, the pair, its check and its record, nomination with the state, and the
    -- response. Serving ends early with a 487, or the request is dropped in the state so far.
    abbrev pub ServesAt : RequestRecord → Places → AgentRecord H P → Emitted → AgentRecord H P → Type 0
    ServesAt q at s emitted new =
        MatchBool (sends_487 s q) (SendsRoleConflict q s emitted new) (
        let s1 = role_resolved q s in
        MatchBool (is_misled s1.controlling q) (Drops s1 emitted new) (
        let s2 = request_counted s1 in
        MatchOption (sender_index s2.remote at.remote) (Drops s2 emitted new) (λ r.
        let s3 = sender_added q at.remote s2 in
        MatchOption (pair_number at.local at.pair s3) (Drops s3 emitted new) (λ number.
        let s4 = pair_added at.local r at.pair s3 in
        let s5 = pair_served q number s4 in
        (path : Option Path) × (s6 : AgentRecord H P)
        × NominatesWhere (evaluates_at number s4) s5 path s6
        × Replies q (path_between s4 at.local r) path (state_updated (is_some path) (triggered_time q s4) s6) emitted new))))

    -- A request is dropped if it names another peer, or if no local candidate received it. Otherwise a number is left for the pair that it may
    -- need, and it is served at the places that are chosen.
    abbrev pub Serves : RequestRecord → AgentRecord H P → Emitted → AgentRecord H P → Type 0
    Serves q s emitted new =
        (choice : Option Places) × Chooses s q choice
        × MatchOption choice (Drops s emitted new) (λ at. (lacks_number s q at ≡ false) × ServesAt q at s emitted new)

    -- If no remote credentials are known, the request is queued.
    abbrev pub HandlesRequest : RequestRecord → AgentRecord H P → Emitted → AgentRecord H P → Type 0
    HandlesRequest q s emitted new = MatchOption s.remote_creds (Queues q s emitted new) (λ _. Serves q s emitted new)

  -- ---- when no number is left for a pair

  -- For a choice of candidates a pair must be added, and no number is left.
  abbrev pub LacksNumber : AgentRecord H P → RequestRecord → Type 0
  LacksNumber s q = (at : Places) × Chooses s q (Some at) × (lacks_number s q at ≡ true)

  -- For every possible choice of candidates a pair must be added, and no number is left.
  abbrev pub AlwaysLacksNumber : AgentRecord H P → RequestRecord → Type 0
  AlwaysLacksNumber s q = LacksNumber s q × ((at : Places) → Chooses s q (Some at) → lacks_number s q at ≡ true)

  -- Why serving a request may fail: numbers are checked before memory.
  abbrev pub MayFailAtRequest : AgentRecord H P → RequestRecord → IceError → Type 0
  MayFailAtRequest s q PairIdsExhausted = LacksNumber s q
  MayFailAtRequest s q OutOfMemory = ¬ AlwaysLacksNumber s q
  MayFailAtRequest s q _ = ⊥

  -- Why the arrival of a request may fail: queueing it fails only for an allocation failure, and serving it as in `MayFailAtRequest`.
  abbrev pub MayFailAtArrival : AgentRecord H P → RequestRecord → IceError → Type 0
  MayFailAtArrival s q error = MatchOption s.remote_creds (error ≡ OutOfMemory) (λ _. MayFailAtRequest s q error)

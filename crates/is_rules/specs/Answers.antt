-- Responses to the agent's own checks (RFC 8445, section 7.2.5).
use Rattle.std.specs.Prelude.{◌≡◌, ℕ, ◌==◌, ◌&&◌, ◌||◌, Bool, true, false, not, List, [], ◌∷◌, ◌++◌, slice_get, slice_set, Option, Some, None}
use Rattle.std.specs.Prelude.{MatchBool, if◌then◌else◌}
use Rattle.std.specs.List.{list_any}
use Rattle.std.specs.Option.{option_map_or}
use Rattle.std.specs.declared.net.socket_addr.SocketAddr.{SocketAddr}
use Rattle.is_proto.specs.Lists.{Has, same}
use Rattle.is_proto.specs.Times.{counted}
use Rattle.is_candidate.specs.Addresses.{same_address}
use Rattle.is_candidate.specs.Candidates.{CandidateRecord, base_of, candidate_at}
use Rattle.is_candidate.specs.Making.{peer_reflexive_candidate}
use Rattle.is_candidate.specs.Priorities.{check_priority}
use Rattle.is_pair.specs.Multiset.{change_pair, keeps_check}
use Rattle.is_pair.specs.Checks.{Check}
use Rattle.is_pair.specs.Pairs.{PairRecord, TakesAnswer, with_error}
use Rattle.is_stun.specs.Checks.{ROLE_CONFLICT}
use Rattle.is_stun.specs.Message.{Message}
use Rattle.is_rules.specs.declared.emitted.Path.{Path}
use Rattle.is_rules.specs.declared.emitted.Emitted.{Emitted}
use Rattle.is_rules.specs.Emitted.{selected_only}
use Rattle.is_rules.specs.Again.{formed_again}
use Rattle.is_rules.specs.Agent.{AgentRecord}
use Rattle.is_rules.specs.Sending.{path_of}
use Rattle.is_rules.specs.Limit.{has_local_room}
use Rattle.is_rules.specs.Nominating.{Nominates}
use Rattle.is_rules.specs.States.{evaluated}
use Rattle.is_rules.specs.Roles.{keeps_role, switched}
use Rattle.is_rules.specs.Serving.{Drops}

-- A local candidate has this address, possibly a discarded one.
abbrev pub is_known_address : List CandidateRecord → SocketAddr → Bool
is_known_address local address = list_any (λ c. same_address c.addr address) local

-- A mapped address brings no candidate: a local candidate has it, or there is no room for one more.
abbrev pub is_left_out : Option ℕ → List CandidateRecord → SocketAddr → Bool
is_left_out limit local mapped = is_known_address local mapped || not (has_local_room limit local)

-- an error response with code 487
abbrev pub is_role_conflict : Message → Bool
is_role_conflict m = option_map_or (λ (e : ℕ × List ℕ). e.0 == ROLE_CONFLICT) m.attributes.error_code false

-- the pair after an error response: it keeps the code, if the response has one
abbrev pub after_error : Message → PairRecord → PairRecord
after_error m p = option_map_or (λ (e : ℕ × List ℕ). with_error e.0 p) m.attributes.error_code p

-- the candidates, and after them this one, if there is one
abbrev pub joined_by : Option CandidateRecord → List CandidateRecord → List CandidateRecord
joined_by None cs = cs
joined_by (Some c) cs = cs ++ c ∷ []

-- `via` is the reverse of `path` in its addresses. Protocols are not compared.
abbrev pub is_reverse : Path → Path → Bool
is_reverse via path = same_address via.source path.destination && same_address via.destination path.source

module _ {H P : Type 0} where
  -- The pair has the pending transaction, and the packet was received on the reverse of the pair's path.
  abbrev pub keeps_check_on : AgentRecord H P → Path → List ℕ → PairRecord → Bool
  keeps_check_on a via id p = keeps_check id p && is_reverse via (path_of a p)

  -- ---- success: any pair with the pending transaction, on the reverse of whose path the packet was received, may record it

  abbrev pub success_counted : AgentRecord H P → AgentRecord H P
  success_counted a = record a { stats = record a.stats { bind_success_recv = counted a.stats.bind_success_recv } }

  -- the peer-reflexive candidate that a mapped address becomes (RFC 8445, section 7.2.5.3.1)
  abbrev pub mapped_candidate : AgentRecord H P → PairRecord → SocketAddr → CandidateRecord
  mapped_candidate a p mapped =
      peer_reflexive_candidate None (candidate_at a.local p.local).proto (check_priority (candidate_at a.local p.local)) mapped
      (base_of (candidate_at a.local p.local)) a.local_creds.ufrag

  abbrev pub local_with : PairRecord → Option SocketAddr → AgentRecord H P → List CandidateRecord
  local_with p None a = a.local
  local_with p (Some mapped) a = if is_left_out a.max_discovered a.local mapped then a.local else a.local ++ mapped_candidate a p mapped ∷ []

  -- A mapped address adds a candidate, without forming a pair.
  abbrev pub mapped_added : PairRecord → Option SocketAddr → AgentRecord H P → AgentRecord H P
  mapped_added p mapped a = record a { local = local_with p mapped a }

  -- The pair at this index records the response.
  abbrev pub Records : ℕ → AgentRecord H P → Path → Message → AgentRecord H P → Type 0
  Records now old via m new =
      (place : ℕ) × (p after : PairRecord)
      × (slice_get old.pairs place ≡ Some p) × (keeps_check_on old via m.id p ≡ true) × TakesAnswer p now m.id after
      × (new ≡ record (mapped_added p m.attributes.xor_mapped_address (success_counted old)) { pairs = slice_set old.pairs place after })

  abbrev pub Concludes : ℕ → AgentRecord H P → Emitted → AgentRecord H P → Type 0
  Concludes now old emitted new =
      (path : Option Path) × (mid : AgentRecord H P) × Nominates old path mid × (emitted ≡ selected_only path) × (new ≡ evaluated now mid)

  -- The pair records the success response, and that of the path that was left is formed again. Then nomination and state are evaluated.
  abbrev pub HandlesSuccess : ℕ → AgentRecord H P → Path → Message → Emitted → AgentRecord H P → Type 0
  HandlesSuccess now old via m emitted new =
      (recorded : AgentRecord H P) × Records now old via m recorded × Concludes now (formed_again recorded) emitted new

  -- ---- errors: any pair with the pending transaction, on the reverse of whose path the packet was received, may take it

  -- The pair with this number keeps the code of the error response.
  abbrev pub error_noted : ℕ → Message → AgentRecord H P → AgentRecord H P
  error_noted number m a = record a { pairs = change_pair number (after_error m) a.pairs }

  -- A 487 (RFC 8445, section 7.2.5.1) switches the role only if the pair's check was sent in the present role, and the agent does not keep
  -- its role.
  abbrev pub LeavesRole : PairRecord → Message → AgentRecord H P → Emitted → AgentRecord H P → Type 0
  LeavesRole p m s emitted new =
      (c : Check) × Has p.checks c × (c.id ≡ m.id)
      × MatchBool (same c.controlling s.controlling && not (keeps_role s)) (Drops (switched s) emitted new) (Drops s emitted new)

  -- Nomination and state are not evaluated, and the check is not marked as answered.
  abbrev pub HandlesFailure : AgentRecord H P → Path → Message → Emitted → AgentRecord H P → Type 0
  HandlesFailure old via m emitted new =
      (p : PairRecord) × Has old.pairs p × (keeps_check_on old via m.id p ≡ true)
      × MatchBool (is_role_conflict m) (LeavesRole p m (error_noted p.number m old) emitted new) (Drops (error_noted p.number m old) emitted new)

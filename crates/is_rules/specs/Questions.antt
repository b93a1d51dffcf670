-- What an agent returns without a change.
use Rattle.std.specs.Prelude.{◌≡◌, ℕ, ◌&&◌, Bool, List, filter, Option, option_map}
use Rattle.std.specs.List.{list_any}
use Rattle.std.specs.Option.{option_and_then}
use Rattle.std.specs.declared.net.socket_addr.SocketAddr.{SocketAddr}
use Rattle.is_candidate.specs.Addresses.{same_address}
use Rattle.is_candidate.specs.Candidates.{CandidateRecord, candidate_at}
use Rattle.is_pair.specs.Checks.{last_round_trip}
use Rattle.is_pair.specs.Pairs.{PairRecord, is_valid}
use Rattle.is_stun.specs.Timing.{timeout_of}
use Rattle.is_rules.specs.declared.emitted.Path.{Path}
use Rattle.is_rules.specs.Agent.{AgentRecord}
use Rattle.is_rules.specs.Forming.{is_alive}
use Rattle.is_rules.specs.Nominating.{pair_selected}
use Rattle.is_pair.specs.Multiset.{IsGreatest}
use Rattle.is_rules.specs.Remote.{has_equivalent}
use Rattle.is_rules.specs.Sending.{path_of}

-- `local_candidates` and `remote_candidates`, in list order
abbrev pub live : List CandidateRecord → List CandidateRecord
live cs = filter is_alive cs

-- A check on the pair succeeded, and the pair's remote candidate has this address.
abbrev pub is_viable_at : List CandidateRecord → SocketAddr → PairRecord → Bool
is_viable_at remote address p = is_valid p && same_address (candidate_at remote p.remote).addr address

module _ {H P : Type 0} where
  -- `has_viable_remote_candidate`
  abbrev pub has_viable_remote : AgentRecord H P → SocketAddr → Bool
  has_viable_remote a address = list_any (is_viable_at a.remote address) a.pairs

  -- `find_pair_for_equivalent_remote_candidate`: a pair of greatest priority among its matches
  abbrev pub FindsEquivalent : AgentRecord H P → CandidateRecord → Option PairRecord → Type 0
  FindsEquivalent a c found = IsGreatest (has_equivalent a.remote c) a.pairs found

  -- `valid_path`: the path of a valid pair of greatest priority
  abbrev pub FindsValidPath : AgentRecord H P → Option Path → Type 0
  FindsValidPath a path = (top : Option PairRecord) × IsGreatest is_valid a.pairs top × (path ≡ option_map (path_of a) top)

  -- `ice_timeout`
  abbrev pub ice_timeout : AgentRecord H P → ℕ
  ice_timeout a = timeout_of a.timing

  -- the pair that was selected last, if it still exists
  abbrev pub nominated_pair : AgentRecord H P → Option PairRecord
  nominated_pair a = pair_selected a.selected_pair a.pairs

  -- `nominated_pair_rtt`, `nominated_pair_total_rtt` and `nominated_pair_responses_received`
  abbrev pub nominated_rtt : AgentRecord H P → Option ℕ
  nominated_rtt a = option_and_then (λ p. last_round_trip p.checks) (nominated_pair a)

  abbrev pub nominated_total_rtt : AgentRecord H P → Option ℕ
  nominated_total_rtt a = option_map (λ (p : PairRecord). p.total_round_trip) (nominated_pair a)

  abbrev pub nominated_responses : AgentRecord H P → Option ℕ
  nominated_responses a = option_map (λ (p : PairRecord). p.answers) (nominated_pair a)

-- The paths of packets, and the packet queue.
use Rattle.std.specs.Prelude.{ℕ, List, [], ◌∷◌, ◌++◌}
use Rattle.std.specs.Net.Socket.{socket_ip, socket_port}
use Rattle.std.specs.declared.net.socket_addr.SocketAddr.{SocketAddr}
use Rattle.is_candidate.specs.Addresses.{plain_socket}
use Rattle.is_candidate.specs.Candidates.{CandidateRecord, base_of, candidate_at}
use Rattle.is_pair.specs.Pairs.{PairRecord}
use Rattle.is_rules.specs.declared.emitted.Path.{Path}
use Rattle.is_rules.specs.Agent.{AgentRecord}

-- What a message carries of an address: no flow information and no scope.
abbrev pub carried : SocketAddr → SocketAddr
carried a = plain_socket (socket_ip a) (socket_port a)

-- from the local candidate's base to the remote candidate's address
abbrev pub path_at : (local remote : List CandidateRecord) → ℕ → ℕ → Path
path_at local remote l r = record {
  proto = (candidate_at local l).proto;
  source = base_of (candidate_at local l);
  destination = (candidate_at remote r).addr;
}

module _ {H P : Type 0} where
  -- A packet is appended to the packet queue.
  abbrev pub with_packet : Path → List ℕ → AgentRecord H P → AgentRecord H P
  with_packet path contents s = record s {
    packets = s.packets ++ record { proto = path.proto; source = path.source; destination = path.destination; contents = contents } ∷ [];
  }

  abbrev pub path_between : AgentRecord H P → ℕ → ℕ → Path
  path_between s l r = path_at s.local s.remote l r

  abbrev pub path_of : AgentRecord H P → PairRecord → Path
  path_of s p = path_at s.local s.remote p.local p.remote

-- The candidates that the constructors make, and their errors.
use Rattle.std.specs.Prelude.{ℕ, false, List, ◌++◌, codes, Option, Some, None, if◌then◌else◌}
use Rattle.std.specs.declared.net.ip_addr.IpAddr.{IpAddr}
use Rattle.std.specs.declared.net.socket_addr.SocketAddr.{SocketAddr}
use Rattle.std.specs.Net.Socket.{socket_ip}
use Rattle.std.specs.Net.Text.{ip_text}
use Rattle.is_proto.specs.declared.proto.Protocol.{Protocol}
use Rattle.is_proto.specs.declared.proto.TcpType.{TcpType}
use Rattle.is_candidate.specs.declared.candidate.kind.CandidateKind.{CandidateKind}
use Rattle.is_candidate.specs.declared.candidate.kind.CandidateKind.TheVariants.{Host, PeerReflexive, ServerReflexive, Relayed}
use Rattle.is_candidate.specs.Addresses.{is_valid_ip, same_version, unspecified_like}
use Rattle.is_candidate.specs.Kinds.{same_kind}
use Rattle.is_candidate.specs.Candidates.{CandidateRecord}

-- an address that no candidate may have
abbrev pub ip_fault : IpAddr → Option (List ℕ)
ip_fault ip = if is_valid_ip ip then None else Some (codes "invalid ip " ++ ip_text ip)

-- an address that no candidate may have, or a base of another IP version
abbrev pub reflexive_fault : SocketAddr → SocketAddr → Option (List ℕ)
reflexive_fault addr base =
    if is_valid_ip (socket_ip addr)
    then (if same_version addr base then None else Some (codes "addr and base are different IP versions"))
    else Some (codes "invalid ip " ++ ip_text (socket_ip addr))

-- a candidate of component 1 that an agent gathered by itself (RFC 8445, section 5.1.1)
abbrev pub gathered : CandidateKind → Protocol → SocketAddr → SocketAddr → SocketAddr → Option SocketAddr → Option TcpType → CandidateRecord
gathered kind proto addr base local raddr tcptype = record {
  foundation = None;
  component = 1;
  proto = proto;
  given_priority = None;
  addr = addr;
  given_base = Some base;
  kind = kind;
  raddr = raddr;
  tcptype = tcptype;
  ufrag = None;
  local = local;
  local_preference = None;
  discarded = false;
}

-- a socket on a local interface
abbrev pub host_candidate : SocketAddr → Protocol → Option TcpType → CandidateRecord
host_candidate addr proto tcptype = gathered Host proto addr addr addr None tcptype

-- the address of a local socket as a STUN server sees it; the related address is not revealed
abbrev pub server_reflexive_candidate : SocketAddr → SocketAddr → Protocol → Option TcpType → CandidateRecord
server_reflexive_candidate addr base proto tcptype =
    gathered ServerReflexive proto addr base base (Some (unspecified_like addr)) tcptype

-- an address that a TURN server allocated; the related address is not revealed
abbrev pub relayed_candidate : SocketAddr → SocketAddr → Protocol → Option TcpType → CandidateRecord
relayed_candidate addr local proto tcptype = gathered Relayed proto addr addr local (Some (unspecified_like addr)) tcptype

-- an address that a check discovered (RFC 8445, sections 7.2.5.3.1 and 7.3.1.3)
abbrev pub peer_reflexive_candidate : Option (List ℕ) → Protocol → ℕ → SocketAddr → SocketAddr → List ℕ → CandidateRecord
peer_reflexive_candidate foundation proto priority addr base ufrag = record {
  foundation = foundation;
  component = 1;
  proto = proto;
  given_priority = Some priority;
  addr = addr;
  given_base = Some base;
  kind = PeerReflexive;
  raddr = None;
  tcptype = None;
  ufrag = Some ufrag;
  local = base;
  local_preference = None;
  discarded = false;
}

-- a signaled candidate: a line says nothing about its base, and only a host's local address is known
abbrev pub signalled_candidate : List ℕ → ℕ → Protocol → ℕ → SocketAddr → CandidateKind → Option SocketAddr → Option TcpType
    → Option (List ℕ) → CandidateRecord
signalled_candidate foundation component proto priority addr kind raddr tcptype ufrag = record {
  foundation = Some foundation;
  component = component;
  proto = proto;
  given_priority = Some priority;
  addr = addr;
  given_base = None;
  kind = kind;
  raddr = raddr;
  tcptype = tcptype;
  ufrag = ufrag;
  local = if same_kind kind Host then addr else unspecified_like addr;
  local_preference = None;
  discarded = false;
}

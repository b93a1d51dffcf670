-- The abstract state of a candidate, as contracts see it.
use Rattle.std.specs.Prelude.{◌≡◌, ℕ, Bool, true, List, [], ◌∷◌, slice_index_or, Option, None, unwrap_or, IsTrue}
use Rattle.std.specs.declared.net.socket_addr.SocketAddr.{SocketAddr}
use Rattle.std.specs.declared.net.socket_addr.SocketAddr.TheVariants.{V4}
use Rattle.is_proto.specs.declared.proto.Protocol.{Protocol}
use Rattle.is_proto.specs.declared.proto.Protocol.TheVariants.{Udp}
use Rattle.is_proto.specs.declared.proto.TcpType.{TcpType}
use Rattle.is_candidate.specs.declared.candidate.kind.CandidateKind.{CandidateKind}
use Rattle.is_candidate.specs.declared.candidate.kind.CandidateKind.TheVariants.{Host}
use Rattle.is_candidate.specs.Kinds.{is_direct}

-- a candidate (RFC 8445, section 5.1), as it was given or gathered
pub record CandidateRecord : Type 0 where
  pub foundation : Option (List ℕ)
  pub component : ℕ
  pub proto : Protocol
  pub given_priority : Option ℕ
  pub addr : SocketAddr
  pub given_base : Option SocketAddr
  pub kind : CandidateKind
  pub raddr : Option SocketAddr
  pub tcptype : Option TcpType
  pub ufrag : Option (List ℕ)
  pub local : SocketAddr
  pub local_preference : Option ℕ
  pub discarded : Bool

-- the base, from which packets are sent: the given one, if any, otherwise the address (RFC 8445, section 5.1.1)
abbrev pub base_of : CandidateRecord → SocketAddr
base_of c = unwrap_or c.given_base c.addr

-- a host or relayed candidate is its own base
abbrev pub IsBased : CandidateRecord → Type 0
IsBased c = IsTrue (is_direct c.kind) → base_of c ≡ c.addr

-- the value past the end of a list of candidates; it is discarded, so it equals no live candidate
abbrev pub nowhere : CandidateRecord
nowhere = record {
  foundation = None;
  component = 1;
  proto = Udp;
  given_priority = None;
  addr = V4 record { ip = record { octets = 0 ∷ 0 ∷ 0 ∷ 0 ∷ [] }; port = 0 };
  given_base = None;
  kind = Host;
  raddr = None;
  tcptype = None;
  ufrag = None;
  local = V4 record { ip = record { octets = 0 ∷ 0 ∷ 0 ∷ 0 ∷ [] }; port = 0 };
  local_preference = None;
  discarded = true;
}

abbrev pub candidate_at : List CandidateRecord → ℕ → CandidateRecord
candidate_at cs place = slice_index_or cs place nowhere

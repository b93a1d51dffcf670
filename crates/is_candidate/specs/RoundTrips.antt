-- The candidate that a printed line parses as.
use Rattle.std.specs.Prelude.{◌≡◌, ◌<◌, ◌^◌, Option, Some, None, IfSome}
use Rattle.std.specs.declared.net.socket_addr.SocketAddr.{SocketAddr}
use Rattle.std.specs.Net.Addr.{IsIpv4Addr, IsIpv6Addr, MatchIp}
use Rattle.std.specs.Net.Socket.{socket_ip, socket_port}
use Rattle.is_candidate.specs.Addresses.{plain_socket}
use Rattle.is_candidate.specs.Candidates.{CandidateRecord}
use Rattle.is_candidate.specs.Foundations.{foundation_of}
use Rattle.is_candidate.specs.Lines.{IsLineOf}
use Rattle.is_candidate.specs.Making.{signalled_candidate}
use Rattle.is_candidate.specs.Priorities.{candidate_priority}
use Rattle.is_candidate.specs.Sdp.{sdp_text}
use Rattle.is_candidate.specs.Words.{IsWord}

-- the part of an address that a line carries: no flow information and no scope
abbrev pub reported_address : SocketAddr → SocketAddr
reported_address a = plain_socket (socket_ip a) (socket_port a)

abbrev pub reported_related : Option SocketAddr → Option SocketAddr
reported_related (Some a) = Some (reported_address a)
reported_related None = None

-- the candidate that its line describes (RFC 5245, section 15.1)
abbrev pub as_signalled : CandidateRecord → CandidateRecord
as_signalled c =
    signalled_candidate (foundation_of c) c.component c.proto (candidate_priority c) (reported_address c.addr) c.kind
    (reported_related c.raddr) c.tcptype c.ufrag

-- foundation and ufrag, if given, are not empty and hold no white space
abbrev pub HasPlainTexts : CandidateRecord → Type 0
HasPlainTexts c = IfSome c.foundation IsWord × IfSome c.ufrag IsWord

-- the printed line parses as the candidate that it describes, which prints the same
abbrev pub LineRoundTrips : CandidateRecord → Type 0
LineRoundTrips c = IsLineOf (sdp_text c) (as_signalled c) × (sdp_text (as_signalled c) ≡ sdp_text c)

-- the parts of an address that a line carries are in range
abbrev pub PartsFit : SocketAddr → Type 0
PartsFit a = MatchIp (socket_ip a) IsIpv4Addr IsIpv6Addr × (socket_port a < 2 ^ 16)

-- The candidate attribute, here: the line of a candidate (RFC 5245, section 15.1).
use Rattle.std.specs.Prelude.{ℕ, List, [], ◌++◌, codes, decimal, Option, Some, None}
use Rattle.std.specs.declared.net.socket_addr.SocketAddr.{SocketAddr}
use Rattle.std.specs.Net.Socket.{socket_ip, socket_port}
use Rattle.std.specs.Net.Text.{ip_text}
use Rattle.is_proto.specs.declared.proto.TcpType.{TcpType}
use Rattle.is_proto.specs.Words.{protocol_word, tcp_type_word}
use Rattle.is_candidate.specs.Kinds.{kind_word}
use Rattle.is_candidate.specs.Candidates.{CandidateRecord}
use Rattle.is_candidate.specs.Priorities.{candidate_priority}
use Rattle.is_candidate.specs.Foundations.{foundation_of}

-- the text of a candidate attribute from the prefix to the priority
unfoldable pub front_text : CandidateRecord → List ℕ
front_text c =
    codes "candidate:" ++ foundation_of c ++ codes " " ++ decimal c.component ++ codes " " ++ protocol_word c.proto
    ++ codes " " ++ decimal (candidate_priority c)

-- the text of a candidate attribute from the address to the kind
unfoldable pub place_text : CandidateRecord → List ℕ
place_text c =
    codes " " ++ ip_text (socket_ip c.addr) ++ codes " " ++ decimal (socket_port c.addr) ++ codes " typ " ++ kind_word c.kind

-- the optional parts: the related address, the TCP role (RFC 6544, section 4.5), the ufrag
unfoldable pub related_text : Option SocketAddr → List ℕ
related_text (Some a) = codes " raddr " ++ ip_text (socket_ip a) ++ codes " rport " ++ decimal (socket_port a)
related_text None = []

unfoldable pub role_text : Option TcpType → List ℕ
role_text (Some t) = codes " tcptype " ++ tcp_type_word t
role_text None = []

unfoldable pub fragment_text : Option (List ℕ) → List ℕ
fragment_text (Some u) = codes " ufrag " ++ u
fragment_text None = []

-- the whole line
abbrev pub sdp_text : CandidateRecord → List ℕ
sdp_text c = front_text c ++ place_text c ++ related_text c.raddr ++ role_text c.tcptype ++ fragment_text c.ufrag

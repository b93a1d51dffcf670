-- The state of the builder, and the candidate that it makes from a protocol and a route.
use Rattle.std.specs.Prelude.{ℕ, List, ◌++◌, codes, Option, Some, None, if◌then◌else◌}
use Rattle.std.specs.declared.net.ip_addr.IpAddr.{IpAddr}
use Rattle.std.specs.Net.Socket.{socket_ip}
use Rattle.std.specs.Net.Text.{ip_text}
use Rattle.is_proto.specs.declared.proto.Protocol.{Protocol}
use Rattle.is_proto.specs.declared.proto.TcpType.{TcpType}
use Rattle.is_candidate.specs.declared.candidate.builder.CandidateBuilder.{CandidateBuilder}
use Rattle.is_candidate.specs.declared.candidate.builder.HasProtocol.{HasProtocol}
use Rattle.is_candidate.specs.declared.candidate.builder.HasRoute.{HasRoute}
use Rattle.is_candidate.specs.declared.candidate.builder.Route.{Route}
use Rattle.is_candidate.specs.declared.candidate.builder.Route.TheVariants.{Host, ServerReflexive, Relayed}
use Rattle.is_candidate.specs.Addresses.{is_valid_ip, same_version}
use Rattle.is_candidate.specs.Candidates.{CandidateRecord}
use Rattle.is_candidate.specs.Making.{host_candidate, server_reflexive_candidate, relayed_candidate}

abbrev pub protocol_of : {P R : Type 0} → CandidateBuilder (HasProtocol P) R → Protocol
protocol_of b = b.protocol_state.protocol

abbrev pub route_of : {P : Type 0} → CandidateBuilder P HasRoute → Route
route_of b = b.route_state.0

abbrev pub tcptype_of : {P R : Type 0} → CandidateBuilder P R → Option TcpType
tcptype_of b = b.tcptype

-- an address that no candidate may have
abbrev pub address_fault : IpAddr → Option (List ℕ)
address_fault ip = if is_valid_ip ip then None else Some (codes "Invalid IP: " ++ ip_text ip)

-- the message for an address and a base of two IP versions
unfoldable pub mixed_text : IpAddr → IpAddr → List ℕ
mixed_text addr base = codes "address IP version mismatch: addr=" ++ ip_text addr ++ codes " base=" ++ ip_text base

-- a route that no candidate may have
abbrev pub route_fault : Route → Option (List ℕ)
route_fault (Host addr) = address_fault (socket_ip addr)
route_fault (Relayed addr local) = address_fault (socket_ip addr)
route_fault (ServerReflexive addr base) =
    if is_valid_ip (socket_ip addr)
    then (if same_version addr base then None else Some (mixed_text (socket_ip addr) (socket_ip base)))
    else Some (codes "Invalid IP: " ++ ip_text (socket_ip addr))

-- the candidate of a protocol and a route
abbrev pub built_candidate : Protocol → Route → Option TcpType → CandidateRecord
built_candidate proto (Host addr) tcptype = host_candidate addr proto tcptype
built_candidate proto (ServerReflexive addr base) tcptype = server_reflexive_candidate addr base proto tcptype
built_candidate proto (Relayed addr local) tcptype = relayed_candidate addr local proto tcptype

-- The priority of a candidate (RFC 8445, section 5.1.2).
use Rattle.std.specs.Prelude.{ℕ, ◌+◌, ◌-◌, ◌*◌, ◌^◌, unwrap_or, if◌then◌else◌}
use Rattle.is_proto.specs.declared.proto.Protocol.{Protocol}
use Rattle.is_proto.specs.declared.proto.Protocol.TheVariants.{Udp, Tcp}
use Rattle.is_candidate.specs.declared.candidate.kind.CandidateKind.{CandidateKind}
use Rattle.is_candidate.specs.declared.candidate.kind.CandidateKind.TheVariants.{Host, PeerReflexive, ServerReflexive, Relayed}
use Rattle.is_candidate.specs.Addresses.{is_v4}
use Rattle.is_candidate.specs.Candidates.{CandidateRecord}

-- the type preference, depending on the protocol
abbrev pub type_preference : CandidateKind → Protocol → ℕ
type_preference Host Udp = 126
type_preference Host _ = 90
type_preference PeerReflexive Udp = 110
type_preference PeerReflexive _ = 80
type_preference ServerReflexive _ = 100
type_preference Relayed Udp = 2
type_preference Relayed Tcp = 1
type_preference Relayed _ = 0

-- the local preference: the one that an agent set, if any, otherwise one by the IP version
abbrev pub local_preference_of : CandidateRecord → ℕ
local_preference_of c = unwrap_or c.local_preference (if is_v4 c.addr then 65534 else 65535)

-- the recommended formula (RFC 8445, section 5.1.2.1), if the candidate were of this kind
abbrev pub formula : CandidateKind → CandidateRecord → ℕ
formula kind c = type_preference kind c.proto * 2 ^ 24 + local_preference_of c * 2 ^ 8 + (256 - c.component)

-- the priority if the candidate were of this kind: the given one, if any, otherwise the one of the formula
abbrev pub priority_as : CandidateKind → CandidateRecord → ℕ
priority_as kind c = unwrap_or c.given_priority (formula kind c)

abbrev pub candidate_priority : CandidateRecord → ℕ
candidate_priority c = priority_as c.kind c

-- The greatest candidate priority. With it, no pair priority fits into 64 bits.
abbrev pub TOO_HIGH : ℕ
TOO_HIGH = 0xffff_ffff

-- the PRIORITY of a check from this candidate (RFC 8445, section 7.1.1)
abbrev pub check_priority : CandidateRecord → ℕ
check_priority c = priority_as PeerReflexive c

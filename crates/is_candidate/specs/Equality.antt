-- Which parts of two candidates are equal.
use Rattle.std.specs.Prelude.{ℕ, ◌&&◌, Bool, List, codes, bytes_eq, Some}
use Rattle.is_candidate.specs.declared.candidate.kind.CandidateKind.TheVariants.{PeerReflexive}
use Rattle.is_candidate.specs.Addresses.{same_address, same_protocol, same_optional, same_version}
use Rattle.is_candidate.specs.Kinds.{same_kind}
use Rattle.is_candidate.specs.Candidates.{CandidateRecord, base_of}

-- the same address, base and protocol: redundant among local candidates (RFC 8445, section 5.1.3)
abbrev pub is_same_place : CandidateRecord → CandidateRecord → Bool
is_same_place a b = same_address a.addr b.addr && same_address (base_of a) (base_of b) && same_protocol a.proto b.proto

-- the same kind and related address
abbrev pub is_same_origin : CandidateRecord → CandidateRecord → Bool
is_same_origin a b = same_kind a.kind b.kind && same_optional same_address a.raddr b.raddr

-- the same address, base, protocol, kind and related address
abbrev pub is_equivalent : CandidateRecord → CandidateRecord → Bool
is_equivalent a b = is_same_place a b && is_same_origin a b

-- the same kind and IP version, as local preferences count candidates
abbrev pub is_alike : CandidateRecord → CandidateRecord → Bool
is_alike a b = same_kind a.kind b.kind && same_version a.addr b.addr

-- the foundation of a remote candidate that was discovered from a request, until it is signaled
abbrev pub TEMPORARY : List ℕ
TEMPORARY = codes "tmp_prflx"

abbrev pub is_temporary : CandidateRecord → Bool
is_temporary c = same_kind c.kind PeerReflexive && same_optional bytes_eq c.foundation (Some TEMPORARY)

-- The kinds of candidates (RFC 8445, section 5.1.1), their words (RFC 5245, section 15.1) and numbers.
use Rattle.std.specs.Prelude.{ℕ, Bool, true, false, ◌==◌, List, codes}
use Rattle.is_candidate.specs.declared.candidate.kind.CandidateKind.{CandidateKind}
use Rattle.is_candidate.specs.declared.candidate.kind.CandidateKind.TheVariants.{Host, PeerReflexive, ServerReflexive, Relayed}

-- the word of a kind
abbrev pub kind_word : CandidateKind → List ℕ
kind_word Host = codes "host"
kind_word PeerReflexive = codes "prflx"
kind_word ServerReflexive = codes "srflx"
kind_word Relayed = codes "relay"

-- the number of a kind in a foundation's hash
abbrev pub kind_number : CandidateKind → ℕ
kind_number Host = 0
kind_number PeerReflexive = 1
kind_number ServerReflexive = 2
kind_number Relayed = 3

abbrev pub same_kind : CandidateKind → CandidateKind → Bool
same_kind a b = kind_number a == kind_number b

-- packets of a candidate of this kind are sent from its own address: no server or NAT is in front of its base (RFC
-- 8445, section 4)
abbrev pub is_direct : CandidateKind → Bool
is_direct Host = true
is_direct PeerReflexive = false
is_direct ServerReflexive = false
is_direct Relayed = true

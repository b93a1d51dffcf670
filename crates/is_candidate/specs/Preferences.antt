-- The default local preference.
use Rattle.std.specs.Prelude.{ℕ, ◌+◌, ◌-◌, ◌*◌, ◌&&◌, not, if◌then◌else◌}
use Rattle.is_candidate.specs.declared.candidate.kind.CandidateKind.{CandidateKind}
use Rattle.is_candidate.specs.declared.candidate.kind.CandidateKind.TheVariants.{Host, PeerReflexive, ServerReflexive, Relayed}
use Rattle.is_candidate.specs.Addresses.{is_v4, same_version}
use Rattle.is_candidate.specs.Kinds.{same_kind}
use Rattle.is_candidate.specs.Candidates.{CandidateRecord}

-- the greatest preference of a kind
abbrev pub first_preference : CandidateKind → ℕ
first_preference Host = 65535
first_preference PeerReflexive = 49151
first_preference ServerReflexive = 32767
first_preference Relayed = 16383

-- what a relayed candidate loses if its local address has the other IP version
abbrev pub crossing_of : CandidateRecord → ℕ
crossing_of c = if same_kind c.kind Relayed && not (same_version c.local c.addr) then 1000 else 0

-- the preference of a candidate after so many of its kind and IP version: odd for IPv6, even for IPv4, and never below
-- 0
abbrev pub default_preference : CandidateRecord → ℕ → ℕ
default_preference c before =
    first_preference c.kind - ((if is_v4 c.addr then 1 else 0) + 2 * before + crossing_of c)

-- What a candidate stores: two addresses and a number, of which its base, related and local address and its given priority follow.
use Rattle.std.specs.Prelude.{◌≡◌, refl, ℕ, Bool, true, not, IsTrue, Option, Some, None, unwrap_or, if◌then◌else◌}
use Rattle.std.proofs.Common.{sym}
use Rattle.std.specs.declared.net.socket_addr.SocketAddr.{SocketAddr}
use Rattle.is_candidate.specs.declared.candidate.kind.CandidateKind.{CandidateKind}
use Rattle.is_candidate.specs.declared.candidate.kind.CandidateKind.TheVariants.{Host, PeerReflexive, ServerReflexive, Relayed}
use Rattle.is_candidate.specs.declared.candidate.source.Source.{Source}
use Rattle.is_candidate.specs.declared.candidate.source.Source.TheVariants.{Found, Signaled, Related}
use Rattle.is_candidate.specs.Addresses.{unspecified_like}
use Rattle.is_candidate.specs.Kinds.{is_direct, same_kind}

-- the base of a candidate that the agent found; a line says nothing about it
abbrev pub base_from : Source → CandidateKind → SocketAddr → SocketAddr → Option SocketAddr
base_from Found kind addr other = Some (if is_direct kind then addr else other)
base_from Signaled kind addr other = None
base_from Related kind addr other = None

-- the related address of a candidate that the agent found is not revealed
abbrev pub hidden_related : CandidateKind → SocketAddr → Option SocketAddr
hidden_related Host addr = None
hidden_related PeerReflexive addr = None
hidden_related ServerReflexive addr = Some (unspecified_like addr)
hidden_related Relayed addr = Some (unspecified_like addr)

-- a signaled candidate has the related address that its line names
abbrev pub related_from : Source → CandidateKind → SocketAddr → SocketAddr → Option SocketAddr
related_from Found kind addr other = hidden_related kind addr
related_from Signaled kind addr other = None
related_from Related kind addr other = Some other

-- of a signaled candidate only a host's local address is known
abbrev pub signaled_local : CandidateKind → SocketAddr → SocketAddr
signaled_local kind addr = if same_kind kind Host then addr else unspecified_like addr

-- the second address of a candidate that the agent found is its local one
abbrev pub local_from : Source → CandidateKind → SocketAddr → SocketAddr → SocketAddr
local_from Found kind addr other = other
local_from Signaled kind addr other = signaled_local kind addr
local_from Related kind addr other = signaled_local kind addr

-- a priority was given: by a line, or by the check that discovered the candidate
abbrev pub has_priority : Source → CandidateKind → Bool
has_priority Found kind = same_kind kind PeerReflexive
has_priority Signaled kind = true
has_priority Related kind = true

abbrev pub priority_from : Source → CandidateKind → ℕ → Option ℕ
priority_from source kind priority = if has_priority source kind then Some priority else None

-- If there is no second address, the first one is stored twice.
abbrev pub FillsOther : Source → SocketAddr → SocketAddr → Type 0
FillsOther Found addr other = Unit {0}
FillsOther Signaled addr other = other ≡ addr
FillsOther Related addr other = Unit {0}

-- If no priority was given, zero is stored.
abbrev pub FillsPriority : Source → CandidateKind → ℕ → Type 0
FillsPriority Found kind priority = IsTrue (not (same_kind kind PeerReflexive)) → priority ≡ 0
FillsPriority Signaled kind priority = Unit {0}
FillsPriority Related kind priority = Unit {0}

-- what is stored, again from what it says
abbrev pub source_of : Option SocketAddr → Option SocketAddr → Source
source_of (Some base) related = Found
source_of None None = Signaled
source_of None (Some related) = Related

abbrev pub other_of : Option SocketAddr → Option SocketAddr → SocketAddr → SocketAddr → SocketAddr
other_of (Some base) related local addr = local
other_of None related local addr = unwrap_or related addr

-- What a candidate says gives back what it stores.
pub same_source : (source : Source) (kind : CandidateKind) (addr other : SocketAddr)
    → source_of (base_from source kind addr other) (related_from source kind addr other) ≡ source
same_source Found kind addr other = refl
same_source Signaled kind addr other = refl
same_source Related kind addr other = refl

pub same_other : (source : Source) (kind : CandidateKind) (addr other : SocketAddr) → FillsOther source addr other
    → other_of (base_from source kind addr other) (related_from source kind addr other) (local_from source kind addr other) addr ≡ other
same_other Found kind addr other _ = refl
same_other Signaled kind addr other fills = sym fills
same_other Related kind addr other _ = refl

pub same_priority : (source : Source) (kind : CandidateKind) (priority : ℕ) → FillsPriority source kind priority
    → unwrap_or (priority_from source kind priority) 0 ≡ priority
same_priority Found Host priority fills = sym (fills refl)
same_priority Found PeerReflexive priority fills = refl
same_priority Found ServerReflexive priority fills = sym (fills refl)
same_priority Found Relayed priority fills = sym (fills refl)
same_priority Signaled kind priority fills = refl
same_priority Related kind priority fills = refl

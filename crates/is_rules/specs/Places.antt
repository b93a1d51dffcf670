-- The candidates at which a request is served.
use Rattle.std.specs.Prelude.{◌≡◌, ℕ, ◌<◌, ◌≤◌, ◌&&◌, Bool, true, false, not, List, length, position, Option, Some, None}
use Rattle.std.specs.List.{list_any}
use Rattle.std.specs.Option.{option_or}
use Rattle.std.specs.declared.net.socket_addr.SocketAddr.{SocketAddr}
use Rattle.is_proto.specs.declared.proto.Protocol.{Protocol}
use Rattle.is_candidate.specs.Addresses.{same_address, same_protocol}
use Rattle.is_candidate.specs.Kinds.{is_direct}
use Rattle.is_candidate.specs.Candidates.{CandidateRecord, candidate_at}
use Rattle.is_candidate.specs.Priorities.{candidate_priority}
use Rattle.is_rules.specs.declared.places.RemotePlace.{RemotePlace}
use Rattle.is_rules.specs.declared.places.RemotePlace.TheVariants.{Known, Barred, Unknown, Vacant, Full}
use Rattle.is_rules.specs.Request.{RequestRecord}

abbrev pub is_at : SocketAddr → Protocol → CandidateRecord → Bool
is_at address proto c = same_address c.addr address && same_protocol c.proto proto

abbrev pub is_live : (CandidateRecord → Bool) → CandidateRecord → Bool
is_live test c = test c && not c.discarded

-- ---- the index of the local candidate

-- a host or relayed candidate that received the request
abbrev pub is_reached : RequestRecord → CandidateRecord → Bool
is_reached q c = is_direct c.kind && is_at q.path.destination q.path.proto c

-- the first index at which a live candidate passes, else the first at which a discarded one passes
abbrev pub first_place : (CandidateRecord → Bool) → List CandidateRecord → Option ℕ
first_place test cs = option_or (position (is_live test) cs) (position test cs)

abbrev pub local_place : List CandidateRecord → RequestRecord → Option ℕ
local_place local q = first_place (is_reached q) local

-- ---- the index of the remote candidate

-- a candidate that sent the request
abbrev pub is_sender : RequestRecord → CandidateRecord → Bool
is_sender q c = is_at q.path.source q.path.proto c

-- Among the indices below the end whose candidates pass, one with the greatest priority; none if none passes. Ties are broken
-- arbitrarily.
abbrev pub IsGreatestBelow : ℕ → (CandidateRecord → Bool) → List CandidateRecord → Option ℕ → Type 0
IsGreatestBelow end test cs None = (k : ℕ) → k < end → test (candidate_at cs k) ≡ false
IsGreatestBelow end test cs (Some place) =
    (place < end) × (test (candidate_at cs place) ≡ true)
    × ((k : ℕ) → k < end → test (candidate_at cs k) ≡ true → candidate_priority (candidate_at cs k) ≤ candidate_priority (candidate_at cs place))

abbrev pub IsGreatestPlace : (CandidateRecord → Bool) → List CandidateRecord → Option ℕ → Type 0
IsGreatestPlace test cs place = IsGreatestBelow (length cs) test cs place

abbrev pub place_by : Option ℕ → Bool → RemotePlace
place_by (Some place) knows = Known place
place_by None true = Barred
place_by None false = Unknown

-- A live candidate with the greatest priority that sent the request. `Barred` if only discarded candidates sent it.
abbrev pub IsRemotePlace : List CandidateRecord → RequestRecord → RemotePlace → Type 0
IsRemotePlace remote q place =
    (live : Option ℕ) × IsGreatestPlace (is_live (is_sender q)) remote live × (place ≡ place_by live (list_any (is_sender q) remote))

-- the index of the remote candidate; an unknown one is appended, or gets a vacant index
abbrev pub remote_index : List CandidateRecord → RemotePlace → ℕ
remote_index remote (Known place) = place
remote_index remote Barred = length remote
remote_index remote Unknown = length remote
remote_index remote (Vacant place) = place
remote_index remote Full = length remote

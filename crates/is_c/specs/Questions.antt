-- What C can query of an agent, which is unchanged.
use Rattle.std.specs.Prelude.{◌≡◌, ℕ, List, length, Option, Some, None, MatchOption, unwrap_or, slice_get, ◌⊎◌, ℤ, pos}
use Rattle.is_candidate.specs.Candidates.{CandidateRecord}
use Rattle.is_candidate.specs.Sdp.{sdp_text}
use Rattle.is_rules.specs.declared.event.IceAgentStats.{IceAgentStats}
use Rattle.is_rules.specs.Questions.{live, has_viable_remote, ice_timeout}
use Rattle.is_rules.specs.States.{state_number}
use Rattle.is_rules.specs.declared.credentials.IceCreds.{IceCreds}
use Rattle.is_c.specs.declared.questions.Stats.{Stats}
use Rattle.is_c.specs.declared.questions.Status.{Status}
use Rattle.is_c_calls.specs.declared.address.Address.{Address}
use Rattle.is_c_calls.specs.Addresses.{socket_of}
use Rattle.is_c_calls.specs.Codes.{OK, NOTHING, BAD_ADDRESS, OUT_OF_MEMORY, found_code}
use Rattle.is_c_calls.specs.Held.{Held, HeldRecord}
use Rattle.is_c_calls.specs.Limits.{NO_LIMIT}
use Rattle.is_c_calls.specs.Texts.{Puts, PutsNone}

-- `is_ice_status`
abbrev pub IsStatus : HeldRecord → Status → Type 0
IsStatus h s =
    (s.state ≡ pos (state_number h.agent.state)) × (s.controlling ≡ h.agent.controlling) × (s.lite ≡ h.agent.lite)
    × (s.mtu ≡ h.agent.mtu) × (s.mtu_warn ≡ h.agent.mtu_warn) × (s.ice_timeout ≡ ice_timeout h.agent)
    × (s.max_candidates ≡ unwrap_or h.agent.max_candidates NO_LIMIT)

abbrev pub ReturnsStatus : Status → HeldRecord → ℤ → HeldRecord → Type 0
ReturnsStatus status old code new = (code ≡ OK) × IsStatus old status × (new ≡ old)

-- `is_ice_stats`
abbrev pub stats_of : Stats → IceAgentStats
stats_of s = record {
  bind_request_sent = s.bind_request_sent;
  bind_success_recv = s.bind_success_recv;
  bind_request_recv = s.bind_request_recv;
  discovered_recv_count = s.discovered_recv_count;
  nomination_send_count = s.nomination_send_count;
}

abbrev pub ReturnsStats : Stats → HeldRecord → ℤ → HeldRecord → Type 0
ReturnsStats stats old code new = (code ≡ OK) × (stats_of stats ≡ old.agent.stats) × (new ≡ old)

-- `is_ice_early_count`
abbrev pub CountsEarly : ℕ → HeldRecord → ℤ → HeldRecord → Type 0
CountsEarly count old code new = (code ≡ OK) × (count ≡ length old.agent.queue) × (new ≡ old)

-- the candidate attribute of a candidate, in the caller's buffer
abbrev pub PutsLine : Option CandidateRecord → List ℕ → ℕ → ℤ → List ℕ → ℕ → Type 0
PutsLine None before was code after count = PutsNone NOTHING before was code after count
PutsLine (Some c) before was code after count = PutsNone OUT_OF_MEMORY before was code after count ⊎ Puts (sdp_text c) before code after count

-- `is_ice_local_candidate` and `is_ice_remote_candidate`: candidates are counted from 0 in the order in which they were
-- added, without the discarded ones
abbrev pub ReturnsLine : (Held → List CandidateRecord) → ℕ → List ℕ → ℕ → List ℕ → ℕ → HeldRecord → ℤ → HeldRecord → Type 0
ReturnsLine candidates index before was after count old code new =
    PutsLine (slice_get (live (candidates old.agent)) index) before was code after count × (new ≡ old)

-- `is_ice_has_viable_remote`
abbrev pub AnswersViable : Address → Held → ℤ → Type 0
AnswersViable address a code =
    MatchOption (socket_of address) (code ≡ BAD_ADDRESS) (λ at. code ≡ found_code (has_viable_remote a at))

abbrev pub ReturnsViable : Address → HeldRecord → ℤ → HeldRecord → Type 0
ReturnsViable address old code new = AnswersViable address old.agent code × (new ≡ old)

-- a text of the remote credentials, if they are known
abbrev pub PutsOf : (IceCreds → List ℕ) → Option IceCreds → List ℕ → ℕ → ℤ → List ℕ → ℕ → Type 0
PutsOf text None before was code after count = PutsNone NOTHING before was code after count
PutsOf text (Some creds) before was code after count = Puts (text creds) before code after count

-- C gets a text of the remote credentials, and nothing changes.
abbrev pub ReturnsRemote : (IceCreds → List ℕ) → List ℕ → ℕ → List ℕ → ℕ → HeldRecord → ℤ → HeldRecord → Type 0
ReturnsRemote text before was after count old code new = PutsOf text old.agent.remote_creds before was code after count × (new ≡ old)

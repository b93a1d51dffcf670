-- The pair that was selected last, as C gets it: the path of the last `NominatedSend`, and the figures of the pair.
use Rattle.std.specs.Prelude.{◌≡◌, ℕ, List, Option, Some, None, slice_get, ℤ}
use Rattle.is_candidate.specs.Candidates.{CandidateRecord, base_of}
use Rattle.is_pair.specs.Checks.{last_round_trip}
use Rattle.is_pair.specs.Pairs.{PairRecord}
use Rattle.is_rules.specs.Questions.{live, nominated_pair}
use Rattle.is_agent.specs.Added.{listed_index}
use Rattle.is_c.specs.declared.questions.Nominated.{Nominated}
use Rattle.is_c_calls.specs.Addresses.{socket_of, protocol_of}
use Rattle.is_c_calls.specs.Codes.{OK, NOTHING}
use Rattle.is_c_calls.specs.Held.{Held, HeldRecord}
use Rattle.is_c.specs.Pairs.{IsTime}

-- the candidate of a pair, as it is listed
abbrev pub candidate_of : List CandidateRecord → ℕ → Option CandidateRecord
candidate_of cs place = slice_get (live cs) (listed_index cs place)

-- the path from the local candidate's base to the remote candidate's address, and the figures of the pair
abbrev pub IsNominated : PairRecord → CandidateRecord → CandidateRecord → Nominated → Type 0
IsNominated p local remote n =
    (socket_of n.source ≡ Some (base_of local)) × (socket_of n.destination ≡ Some remote.addr)
    × (protocol_of n.protocol ≡ Some local.proto)
    × (n.total_rtt ≡ p.total_round_trip) × (n.responses ≡ p.answers) × IsTime (last_round_trip p.checks) n.has_rtt n.rtt

abbrev pub IsNominatedOf : PairRecord → Option CandidateRecord → Option CandidateRecord → Option Nominated → Type 0
IsNominatedOf p (Some local) (Some remote) (Some n) = IsNominated p local remote n
IsNominatedOf p (Some local) (Some remote) None = ⊥
IsNominatedOf p (Some local) None n = n ≡ None
IsNominatedOf p None remote n = n ≡ None

-- the figures that C gets of the pair that was selected last, if there is one
abbrev pub IsNominatedIn : Held → Option PairRecord → Option Nominated → Type 0
IsNominatedIn a None n = n ≡ None
IsNominatedIn a (Some p) n = IsNominatedOf p (candidate_of a.local p.local) (candidate_of a.remote p.remote) n

abbrev pub PutsNominated : Option Nominated → Nominated → Nominated → ℤ → Type 0
PutsNominated None before after code = (code ≡ NOTHING) × (after ≡ before)
PutsNominated (Some n) before after code = (code ≡ OK) × (after ≡ n)

-- `is_ice_nominated`: the pair that was selected last, if it still exists
abbrev pub ReturnsNominated : Nominated → Nominated → HeldRecord → ℤ → HeldRecord → Type 0
ReturnsNominated before after old code new =
    (found : Option Nominated) × IsNominatedIn old.agent (nominated_pair old.agent) found × PutsNominated found before after code × (new ≡ old)

-- Candidate pairs, as C gets them.
use Rattle.std.specs.Prelude.{◌≡◌, ℕ, Bool, true, false, List, length, Option, Some, None, option_map, Ok, Err, slice_get, ℤ, pos}
use Rattle.is_pair.specs.declared.pair.states.CheckState.{CheckState}
use Rattle.is_pair.specs.declared.pair.states.CheckState.TheVariants.{Waiting, InProgress, Succeeded}
use Rattle.is_pair.specs.Checks.{last_round_trip}
use Rattle.is_pair.specs.Pairs.{PairRecord, is_nominated}
use Rattle.is_rules.specs.Questions.{FindsEquivalent}
use Rattle.is_agent.specs.Added.{listed_index}
use Rattle.is_agent.specs.Pairs.{is_selected, next_due}
use Rattle.is_c.specs.declared.pairs.Pair.{Pair}
use Rattle.is_c_calls.specs.Candidates.{Made, ReadsBytes}
use Rattle.is_c_calls.specs.Clock.{caller_time}
use Rattle.is_c_calls.specs.Codes.{OK, NOTHING, NOT_UTF8, code_of}
use Rattle.is_c_calls.specs.Held.{Held, HeldRecord}

abbrev pub check_number : CheckState → ℤ
check_number Waiting = pos 0
check_number InProgress = pos 1
check_number Succeeded = pos 2

-- a time or duration, which is 0 if it is missing
abbrev pub IsTime : Option ℕ → Bool → ℕ → Type 0
IsTime None has time = (has ≡ false) × (time ≡ 0)
IsTime (Some t) has time = (has ≡ true) × (time ≡ t)

-- what C gets of a pair: its candidates by the indices at which they are listed
abbrev pub IsPair : Held → PairRecord → Pair → Type 0
IsPair a p s =
    (s.local ≡ listed_index a.local p.local) × (s.remote ≡ listed_index a.remote p.remote)
    × (s.priority ≡ p.priority) × (s.state ≡ check_number p.state)
    × (s.nominated ≡ is_nominated p) × (s.selected ≡ is_selected a p)
    × (s.checks_sent ≡ p.checks_sent) × (s.requests_received ≡ p.requests)
    × (s.responses ≡ p.answers) × (s.total_rtt ≡ p.total_round_trip)
    × IsTime (last_round_trip p.checks) s.has_rtt s.rtt
    × IsTime (option_map caller_time p.last_request) s.has_request s.last_request
    × IsTime (option_map caller_time (next_due a p)) s.has_due s.due

abbrev pub ReturnsOfPair : Held → Option PairRecord → Pair → Pair → ℤ → Type 0
ReturnsOfPair a None before after code = (code ≡ NOTHING) × (after ≡ before)
ReturnsOfPair a (Some p) before after code = (code ≡ OK) × IsPair a p after

-- `is_ice_pair_at`: pairs are counted from 0 in the order in which they were formed
abbrev pub ReturnsPair : ℕ → Pair → Pair → HeldRecord → ℤ → HeldRecord → Type 0
ReturnsPair index before after old code new =
    ReturnsOfPair old.agent (slice_get old.agent.pairs index) before after code × (new ≡ old)

-- `is_ice_pair_count`
abbrev pub ReportsCount : ℕ → HeldRecord → ℤ → HeldRecord → Type 0
ReportsCount count old code new = (code ≡ OK) × (count ≡ length old.agent.pairs) × (new ≡ old)

-- the pair whose remote candidate equals this one, if there is a candidate
abbrev pub FindsMade : Made → Pair → Pair → Held → ℤ → Type 0
FindsMade None before after a code = (code ≡ NOT_UTF8) × (after ≡ before)
FindsMade (Some (Err e)) before after a code = (code ≡ code_of e) × (after ≡ before)
FindsMade (Some (Ok c)) before after a code =
    (found : Option PairRecord) × FindsEquivalent a c found × ReturnsOfPair a found before after code

abbrev pub FindsPair : List ℕ → Pair → Pair → Held → ℤ → Type 0
FindsPair line before after a code = (made : Made) × ReadsBytes line made × FindsMade made before after a code

-- `is_ice_find_pair`
abbrev pub ReturnsFound : List ℕ → Pair → Pair → HeldRecord → ℤ → HeldRecord → Type 0
ReturnsFound line before after old code new = FindsPair line before after old.agent code × (new ≡ old)

-- Invariants of candidates and pairs. Nothing here names the agent, so the agent's own invariants can use it.
use Rattle.std.specs.Prelude.{◌<◌, ◌&&◌, Bool, nat_lt, List, length, All}
use Rattle.std.specs.List.{list_all}
use Rattle.is_candidate.specs.Candidates.{CandidateRecord}
use Rattle.is_candidate.specs.Priorities.{candidate_priority, TOO_HIGH}
use Rattle.is_pair.specs.Pairs.{PairRecord}

-- no candidate has the greatest priority
abbrev pub NoneTooHigh : List CandidateRecord → Type 0
NoneTooHigh cs = All (λ c. candidate_priority c < TOO_HIGH) cs

-- The indices of the pair are in the lists of candidates.
abbrev pub is_placed : List CandidateRecord → List CandidateRecord → PairRecord → Bool
is_placed local remote p = nat_lt p.local (length local) && nat_lt p.remote (length remote)

abbrev pub are_placed : List CandidateRecord → List CandidateRecord → List PairRecord → Bool
are_placed local remote pairs = list_all (is_placed local remote) pairs

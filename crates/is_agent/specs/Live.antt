-- Candidates that can be invalidated: those that are not discarded.
use Rattle.std.specs.Prelude.{ℕ, ◌+◌, ◌*◌, min, List, length, count_by}
use Rattle.is_candidate.specs.Candidates.{CandidateRecord}
use Rattle.is_pair.specs.Pairs.{PairRecord}
use Rattle.is_rules.specs.Forming.{is_alive}

abbrev pub live_count : List CandidateRecord → ℕ
live_count cs = count_by is_alive cs

-- Room for what is emitted if this many candidates are invalidated while there are this many pairs. Each time that the selected pair is
-- lost another path may be selected, and the state may change. Each time a candidate and a pair are gone.
abbrev pub room_for : (candidates pairs : ℕ) → ℕ
room_for candidates pairs = 2 * min candidates pairs

-- room for the events of invalidating all of them
abbrev pub needed_room : List CandidateRecord → List CandidateRecord → List PairRecord → ℕ
needed_room local remote pairs = room_for (live_count local + live_count remote) (length pairs)

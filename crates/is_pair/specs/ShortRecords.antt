-- The removed pairs are stored in two lists: a place for each, with a short record where the numbers are small, and those that have none.
use Rattle.std.specs.Prelude.{ℕ, ◌+◌, ◌^◌, ◌++◌, ◌∷◌, ◌&&◌, [], Bool, None, List, drop, is_some, nat_lt, not, take}
use Rattle.std.specs.Int.{w16, w64, from_le_bytes}
use Rattle.is_pair.specs.declared.checklist.records.Place.{Place}
use Rattle.is_pair.specs.declared.checklist.records.Place.TheVariants.{Short, Long}
use Rattle.is_pair.specs.declared.checklist.records.ShortRecord.{ShortRecord}
use Rattle.is_pair.specs.declared.checklist.removed.RemovedPair.{RemovedPair}

-- each number fits the field of a short record, and there was no error response
abbrev pub is_small : RemovedPair → Bool
is_small r =
    not (is_some r.error) && nat_lt r.number (2 ^ 16) && nat_lt r.checks_sent (2 ^ 8) && nat_lt r.responses_received (2 ^ 8)
    && nat_lt r.local (2 ^ 8) && nat_lt r.remote (2 ^ 8)

-- the removed pair of a short record
abbrev pub pair_of_short : ShortRecord → RemovedPair
pair_of_short s = record {
  number = from_le_bytes w16 s.number;
  local = s.local;
  remote = s.remote;
  priority = from_le_bytes w64 s.priority;
  state = s.state;
  checks_sent = s.checks_sent;
  responses_received = s.responses_received;
  error = None;
  why = s.why;
}

-- how many places have no short record
abbrev pub long_count : List Place → ℕ
long_count [] = 0
long_count (Short s ∷ places) = long_count places
long_count (Long ∷ places) = long_count places + 1

-- the removed pairs: of each place the one of its short record, or else the next of the others
abbrev pub joined : List Place → List RemovedPair → List RemovedPair
joined [] long = []
joined (Short s ∷ places) long = pair_of_short s ∷ joined places long
joined (Long ∷ places) long = take 1 long ++ joined places (drop 1 long)

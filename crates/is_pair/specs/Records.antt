-- The records of removed pairs, as contracts see them.
use Rattle.std.specs.Prelude.{ℕ, List}
use Rattle.std.specs.VecDeque.{deque_len, deque_capacity}
use Rattle.is_pair.specs.declared.checklist.records.Records.{Records}
use Rattle.is_pair.specs.declared.checklist.removed.RemovedPair.{RemovedPair}
use Rattle.is_pair.specs.Removed.{RemovedFit}
use Rattle.is_pair.specs.ShortRecords.{joined}

-- the removed pairs, the oldest first
abbrev pub records_of : Records → List RemovedPair
records_of r = joined r.places.items r.long.items

-- there is capacity for so many more, whatever their numbers are
abbrev pub RecordsFit : ℕ → Records → Type 0
RecordsFit n r =
    RemovedFit (deque_len r.places) (deque_capacity r.places) n × RemovedFit (deque_len r.long) (deque_capacity r.long) n

-- The abstract state of a checklist, as contracts see it: its list of pairs, and its capacity.
use Rattle.std.specs.Prelude.{◌≡◌, ℕ, ◌+◌, ◌<◌, ◌≤◌, true, List, vec_len, vec_capacity}
use Rattle.std.specs.VecDeque.{deque_capacity}
use Rattle.is_pair.specs.declared.checklist.Checklist as code
use Rattle.is_pair.specs.declared.checklist.removed.RemovedPair.{RemovedPair}
use Rattle.is_pair.specs.Pairs.{PairRecord}
use Rattle.is_pair.specs.Multiset.{keep_fewer}
use Rattle.is_pair.specs.Records.{records_of, RecordsFit}

-- the pairs, in the order of their numbers
abbrev pub multiset_of : code.Checklist → List PairRecord
multiset_of c = c.pairs.items

-- the pairs that were removed last, the oldest first
abbrev pub removed_of : code.Checklist → List RemovedPair
removed_of c = records_of c.removed

-- there is capacity for n more pairs, and to list them and all others once they are removed
abbrev pub HasRoom : ℕ → code.Checklist → Type 0
HasRoom n c =
    (vec_len c.pairs + n ≤ vec_capacity c.pairs) × (vec_len c.ranks + n ≤ vec_capacity c.ranks)
    × RecordsFit (vec_len c.pairs + n) c.removed

-- There is capacity for one more check on any pair, if each stores at most the last `limit` of its checks. A pair that stores as many
-- drops its oldest for it.
abbrev pub HasCheckRoom : (limit : ℕ) → code.Checklist → Type 0
HasCheckRoom limit c =
    (vec_len c.index < vec_capacity c.index) × (0 < deque_capacity c.spare) × (keep_fewer limit (deque_capacity c.spare) (multiset_of c) ≡ true)

-- The pairs that were removed last, and why. They are not part of the abstract state, since nothing is decided by them. Their capacity is
-- reserved with the pairs, so each that is removed is listed.
use Rattle.std.specs.Prelude.{ℕ, ◌+◌, ◌-◌, ◌≤◌, ◌++◌, min, Bool, List, length, drop, filter, map, if◌then◌else◌}
use Rattle.is_pair.specs.declared.checklist.removed.RemovedPair.{RemovedPair}
use Rattle.is_pair.specs.declared.checklist.removed.Removal.{Removal}
use Rattle.is_pair.specs.declared.checklist.removed.Removal.TheVariants.{NoResponse, ConsentLost, PeerSilent}
use Rattle.is_pair.specs.Pairs.{PairRecord, is_valid}

-- how many are kept at most
abbrev pub REMOVED_LIMIT : ℕ
REMOVED_LIMIT = 32

-- what is kept of a pair that is removed for this reason
abbrev pub kept_as : Removal → PairRecord → RemovedPair
kept_as why p = record {
  number = p.number;
  local = p.local;
  remote = p.remote;
  priority = p.priority;
  state = p.state;
  checks_sent = p.checks_sent;
  responses_received = p.answers;
  error = p.last_error;
  why = why;
}

-- the last ones, up to the limit
abbrev pub last_removed : List RemovedPair → List RemovedPair
last_removed rs = drop (length rs - REMOVED_LIMIT) rs

-- the list after these pairs went, one after another, each with its reason
abbrev pub removed_after : (PairRecord → Removal) → List PairRecord → List RemovedPair → List RemovedPair
removed_after reason gone rs = last_removed (rs ++ map (λ p. kept_as (reason p) p) gone)

-- The pairs that pass are listed at the end, in the order of their numbers.
abbrev pub removed_passing : (PairRecord → Bool) → (PairRecord → Removal) → List PairRecord → List RemovedPair → List RemovedPair
removed_passing test reason pairs rs = removed_after reason (filter test pairs) rs

-- A list of this length and capacity can get as many more as this, up to the limit.
abbrev pub RemovedFit : (len capacity more : ℕ) → Type 0
RemovedFit len capacity more = min REMOVED_LIMIT (len + more) ≤ capacity

-- why a pair that expired is removed
abbrev pub expired_reason : Bool → PairRecord → Removal
expired_reason lite p = if lite then PeerSilent else if is_valid p then ConsentLost else NoResponse

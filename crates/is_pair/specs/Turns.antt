-- Pairs are checked in turn.
use Rattle.std.specs.Prelude.{◌≡◌, ℕ, ◌<◌, ◌≤◌, min, Bool, true, nat_le, List, filter, length}
use Rattle.is_proto.specs.Lists.{Has}
use Rattle.is_proto.specs.Times.{MAX, MILLISECOND}
use Rattle.is_stun.specs.declared.timing.StunTiming.{StunTiming}
use Rattle.is_pair.specs.Pairs.{PairRecord, checked}
use Rattle.is_pair.specs.Due.{due_time_of}
use Rattle.is_pair.specs.Multiset.{change_pair}

-- checks are at least a millisecond apart, and a pair stores its last one
pub record IsPaced (t : StunTiming) : Type 0 where
  pub initial : MILLISECOND ≤ t.initial_rto.0
  pub greatest : MILLISECOND ≤ t.max_rto.0
  pub retransmits : 0 < t.max_retransmits

-- computed at `now`, the due time of the pair is at most `by`
abbrev pub is_due_by : ℕ → ℕ → StunTiming → PairRecord → Bool
is_due_by by now t p = nat_le (due_time_of now t p) by

-- the pairs whose due time, computed at `now`, is at most `by`
abbrev pub due_by : ℕ → ℕ → StunTiming → List PairRecord → List PairRecord
due_by by now t pairs = filter (is_due_by by now t) pairs

-- computed at any time from its check on, a pair's due time is after the check; computed earlier, it is after that time
abbrev pub CheckedIsLater : Type 0
CheckedIsLater =
    (now at : ℕ) (t : StunTiming) (controlling : Bool) (id : List ℕ) (p : PairRecord) → IsPaced t → now < MAX
    → min now at < due_time_of at t (checked now t controlling id p)

-- A check of a pair that is due by an earlier time leaves fewer pairs that are due by that time.
abbrev pub FewerAreAhead : Type 0
FewerAreAhead =
    (now by : ℕ) (t : StunTiming) (controlling : Bool) (id : List ℕ) (pairs : List PairRecord) (p : PairRecord) → IsPaced t → now < MAX → by ≤ now
    → Has pairs p → is_due_by by now t p ≡ true
    → length (due_by by now t (change_pair p.number (checked now t controlling id) pairs)) < length (due_by by now t pairs)

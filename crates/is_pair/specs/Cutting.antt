-- Which checks of a pair are dropped when one more is sent, and what stays in the index: contracts of internal
-- functions.
use Rattle.std.specs.Prelude.{◌≡◌, ℕ, ◌||◌, true, false, nat_le, bytes_eq, List, length, slice_get, Some}
use Rattle.std.specs.List.{list_all}
use Rattle.is_pair.specs.declared.pair.cut.Cut.{Cut}
use Rattle.is_pair.specs.declared.pair.cut.Cut.TheVariants.{Nothing, Oldest, Several}
use Rattle.is_pair.specs.declared.checklist.entries.Kept.{Kept}
use Rattle.is_pair.specs.Checks.{Check}
use Rattle.is_pair.specs.Pairs.{PairRecord}
use Rattle.is_pair.specs.Entries.{is_current}

-- which of these checks are dropped, if `kept` are stored
abbrev pub CutsByNext : ℕ → List Check → Cut → Type 0
CutsByNext kept checks Nothing = nat_le kept (length checks) ≡ false
CutsByNext kept checks (Oldest id) = (length checks ≡ kept) × (c : Check) × (slice_get checks 0 ≡ Some c) × (c.id ≡ id.0)
CutsByNext kept checks Several = Unit {0}

-- the pair, which sent the check, stores what it stored before, except the checks that are dropped
abbrev pub LeavesCurrent : PairRecord → List Kept → Cut → Type 0
LeavesCurrent p index Nothing = list_all (is_current p) index ≡ true
LeavesCurrent p index (Oldest id) = list_all (λ (k : Kept). bytes_eq k.id.0 id.0 || is_current p k) index ≡ true
LeavesCurrent p index Several = Unit {0}

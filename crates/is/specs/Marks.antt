-- The search for log entries with a mark, from one number on and below another.
use Rattle.std.specs.Prelude.{◌≡◌, ℕ, ◌<◌, ◌≤◌, true, List, Option, Some, MatchOption}
use Rattle.is_stun.specs.declared.header.Class.TheVariants as class
use Rattle.is_stun.specs.declared.trans_id.TransId.{TransId}
use Rattle.is_rules.specs.declared.emitted.Path.{Path}
use Rattle.is.specs.declared.world_events.Side.{Side}
use Rattle.is.specs.declared.world_events.WorldEntry.{WorldEntry}
use Rattle.is.specs.declared.traces.Mark.{Mark}
use Rattle.is.specs.declared.traces.Mark.TheVariants.{Taken, Issued, Cleared}
use Rattle.is.specs.declared.traces.Trace.{Trace}
use Rattle.is.specs.Traces.{Issues, HandlesMessage, SelectsPathAt, IsAt, IsNoLater}

abbrev pub IsMarked : Mark → WorldEntry → Type 0
IsMarked (Taken side class id) e = HandlesMessage side class id e
IsMarked (Issued side class id) e = (path : Path) × Issues side path class id e
IsMarked (Cleared side) e = (e.side ≡ Some side) × (e.clear ≡ true)

-- None of these entries has the mark.
abbrev pub NoneMarked : List WorldEntry → Mark → ℕ → ℕ → Type 0
NoneMarked es mark first end = (n : ℕ) → first ≤ n → n < end → ¬ IsAt es n (IsMarked mark)

-- the first of these entries that has the mark
abbrev pub IsFirstMarked : List WorldEntry → Mark → ℕ → ℕ → Option ℕ → Type 0
IsFirstMarked es mark first end result =
    MatchOption result (NoneMarked es mark first end) (λ n. (first ≤ n) × (n < end) × IsAt es n (IsMarked mark) × NoneMarked es mark first n)

-- the side that selected the path at this index of the entry, and the path
abbrev pub IsSelectedIn : List WorldEntry → ℕ → ℕ → Option (Side × Path) → Type 0
IsSelectedIn es n place result =
    MatchOption result ((side : Side) (path : Path) → ¬ IsAt es n (SelectsPathAt side path place)) (λ by. IsAt es n (SelectsPathAt by.0 by.1 place))

-- the ID of the check that the entry sent on the path
abbrev pub IsCheckOfEntry : List WorldEntry → Side → Path → ℕ → Option TransId → Type 0
IsCheckOfEntry es side path n result =
    MatchOption result ((id : TransId) → ¬ IsAt es n (Issues side path class.Request id)) (λ id. IsAt es n (Issues side path class.Request id))

-- the first of the causal chains, or of whatever chains `Is` describes, that begin at this entry number
abbrev pub IsFirstFrom : (Trace → Type 0) → ℕ → Option Trace → Type 0
IsFirstFrom Is checked result =
    MatchOption result ((t : Trace) → t.checked ≡ checked → ¬ Is t)
    (λ first. (first.checked ≡ checked) × Is first × ((t : Trace) → t.checked ≡ checked → Is t → IsNoLater first t))

abbrev pub IsFirst : (Trace → Type 0) → Option Trace → Type 0
IsFirst Is result = MatchOption result ((t : Trace) → ¬ Is t) (λ first. Is first × ((t : Trace) → Is t → IsNoLater first t))

-- The pairs that were removed last, as C gets them.
use Rattle.std.specs.Prelude.{◌≡◌, ℕ, Bool, true, false, List, [], length, Option, Some, None, slice_get, ℤ, pos}
use Rattle.std.specs.Option.{option_map_or}
use Rattle.is_pair.specs.declared.checklist.removed.Removal.{Removal}
use Rattle.is_pair.specs.declared.checklist.removed.Removal.TheVariants.{NoResponse, ConsentLost, PeerSilent, Evicted, Replaced, Invalidated}
use Rattle.is_pair.specs.declared.checklist.removed.RemovedPair.{RemovedPair}
use Rattle.is_rules.specs.declared.emitted.Path.{Path}
use Rattle.is_agent.specs.Removed.{removed_of, path_between_some}
use Rattle.is_c.specs.declared.paths.MediaPath.{MediaPath}
use Rattle.is_c.specs.declared.removed.Removed.{Removed}
use Rattle.is_c.specs.declared.slot.Slot.{Slot}
use Rattle.is_c_calls.specs.Codes.{OK, NOTHING}
use Rattle.is_c_calls.specs.Held.{Held, HeldRecord}
use Rattle.is_c.specs.Pairs.{check_number}
use Rattle.is_c.specs.Paths.{IsMediaPath}

-- the removed pairs of the agent in the slot, the oldest first
abbrev pub removed_by : Slot → List RemovedPair
removed_by slot = option_map_or (λ h. removed_of h.agent) slot.handle.held []

abbrev pub removal_number : Removal → ℤ
removal_number NoResponse = pos 1
removal_number ConsentLost = pos 2
removal_number PeerSilent = pos 3
removal_number Evicted = pos 4
removal_number Replaced = pos 5
removal_number Invalidated = pos 6

-- the code of an error response, or 0
abbrev pub error_number : Option ℕ → ℤ
error_number None = pos 0
error_number (Some code) = pos code

-- the path, if it is known
abbrev pub IsKnownPath : Option Path → MediaPath → Bool → MediaPath → Type 0
IsKnownPath None before has after = (has ≡ false) × (after ≡ before)
IsKnownPath (Some path) before has after = (has ≡ true) × IsMediaPath path after

-- what C gets of a removed pair
abbrev pub IsRemoved : Held → RemovedPair → MediaPath → Removed → Type 0
IsRemoved a p before s =
    (s.priority ≡ p.priority) × (s.checks_sent ≡ p.checks_sent) × (s.responses ≡ p.responses_received)
    × (s.state ≡ check_number p.state) × (s.reason ≡ removal_number p.why) × (s.error ≡ error_number p.error)
    × IsKnownPath (path_between_some a p.local p.remote) before s.has_path s.path

abbrev pub ReturnsOfRemoved : Held → Option RemovedPair → Removed → Removed → ℤ → Type 0
ReturnsOfRemoved a None before after code = (code ≡ NOTHING) × (after ≡ before)
ReturnsOfRemoved a (Some p) before after code = (code ≡ OK) × IsRemoved a p before.path after

-- `is_ice_removed_at`: the one that was removed first has index 0
abbrev pub ReturnsRemoved : List RemovedPair → ℕ → Removed → Removed → HeldRecord → ℤ → HeldRecord → Type 0
ReturnsRemoved removed index before after old code new =
    ReturnsOfRemoved old.agent (slice_get removed index) before after code × (new ≡ old)

-- `is_ice_removed_count`
abbrev pub ReportsRemoved : List RemovedPair → ℕ → HeldRecord → ℤ → HeldRecord → Type 0
ReportsRemoved removed count old code new = (code ≡ OK) × (count ≡ length removed) × (new ≡ old)

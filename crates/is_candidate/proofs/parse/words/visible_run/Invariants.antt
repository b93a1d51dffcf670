use Rattle.is_candidate.proofs.Common.{◌-◌, ◌≤◌, All, IsVisible, length, take}
use Rattle.is_candidate.proofs.parse.words.visible_run.Given as goal

-- the bytes so far are visible
abbrev pub invariant-loop-count : goal.invariant-loop-count
invariant-loop-count l = (l.count ≤ length l.bytes) × All IsVisible (take l.count l.bytes)

abbrev pub decreases-loop-count : goal.decreases-loop-count
decreases-loop-count l = length l.bytes - l.count

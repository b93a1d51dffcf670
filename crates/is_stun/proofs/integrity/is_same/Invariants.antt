use Rattle.std.proofs.Common.{◌≡◌, ◌↔◌, take}
use Rattle.is_stun.proofs.integrity.is_same.Given as goal

-- a difference was found, or the bytes so far are equal
abbrev pub invariant-loop-index : goal.invariant-loop-index
invariant-loop-index l = (l.differences ≡ 0) ↔ (take l.index l.found ≡ take l.index l.expected)

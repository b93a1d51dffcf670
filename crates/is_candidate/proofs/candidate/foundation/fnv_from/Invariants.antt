use Rattle.is_candidate.proofs.Common.{◌≡◌, fnv_from, take}
use Rattle.is_candidate.proofs.candidate.foundation.fnv_from.Given as goal

abbrev pub invariant-loop-byte : goal.invariant-loop-byte
invariant-loop-byte l = l.hash ≡ fnv_from l.start (take l.byte-index l.bytes)

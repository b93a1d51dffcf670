use Rattle.std.proofs.Common.{ℕ, List, ◌++◌, map, take}
use Rattle.std.specs.List.{concat}
use Rattle.sha1.specs.Sha1.{Holds}
use Rattle.is_proto.proofs.hmac_provider.digest_after.Given as goal

-- the hasher holds what it held and the pieces so far
abbrev pub invariant-loop-piece : goal.invariant-loop-piece
invariant-loop-piece l =
    (m : List ℕ) → Holds l.fn.hasher m → Holds l.hasher (m ++ concat (map (λ piece. piece.now) (take l.piece-index l.pieces)))

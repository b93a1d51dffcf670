use Rattle.is_rules.proofs.Common.{◌≡◌, ice_text, take, vec_capacity}
use Rattle.is_rules.proofs.credentials.ice_text.Given as goal

-- the characters so far, in the capacity that was reserved
abbrev pub invariant-loop-byte : goal.invariant-loop-byte
invariant-loop-byte l =
    (l.room.items ≡ ice_text (take l.byte-index l.bytes)) × (vec_capacity l.room ≡ vec_capacity l.initial.room)

-- Bytes that a client keeps, without their place in memory.
use Rattle.std.specs.Prelude.{ℕ, List, take}
use Rattle.is_turn.specs.declared.octets.Octets.{Octets}

abbrev pub octets_of : Octets → List ℕ
octets_of o = take o.len o.bytes

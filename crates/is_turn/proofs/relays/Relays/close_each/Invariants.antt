use Rattle.is_turn.specs.OneRelay.{Closes}
use Rattle.is_turn.proofs.Common.{◌≡◌, ChangesFirst, length}
use Rattle.is_turn.proofs.relays.Relays.close_each.Given as goal

-- the clients before this place are changed
abbrev pub invariant-loop-place : goal.invariant-loop-place
invariant-loop-place g l = record {
  done : ChangesFirst l.place (Closes l.now) l.fn.self.relays.items l.self.relays.items;
  len : length l.self.relays.items ≡ length l.fn.self.relays.items;
}

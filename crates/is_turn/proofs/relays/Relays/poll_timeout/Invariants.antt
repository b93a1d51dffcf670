use Rattle.std.proofs.Common.{◌≡◌, map, fold, drop, None}
use Rattle.is_turn.specs.OneRelay.{time_of_relay}
use Rattle.is_turn.specs.Relays.{earlier_time}
use Rattle.is_turn.proofs.relays.Relays.poll_timeout.Given as goal

-- the earliest of what is left and of what was visited is the earliest of all
abbrev pub invariant-loop-relay : goal.invariant-loop-relay
invariant-loop-relay g l =
    fold earlier_time l.first (map time_of_relay (drop l.relay-index l.self.relays.items)) ≡ fold earlier_time None (map time_of_relay l.self.relays.items)

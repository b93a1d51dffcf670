use Rattle.std.proofs.Common.{◌≡◌, map, fold, drop, None}
use Rattle.is_turn.specs.Relays.{earlier_time}
use Rattle.is_servers.specs.Mapping.{time_of}
use Rattle.is_servers.proofs.mappings.Mappings.poll_timeout.Given as goal

-- the earliest of what is left and of what was visited is the earliest of all
abbrev pub invariant-loop-m : goal.invariant-loop-m
invariant-loop-m l =
    fold earlier_time l.first (map time_of (drop l.m-index l.self.all.items)) ≡ fold earlier_time None (map time_of l.self.all.items)

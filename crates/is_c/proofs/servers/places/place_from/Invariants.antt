use Rattle.is_c.specs.ServersPackets.{BeginsAtNone}
use Rattle.is_c.proofs.servers.places.place_from.Given as goal

abbrev pub invariant-loop-at : goal.invariant-loop-at
invariant-loop-at l = BeginsAtNone l.whole l.part l.first l.at

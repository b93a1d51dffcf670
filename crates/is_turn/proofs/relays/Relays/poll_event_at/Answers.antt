use Rattle.std.proofs.Common.{arith, refl, Some, None}
use Rattle.is_turn.proofs.OneChanges.{changes_at}
use Rattle.is_turn.proofs.relays.Relays.poll_event_at.Goals as goal

pub returns-in-Some : goal.returns-in-Some
returns-in-Some g c =
    changes_at c.args.place _ c.args.self.now.relays.items c.index_mut.result.now c.poll_event.new.self (omega (arith, c.requires)) c.index_mut.ensures.value
    (record { event = Some c.in-Some.event; reports = c.in-Some.ensures; placed = refl })

pub returns-in-None : goal.returns-in-None
returns-in-None g c =
    changes_at c.args.place _ c.args.self.now.relays.items c.index_mut.result.now c.poll_event.new.self (omega (arith, c.requires)) c.index_mut.ensures.value
    (record { event = None; reports = c.in-None.ensures; placed = refl })

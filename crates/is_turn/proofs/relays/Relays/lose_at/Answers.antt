use Rattle.std.proofs.Common.{arith}
use Rattle.is_turn.proofs.OneChanges.{changes_at}
use Rattle.is_turn.proofs.relays.Relays.lose_at.Goals as goal

pub returns : goal.returns
returns g c =
    changes_at c.args.place _ c.args.self.now.relays.items c.index_mut.result.now c.lose_of.new.self (omega (arith, c.requires)) c.index_mut.ensures.value
    c.lose_of.ensures

use Rattle.std.proofs.Common.{refl}
use Rattle.is_turn.proofs.OneChanges.{one_more, length_kept}
use Rattle.is_turn.proofs.relays.Relays.close_each.Goals as goal

pub loop-place-init : goal.loop-place-init
loop-place-init g c = record { done = refl; len = refl }

pub loop-place-preserved : goal.loop-place-preserved
loop-place-preserved g c =
    let old = c.loop-place.invariant in
    record {
      done = one_more c.loop-place.place _ _ c.loop-place.self.relays.items _ old.done c.close_at.ensures;
      len = length_kept c.loop-place.place _ _ c.loop-place.self.relays.items _ c.close_at.ensures old.len;
    }

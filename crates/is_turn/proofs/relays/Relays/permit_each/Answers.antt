use Rattle.std.proofs.Common.{refl}
use Rattle.is_turn.proofs.OneChanges.{one_more, length_kept, changes_so}
use Rattle.is_turn.proofs.relays.Relays.permit_each.Goals as goal

pub loop-place-init : goal.loop-place-init
loop-place-init g c = record { done = refl; len = refl }

pub loop-place-preserved : goal.loop-place-preserved
loop-place-preserved g c =
    let old = c.loop-place.invariant in
    record {
      done = one_more c.loop-place.place _ _ c.loop-place.self.relays.items _ old.done
          (changes_so c.loop-place.place _ _ _ _ (λ before after taken. (c.permit_at-is_taken.result, taken)) c.permit_at-is_taken.ensures);
      len = length_kept c.loop-place.place _ _ c.loop-place.self.relays.items _ c.permit_at-is_taken.ensures old.len;
    }

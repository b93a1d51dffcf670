use Rattle.std.proofs.lemmas.List.Edits.{map_over_more}
use Rattle.is_turn.proofs.Common.{advanced, arith}
use Rattle.is_turn.proofs.places.advance_all.Goals as goal

pub loop-place-preserved : goal.loop-place-preserved
loop-place-preserved c =
    let done = c.loop-place.invariant in
    record {
      items = rw c.advanced.ensures (map_over_more (advanced c.args.now) c.args.leases.now.items c.loop-place.leases.items c.loop-place.place _ (omega arith) done.items c.index.ensures);
      len = done.len;
    }

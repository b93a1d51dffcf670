use Rattle.is_pair.proofs.Common.{arith, map_over_more}
use Rattle.is_pair.proofs.checklist.listed.change_all.Goals as goal

pub loop-place-preserved : goal.loop-place-preserved
loop-place-preserved g c =
    let done = c.loop-place.invariant in
    let f = g.C.PairChange.makes c.args.change.now in
    record {
      items = rw c.change.ensures (map_over_more f c.args.pairs.now.items c.loop-place.pairs.items c.loop-place.place _ (omega arith) done.items c.index_mut.ensures.value);
      len = done.len;
      capacity = done.capacity;
    }

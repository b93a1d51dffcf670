use Rattle.is_pair.proofs.Common.{arith, map_over_more, with_priority}
use Rattle.is_pair.proofs.checklist.listed.set_priorities.Goals as goal

pub loop-place-preserved : goal.loop-place-preserved
loop-place-preserved g c =
    let done = c.loop-place.invariant in
    let f = with_priority (g.R.PairPriority.gives c.args.rule.now) in
    record {
      items = rw c.set_priority.ensures (map_over_more f c.args.pairs.now.items c.loop-place.pairs.items c.loop-place.place _ (omega arith) done.items c.index_mut.ensures.value);
      len = done.len;
      capacity = done.capacity;
    }

use Rattle.is_rules.proofs.Common.{◌+◌, drop, sides_view}
use Rattle.is_rules.proofs.FunctionProofs.SlotsOfPairs.{hold-step}
use Rattle.is_rules.proofs.PairLists.PairsInLists.{placed-first}
use Rattle.is_rules.proofs.PairLists.VisitedPairs.{left-more}
use Rattle.is_rules.proofs.slots.hold_all.Goals as goal

pub loop-pair-preserved : goal.loop-pair-preserved
loop-pair-preserved c =
    let items = c.as_slice-pair-items.result.now in
    let i = c.loop-pair.pair-index in
    let x = c.pair-item.result in
    let more = left-more items i x c.loop-pair-test.true c.pair-item.is in
    record {
      held = λ p has. hold-step (sides_view c.args.sides) c.loop-pair.held c.hold_at.new.held c.hold_at.ensures.len c.hold_at.ensures.others x p (drop i items) (drop (i + 1) items) more
          (rw (c.local_idx.ensures, c.remote_idx.ensures, c.id.ensures) at c.hold_at.ensures.here) (c.loop-pair.invariant.held p has);
      placed = (placed-first c.args.sides.local.now c.args.sides.remote.now x (drop i items) (drop (i + 1) items) more c.loop-pair.invariant.placed).1;
    }

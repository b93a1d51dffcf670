use Rattle.is_rules.proofs.Common.{filter-append, flat_map-append}
use Rattle.is_rules.proofs.FunctionProofs.IndexRanges.{places-more}
use Rattle.is_rules.proofs.forming.live_combinations.Goals as goal

pub loop-l-preserved : goal.loop-l-preserved
loop-l-preserved c = rw (places-more c.loop-l.l, filter-append, flat_map-append, ← c.loop-l.invariant) c.in_ok-push_live_row.ensures

use Rattle.is_rules.proofs.Common.{append_assoc, filter-append, map-append}
use Rattle.is_rules.proofs.FunctionProofs.IndexRanges.{places-more}
use Rattle.is_rules.proofs.forming.push_own_row.Goals as goal

pub loop-r-preserved : goal.loop-r-preserved
loop-r-preserved c = rw (places-more c.loop-r.r, filter-append, map-append, ← append_assoc, ← c.loop-r.invariant) c.in_ok-push_own_partner.ensures

use Rattle.is_rules.proofs.Common.{filter-append, map-append}
use Rattle.is_rules.proofs.FunctionProofs.IndexRanges.{places-more}
use Rattle.is_rules.proofs.forming.remote_combinations.Goals as goal

pub loop-l-preserved : goal.loop-l-preserved
loop-l-preserved c = rw (places-more c.loop-l.l, filter-append, map-append, ← c.loop-l.invariant) c.in_ok-push_partner.ensures

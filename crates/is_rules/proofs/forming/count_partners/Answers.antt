use Rattle.is_rules.proofs.Common.{filter-append, length-append, rules}
use Rattle.is_rules.proofs.FunctionProofs.IndexRanges.{places-more}
use Rattle.is_rules.proofs.forming.count_partners.Goals as goal

pub loop-place-preserved : goal.loop-place-preserved
loop-place-preserved c = record {
  counted = rw (places-more c.loop-place.place, filter-append, length-append) (search rules);
  bound = search rules;
}

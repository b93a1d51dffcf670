use Rattle.is_pair.proofs.Common.{filter_same, has_number, Kept, rules}
use Rattle.is_pair.proofs.checklist.index.keep_known.Goals as goal

pub returns-clause-items : goal.returns-clause-items
returns-clause-items c = filter_same _ (λ (k : Kept). has_number k.number c.args.pairs.now) _ (λ x b f' h. search rules) _ _ c.retain.ensures.filtered

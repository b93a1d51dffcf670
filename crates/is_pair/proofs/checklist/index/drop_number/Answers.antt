use Rattle.is_pair.proofs.Common.{◌==◌, filter_same, Kept, not, rules}
use Rattle.is_pair.proofs.checklist.index.drop_number.Goals as goal

pub returns-clause-items : goal.returns-clause-items
returns-clause-items c = filter_same _ (λ (k : Kept). not (k.number == c.args.number)) _ (λ x b f' h. search rules) _ _ c.retain.ensures.filtered

use Rattle.is_pair.proofs.Common.{filter_same, is_current, rules}
use Rattle.is_pair.proofs.checklist.index.forget_all.Goals as goal

pub returns-clause-items : goal.returns-clause-items
returns-clause-items c = filter_same _ (is_current c.args.pair.now) _ (λ x b f' h. search rules) _ _ c.retain.ensures.filtered

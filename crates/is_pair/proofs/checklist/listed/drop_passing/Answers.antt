use Rattle.is_pair.proofs.Common.{filter_same, not, PairRecord, rules}
use Rattle.is_pair.proofs.checklist.listed.drop_passing.Goals as goal

pub returns-clause-left : goal.returns-clause-left
returns-clause-left g c = filter_same _ (λ (p : PairRecord). not (g.T.PairTest.passes c.args.test.now p)) _ (λ x b f' h. search rules) _ _ c.retain.ensures.filtered

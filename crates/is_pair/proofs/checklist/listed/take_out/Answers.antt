use Rattle.is_pair.proofs.Common.{filter_same, is_numbered, not, PairRecord, rules}
use Rattle.is_pair.proofs.checklist.listed.take_out.Goals as goal

pub returns-clause-left : goal.returns-clause-left
returns-clause-left c = filter_same _ (λ (p : PairRecord). not (is_numbered c.args.number p)) _ (λ x b f' h. search rules) _ _ c.retain.ensures.filtered

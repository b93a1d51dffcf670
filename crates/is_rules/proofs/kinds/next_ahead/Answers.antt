use Rattle.is_rules.proofs.Common.{is_due, multiset_of, sym}
use Rattle.is_rules.proofs.FunctionProofs.FoundElements.{find-None}
use Rattle.is_rules.proofs.kinds.next_ahead.Goals as goal

-- no pair is due
pub returns-in-None : goal.returns-in-None
returns-in-None c = find-None (is_due c.args.now.0 c.args.timing.now) (multiset_of c.args.pairs.now) (sym c.in-None.ensures)

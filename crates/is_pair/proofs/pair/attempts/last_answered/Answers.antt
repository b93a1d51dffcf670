use Rattle.is_pair.proofs.Common.{find_from_yields_List, is_answered, rules, tests}
use Rattle.is_pair.proofs.StoredChecks.QueueFromBack.{YieldsList-from_rev_deque}
use Rattle.is_pair.proofs.pair.attempts.last_answered.Goals as goal

pub returns : goal.returns
returns c =
    find_from_yields_List is_answered _ _ c.find.result c.find.ensures.ran (YieldsList-from_rev_deque c.args.attempts.now.items cc) (λ x b q k. search (rules, tests))

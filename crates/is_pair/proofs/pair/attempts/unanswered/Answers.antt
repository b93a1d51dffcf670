use Rattle.is_pair.proofs.Common.{is_answered, position_from-zero, position_from_yields_List, reverse, rules, tests}
use Rattle.is_pair.proofs.StoredChecks.QueueFromBack.{YieldsList-from_rev_deque}
use Rattle.is_pair.proofs.pair.attempts.unanswered.Goals as goal

pub returns-clause-count : goal.returns-clause-count
returns-clause-count c =
    let checks = c.args.attempts.now.items in
    let found = position_from_yields_List is_answered _ _ c.position-answered.result c.position-answered.ensures.ran (YieldsList-from_rev_deque checks cc) (λ x b q k. search (rules, tests)) in
    let place = position_from-zero is_answered (reverse checks) in
    cc

use Rattle.is_rules.proofs.Common.{multiset_of, request_view, served, triggered}
use Rattle.is_rules.proofs.PairLists.PairsInLists.{placed-changed, request-keys, request-places}
use Rattle.is_rules.proofs.pairs.serve_pair.Goals as goal

pub change-requires : goal.change-requires
change-requires c =
    let by = c.args.role in let q = request_view c.args.request.now in let after = c.args.check in
    record { keys = request-keys by.controlling by.lite q after.modern after.at.0 }

pub returns-clause-placed : goal.returns-clause-placed
returns-clause-placed c = λ local remote placed.
    let by = c.args.role in let q = request_view c.args.request.now in let after = c.args.check in
    rw (c.change.ensures.changed)
    (placed-changed local remote c.args.number (λ p. served by.controlling by.lite q (triggered after.modern after.at.0 p)) (multiset_of c.args.pairs.now)
    (request-places by.controlling by.lite q after.modern after.at.0) placed)

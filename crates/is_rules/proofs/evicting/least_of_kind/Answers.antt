use Rattle.is_rules.proofs.Common.{multiset_of, option_copied}
use Rattle.is_rules.proofs.PairLists.LeastOfKind.{least-placed}
use Rattle.is_rules.proofs.evicting.least_of_kind.Goals as goal

pub returns : goal.returns
returns c =
    least-placed c.args.kinds.now.local.now c.args.kinds.now.remote.now c.args.kind (multiset_of c.args.pairs.now) (option_copied c.least_passing.result)
    c.requires.placed c.least_passing.ensures

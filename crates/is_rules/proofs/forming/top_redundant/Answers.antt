use Rattle.is_rules.proofs.Common.{is_placed, is_redundant, multiset_of, option_copied, sides_view}
use Rattle.is_rules.proofs.PairLists.PairsInLists.{greatest-there}
use Rattle.is_rules.proofs.forming.top_redundant.Goals as goal

pub returns : goal.returns
returns c =
    let s = c.args.sides in
    greatest-there (is_placed s.local.now s.remote.now) (is_redundant (sides_view s) c.args.at) (multiset_of c.args.pairs.now) (option_copied c.greatest.result)
    c.requires.placed c.greatest.ensures

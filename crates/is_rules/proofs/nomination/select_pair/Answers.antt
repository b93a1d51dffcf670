use Rattle.is_rules.proofs.Common.{is_placed, multiset_of, nominated_by_self, selection}
use Rattle.is_rules.proofs.PairLists.ChosenPair.{chosen-able}
use Rattle.is_rules.proofs.FunctionProofs.DuePairsAfterNomination.{falls-named}
use Rattle.is_rules.proofs.PairLists.PairsInLists.{all-has, placed-changed, self-places}
use Rattle.is_rules.proofs.nomination.select_pair.Goals as goal

pub path_of-path-requires : goal.path_of-path-requires
path_of-path-requires c =
    let s = c.args.sides in
    let able = chosen-able s.controlling c.args.followed (selection (multiset_of c.args.pairs.now) c.args.selected.now) c.in-Some.top.now c.in-Some.ensures in
    all-has (is_placed s.local.now s.remote.now) (multiset_of c.args.pairs.now) c.in-Some.top.now c.requires able.0

pub returns-else-remains-clause-placed : goal.returns-else-remains-clause-placed
returns-else-remains-clause-placed c =
    let s = c.args.sides in
    rw (c.nominate_pair.ensures.nominated)
    (placed-changed s.local.now s.remote.now c.id-number.result.0 (nominated_by_self s.controlling s.lite) (multiset_of c.args.pairs.now) (self-places s.controlling s.lite) c.requires)

pub returns-else-remains-clause-due : goal.returns-else-remains-clause-due
returns-else-remains-clause-due c = λ now t falls.
    let s = c.args.sides in
    let able = chosen-able s.controlling c.args.followed (selection (multiset_of c.args.pairs.now) c.args.selected.now) c.in-Some.top.now c.in-Some.ensures in
    falls-named s.controlling s.lite now t (multiset_of c.args.pairs.now) c.in-Some.top.now c.numbers_rise.ensures able.0 able.1
    (rw (c.nominate_pair.ensures.nominated, c.id-number.ensures) at falls)

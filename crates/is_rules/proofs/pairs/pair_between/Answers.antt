use Rattle.is_rules.proofs.Common.{is_between, multiset_of, sym}
use Rattle.is_rules.proofs.FunctionProofs.FoundElements.{find-Some, find-None}
use Rattle.is_rules.proofs.pairs.pair_between.Goals as goal

pub returns-in-Some : goal.returns-in-Some
returns-in-Some c =
    let found = find-Some (is_between c.args.l c.args.r) (multiset_of c.args.pairs.now) c.in-Some.pair.now (sym c.in-Some.ensures) in
    (c.in-Some.pair.now, found.0, found.1, sym c.id.ensures)

pub returns-in-None : goal.returns-in-None
returns-in-None c = find-None (is_between c.args.l c.args.r) (multiset_of c.args.pairs.now) (sym c.in-None.ensures)

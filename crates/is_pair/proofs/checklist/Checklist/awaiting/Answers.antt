use Rattle.is_pair.proofs.Common.{◌∙◌, ◌≡◌, ap, find, IsAwaiting, names_passing, Option, pair_numbered, PairRecord, rules, Some, subst, sym}
use Rattle.is_pair.proofs.ChecklistIndex.AwaitingPair.{awaiting-found, awaiting-keeps, none-awaiting}
use Rattle.is_pair.proofs.checklist.Checklist.awaiting.Goals as goal

pub returns-in-Some-clause-awaiting : goal.returns-in-Some-clause-awaiting
returns-in-Some-clause-awaiting g c =
    let list = c.args.self.now in
    let test = g.T.PairTest.passes c.args.test.now in
    let is : find (names_passing c.args.trans_id.0 test list.pairs.items) list.index.items ≡ Some c.in-Some.kept = search rules in
    subst (λ (o : Option PairRecord). IsAwaiting c.args.trans_id.0 test list.pairs.items o) (sym (c.get.ensures.found ∙ ap (pair_numbered c.in-Some.kept.number) c.deref-in-Some.ensures.value))
    (awaiting-found list.pairs.items list.index.items c.args.trans_id.0 test list.rising list.indexed c.in-Some.kept is)

pub returns-in-Some-clause-kept : goal.returns-in-Some-clause-kept
returns-in-Some-clause-kept g c =
    let list = c.args.self.now in
    let test = g.T.PairTest.passes c.args.test.now in
    let is : find (names_passing c.args.trans_id.0 test list.pairs.items) list.index.items ≡ Some c.in-Some.kept = search rules in
    awaiting-keeps c.args.trans_id.0 test list.pairs.items _
    (subst (λ (o : Option PairRecord). IsAwaiting c.args.trans_id.0 test list.pairs.items o) (sym (c.get.ensures.found ∙ ap (pair_numbered c.in-Some.kept.number) c.deref-in-Some.ensures.value))
    (awaiting-found list.pairs.items list.index.items c.args.trans_id.0 test list.rising list.indexed c.in-Some.kept is))

pub returns-in-None-clause-awaiting : goal.returns-in-None-clause-awaiting
returns-in-None-clause-awaiting g c =
    let list = c.args.self.now in
    let test = g.T.PairTest.passes c.args.test.now in
    none-awaiting list.pairs.items list.index.items c.args.trans_id.0 test list.rising list.indexed (search rules)

use Rattle.is_pair.proofs.Common.{[], ◌∙◌, ◌≡◌, ap, false, filter, List, None, Option, option_to_list, pair_numbered, PairRecord, records_of, refl}
use Rattle.is_pair.proofs.Common.{removed_after, rules, sym}
use Rattle.is_pair.proofs.RemovedPairs.{after-none, few-records}
use Rattle.is_pair.proofs.checklist.removed.keep_if.Goals as goal

pub returns-else-passes-clause-removed : goal.returns-else-passes-clause-removed
returns-else-passes-clause-removed g c =
    let test = g.T.PairTest.passes c.args.test.now in
    let reason = g.T.PairRemoval.reason c.args.test.now in
    let old = c.args.records.now in
    let fails : test c.in-Some.pair.now ≡ false = search rules in
    let none : filter test (option_to_list (pair_numbered c.args.number c.args.pairs.now)) ≡ [] =
    ap (λ (o : Option PairRecord). filter test (option_to_list o)) (sym c.in-Some.ensures.found) ∙ rw fails refl in
    after-none reason (records_of old) (few-records old) ∙ ap (λ (ps : List PairRecord). removed_after reason ps (records_of old)) (sym none)

pub returns-in_default-clause-removed : goal.returns-in_default-clause-removed
returns-in_default-clause-removed g c =
    let test = g.T.PairTest.passes c.args.test.now in
    let reason = g.T.PairRemoval.reason c.args.test.now in
    let old = c.args.records.now in
    let absent : pair_numbered c.args.number c.args.pairs.now ≡ None = search rules in
    let none : filter test (option_to_list (pair_numbered c.args.number c.args.pairs.now)) ≡ [] =
    ap (λ (o : Option PairRecord). filter test (option_to_list o)) absent in
    after-none reason (records_of old) (few-records old) ∙ ap (λ (ps : List PairRecord). removed_after reason ps (records_of old)) (sym none)

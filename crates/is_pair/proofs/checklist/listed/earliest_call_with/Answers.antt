use Rattle.is_pair.proofs.Common.{◌+◌, ◌∙◌, ap, call_time_of, drop, drop_all, fold, List, map, min, PairRecord, rules, sym, ℕ}
use Rattle.is_pair.proofs.PairEntries.VisitedPairs.{left-more}
use Rattle.is_pair.proofs.checklist.listed.earliest_call_with.Goals as goal

pub loop-pair-preserved : goal.loop-pair-preserved
loop-pair-preserved c =
    let f = call_time_of c.args.now.0 c.args.timing.now in
    let more = left-more c.args.pairs.now c.loop-pair.pair-index c.pair-item.result c.loop-pair-test.true c.pair-item.is in
    ap (λ (t : ℕ). fold min t (map f (drop (c.loop-pair.pair-index + 1) c.args.pairs.now))) (search rules)
    ∙ sym (ap (λ (ps : List PairRecord). fold min c.loop-pair.first.0 (map f ps)) more) ∙ c.loop-pair.invariant

pub returns : goal.returns
returns c =
    let f = call_time_of c.args.now.0 c.args.timing.now in
    let none = drop_all c.loop-pair.pair-index c.args.pairs.now c.loop-pair-test.false in
    sym (ap (λ (ps : List PairRecord). fold min c.loop-pair.first.0 (map f ps)) none) ∙ c.loop-pair.invariant

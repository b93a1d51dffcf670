use Rattle.is_pair.proofs.Common.{[], ◌+◌, ◌∙◌, ◌∷◌, ◌≡◌, ◌≤◌, ap, arith, call_time_of, drop, drop_all, fold, List, map, MAX, min}
use Rattle.is_pair.proofs.Common.{PairRecord, rules, sym, ℕ}
use Rattle.is_pair.proofs.PairEntries.VisitedPairs.{left-more}
use Rattle.is_pair.proofs.checklist.listed.earliest_call_from.Goals as goal

least-below : (a : ℕ) (xs : List ℕ) → fold min a xs ≤ a
least-below a [] = omega arith
least-below a (x ∷ xs) = let less = least-below (min a x) xs in omega (arith, less)

pub loop-pair-preserved : goal.loop-pair-preserved
loop-pair-preserved c =
    let f = call_time_of c.args.now.0 c.args.timing.now in
    let more = left-more c.args.pairs.now c.loop-pair.pair-index c.pair-item.result c.loop-pair-test.true c.pair-item.is in
    ap (λ (t : ℕ). fold min t (map f (drop (c.loop-pair.pair-index + 1) c.args.pairs.now))) (search rules)
    ∙ sym (ap (λ (ps : List PairRecord). fold min c.loop-pair.first.0 (map f ps)) more) ∙ c.loop-pair.invariant

pub returns : goal.returns
returns c =
    let f = call_time_of c.args.now.0 c.args.timing.now in
    let none = drop_all c.loop-pair.pair-index c.args.pairs.now c.loop-pair-test.false in
    let all : c.loop-pair.first.0 ≡ fold min MAX (map f c.args.pairs.now) = sym (ap (λ (ps : List PairRecord). fold min c.loop-pair.first.0 (map f ps)) none) ∙ c.loop-pair.invariant in
    search rules

pub returns-then-le : goal.returns-then-le
returns-then-le c =
    let f = call_time_of c.args.now.0 c.args.timing.now in
    let i = c.loop-pair.pair-index in
    let first = c.min-first.result.0 in
    let left = map f (drop (i + 1) c.args.pairs.now) in
    let more = left-more c.args.pairs.now i c.pair-item.result c.loop-pair-test.true c.pair-item.is in
    let all : fold min first left ≡ fold min MAX (map f c.args.pairs.now) =
    ap (λ (t : ℕ). fold min t left) (search rules) ∙ sym (ap (λ (ps : List PairRecord). fold min c.loop-pair.first.0 (map f ps)) more) ∙ c.loop-pair.invariant in
    let below = least-below first left in
    let by : first ≤ c.args.from.0 = search rules in
    omega (arith, all, below, by)

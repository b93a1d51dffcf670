use Rattle.is_rules.proofs.Common.{[], ◌+◌, ◌∷◌, drop, drop_all, List, multiset_of, None, PairRecord, subst, sym}
use Rattle.is_rules.proofs.PairLists.VisitedPairs.{left-more}
use Rattle.is_rules.proofs.FunctionProofs.NextAsked.{IsVisited, visited-all, visited-more, visited-none}
use Rattle.is_rules.proofs.leaving.asked_next.Goals as goal

pub loop-pair-init : goal.loop-pair-init
loop-pair-init c =
    let all = multiset_of c.args.pairs.now in
    let a = c.args.along.now in (
      [],
      subst (λ (xs : List PairRecord). IsVisited a.number a.silence all [] xs None) (sym c.as_slice-pair-items.ensures)
          (visited-none a.number a.silence all),
    )

pub loop-pair-preserved : goal.loop-pair-preserved
loop-pair-preserved c =
    let so_far = c.loop-pair.invariant in
    let a = c.args.along.now in
    let items = c.as_slice-pair-items.result.now in
    let i = c.loop-pair.pair-index in
    let x = c.pair-item.result in
    let more = left-more items i x c.loop-pair-test.true c.pair-item.is in (
      x ∷ so_far.0,
      visited-more a.number a.silence (multiset_of c.args.pairs.now) so_far.0 (drop i items) (drop (i + 1) items) x _ _ more so_far.1
          (c.earlier-first.ensures so_far.0 so_far.1.0),
    )

pub returns : goal.returns
returns c =
    let so_far = c.loop-pair.invariant in
    let a = c.args.along.now in
    let none = drop_all c.loop-pair.pair-index c.as_slice-pair-items.result.now c.loop-pair-test.false in
    visited-all a.number a.silence (multiset_of c.args.pairs.now) so_far.0 _ _ none so_far.1

use Rattle.is_rules.proofs.Common.{[], ◌+◌, ◌∷◌, drop, drop_all, List, multiset_of, None, PairRecord, subst, sym}
use Rattle.is_rules.proofs.PairLists.VisitedPairs.{left-more}
use Rattle.is_rules.proofs.FunctionProofs.NextAhead.{IsVisited, visited-all, visited-more, visited-none}
use Rattle.is_rules.proofs.kinds.first_in_round.Goals as goal

pub loop-pair-init : goal.loop-pair-init
loop-pair-init c =
    let r = c.args.round.now in
    let all = multiset_of c.args.pairs.now in
    record {
      visited = (
        [],
        subst (λ (xs : List PairRecord). IsVisited r.kinds.now.local.now r.kinds.now.remote.now r.precedence r.next r.time.0 r.timing.now all [] xs None)
            (sym c.as_slice-pair-items.ensures) (visited-none r.kinds.now.local.now r.kinds.now.remote.now r.precedence r.next r.time.0 r.timing.now all),
      );
      turn = tt;
      due = tt;
    }

pub loop-pair-preserved : goal.loop-pair-preserved
loop-pair-preserved c =
    let r = c.args.round.now in
    let so_far = c.loop-pair.invariant.visited in
    let items = c.as_slice-pair-items.result.now in
    let i = c.loop-pair.pair-index in
    let x = c.pair-item.result in
    let more = left-more items i x c.loop-pair-test.true c.pair-item.is in
    record {
      visited = (
        x ∷ so_far.0,
        visited-more r.kinds.now.local.now r.kinds.now.remote.now r.precedence r.next r.time.0 r.timing.now (multiset_of c.args.pairs.now) so_far.0 (drop i items)
            (drop (i + 1) items) x _ _ more so_far.1 (c.earlier-first.ensures.next so_far.0 so_far.1.0),
      );
      turn = c.earlier-first.ensures.turn;
      due = c.earlier-first.ensures.due;
    }

pub returns : goal.returns
returns c =
    let r = c.args.round.now in
    let so_far = c.loop-pair.invariant.visited in
    let none = drop_all c.loop-pair.pair-index c.as_slice-pair-items.result.now c.loop-pair-test.false in
    visited-all r.kinds.now.local.now r.kinds.now.remote.now r.precedence r.next r.time.0 r.timing.now (multiset_of c.args.pairs.now) so_far.0 _ _ none so_far.1

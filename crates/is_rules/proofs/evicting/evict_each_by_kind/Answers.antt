use Rattle.is_rules.proofs.Common.{[], ◌∷◌, ap, arith, is_numbered, length, multiset_of, refl}
use Rattle.is_rules.proofs.PairLists.PairsInLists.{placed-without}
use Rattle.is_rules.proofs.PairLists.RemovedInTurn.{shorter}
use Rattle.is_rules.proofs.evicting.evict_each_by_kind.Goals as goal

pub returns-then-len-limit-clause-evicted : goal.returns-then-len-limit-clause-evicted
returns-then-len-limit-clause-evicted c =
    ([], (omega (arith, c.if-len-limit.true, c.len.ensures), refl))

pub loop-counts-init : goal.loop-counts-init
loop-counts-init c = record {
  drops = λ gone end h. (gone, h);
  counted = c.kind_counts-counts.ensures;
  placed = c.requires.placed;
  below = λ n h. h;
}

pub loop-counts-smaller : goal.loop-counts-smaller
loop-counts-smaller c =
    let one = c.evict_one.ensures.one c.if-not-evict_one.false in
    let less = shorter (multiset_of c.loop-counts.pairs) one.0 one.1.1.0 in
    let left = ap length one.2 in
    omega (arith, less, left)

pub loop-counts-preserved : goal.loop-counts-preserved
loop-counts-preserved c =
    let one = c.evict_one.ensures.one c.if-not-evict_one.false in
    let p = one.0 in
    let kinds = c.args.kinds.now in
    record {
      drops = λ gone end h. c.loop-counts.invariant.drops (p ∷ gone) end (omega (arith, c.loop-counts-test.true, c.len-in-loop-counts.ensures), one.1, rw (one.2) at h);
      counted = c.evict_one.ensures.counted;
      placed = rw one.2 (placed-without kinds.local.now kinds.remote.now (is_numbered p.number) (multiset_of c.loop-counts.pairs) c.loop-counts.invariant.placed);
      below = λ n h. c.evict_one.ensures.below n (c.loop-counts.invariant.below n h);
    }

pub returns-clause-evicted : goal.returns-clause-evicted
returns-clause-evicted c = c.loop-counts.invariant.drops [] (multiset_of c.loop-counts.pairs) (omega (arith, c.loop-counts-test.false, c.len-in-loop-counts.ensures), refl)

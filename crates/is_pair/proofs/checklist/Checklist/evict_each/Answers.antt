use Rattle.is_pair.proofs.Common.{[], ◌++◌, ◌∙◌, ◌∷◌, ap, append-nil, append_assoc, arith, Evicted, EvictsInTurn, IsLeast, length, List}
use Rattle.is_pair.proofs.Common.{multiset_of, PairRecord, refl, removed_after, removed_of, subst, sym}
use Rattle.is_pair.proofs.PriorityOrder.LeastPair.{shrinks}
use Rattle.is_pair.proofs.RemovedPairs.{after-some, filter-only, none-evicted}
use Rattle.is_pair.proofs.checklist.Checklist.evict_each.Goals as goal

pub loop-self-init : goal.loop-self-init
loop-self-init c = record {
  evicted = none-evicted c.args.limit (multiset_of c.args.self.now) c.args.self.now.removed;
  room = λ n h. h;
  check_room = λ limit h. h;
  below = λ n h. h;
}

pub loop-self-smaller : goal.loop-self-smaller
loop-self-smaller c =
    let least : IsLeast (multiset_of c.loop-self.self) c.in-Some.least.now = c.in-Some.ensures in
    let less = shrinks (multiset_of c.loop-self.self) c.in-Some.least.now c.id-number.result.0 least.0 (sym c.id-number.ensures) in
    omega (arith, less, ap length c.remove.ensures.left)

pub loop-self-preserved : goal.loop-self-preserved
loop-self-preserved c =
    let old = multiset_of c.args.self.now in
    let mid = multiset_of c.loop-self.self in
    let p = c.in-Some.least.now in
    let least : IsLeast mid p = c.in-Some.ensures in
    let so-far = c.loop-self.invariant.evicted in
    let one = filter-only c.id-number.result.0 mid p c.loop-self.self.rising least.0 (sym c.id-number.ensures) in
    let listed = c.remove.ensures.removed ∙ ap (λ (ps : List PairRecord). removed_after (λ p. Evicted) ps (removed_of c.loop-self.self)) one in
    record {
      evicted = (
        so-far.0 ++ p ∷ [],
        λ rest new h. subst (λ (ps : List PairRecord). EvictsInTurn c.args.limit ps old new) (sym (append_assoc so-far.0 (p ∷ []) rest))
            (so-far.1 (p ∷ rest) new (omega (arith, c.loop-self-test.true, c.len.ensures), least, rw (c.remove.ensures.left, c.id-number.ensures) at h)),
        after-some (λ p. Evicted) so-far.0 (p ∷ []) (removed_of c.args.self.now) (removed_of c.loop-self.self) (removed_of c.remove.new.self) so-far.2 listed,
      );
      room = λ n h. c.remove.ensures.room n (c.loop-self.invariant.room n h);
      check_room = λ limit h. c.remove.ensures.check_room limit (c.loop-self.invariant.check_room limit h);
      below = λ n h. c.remove.ensures.below n (c.loop-self.invariant.below n h);
    }

pub returns-clause-evicted : goal.returns-clause-evicted
returns-clause-evicted c =
    let so-far = c.loop-self.invariant.evicted in
    (so-far.0 ++ [], so-far.1 [] (multiset_of c.loop-self.self) (omega (arith, c.loop-self-test.false, c.len.ensures), refl))

pub returns-clause-removed : goal.returns-clause-removed
returns-clause-removed c =
    let so-far = c.loop-self.invariant.evicted in (
      so-far.0 ++ [],
      so-far.1 [] (multiset_of c.loop-self.self) (omega (arith, c.loop-self-test.false, c.len.ensures), refl),
      so-far.2 ∙ ap (λ (ps : List PairRecord). removed_after (λ p. Evicted) ps (removed_of c.args.self.now)) (sym (append-nil so-far.0)),
    )

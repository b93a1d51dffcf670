use Rattle.is_rules.proofs.Common.{[], ◌-◌, ◌<◌, ◌∙◌, ◌∷◌, arith, length-set, refl, slice_index, slice_index_or}
use Rattle.is_rules.proofs.lowest.counts_that_stay.Goals as goal

pub returns-then-stays-kind-eq0 : goal.returns-then-stays-kind-eq0
returns-then-stays-kind-eq0 c = c.loop-left.invariant.takes [] c.loop-left.stays refl

pub loop-left-preserved : goal.loop-left-preserved
loop-left-preserved c =
    let stays = c.loop-left.stays in
    let kind = c.most_numerous-kind.result in
    let some : 0 < slice_index stays kind = omega (arith, c.if-stays-kind-eq0.false) in
    record {
      takes = λ kinds end h.
          c.loop-left.invariant.takes (kind ∷ kinds) end (c.loop-left-test.true, c.most_numerous-kind.ensures.within, some, c.most_numerous-kind.ensures.most, h);
      long = length-set stays kind (slice_index_or stays kind 0 - 1) ∙ c.loop-left.invariant.long;
    }

pub returns : goal.returns
returns c = c.loop-left.invariant.takes [] c.loop-left.stays refl

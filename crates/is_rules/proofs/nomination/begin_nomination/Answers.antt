use Rattle.is_rules.proofs.Common.{◌∙◌, multiset_of, refl, renominated}
use Rattle.is_rules.proofs.PairLists.PairsInLists.{changed-has, placed-changed}
use Rattle.is_rules.proofs.nomination.begin_nomination.Goals as goal

pub returns-then-begins-clause-placed : goal.returns-then-begins-clause-placed
returns-then-begins-clause-placed c = λ local remote placed.
    rw (c.change.ensures.changed)
    (placed-changed local remote c.args.number renominated (multiset_of c.args.pairs.now) (record { local = λ p. refl; remote = λ p. refl }) placed)

pub returns-then-begins-clause-has : goal.returns-then-begins-clause-has
returns-then-begins-clause-has c = λ has. rw (c.change.ensures.changed) (changed-has c.args.number (multiset_of c.args.pairs.now) ∙ has)

use Rattle.is_rules.proofs.Common.{◌∙◌, is_placed, multiset_of, refl, sides_view, with_priority_in}
use Rattle.is_rules.proofs.PairLists.PairsInLists.{mapped-there, placed-mapped}
use Rattle.is_rules.proofs.roles.reprioritize_all.Goals as goal

pub returns-clause-set : goal.returns-clause-set
returns-clause-set c =
    let s = c.args.sides in
    c.set_priorities.ensures.set
    ∙ mapped-there (is_placed s.local.now s.remote.now) _ (with_priority_in (sides_view s)) (λ p placed. rw (placed) refl) (multiset_of c.args.pairs.now) c.requires

pub returns-clause-placed : goal.returns-clause-placed
returns-clause-placed c =
    let s = c.args.sides in
    rw (returns-clause-set c)
    (placed-mapped s.local.now s.remote.now (with_priority_in (sides_view s)) (multiset_of c.args.pairs.now) (record { local = λ p. refl; remote = λ p. refl }) c.requires)

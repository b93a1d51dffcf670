use Rattle.is_rules.proofs.Common.{◌≡◌, drop, first_after, first_numbered, multiset_of, option_copied}
use Rattle.is_rules.proofs.nomination.followed_by_number.Given as goal

-- what is left, after the first one so far, has the same first one as all
abbrev pub invariant-loop-pair : goal.invariant-loop-pair
invariant-loop-pair l =
    first_after l.controlling l.selected (option_copied l.first) (drop l.pair-index l.pair-items) ≡ first_numbered l.controlling l.selected (multiset_of l.pairs)

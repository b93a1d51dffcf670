-- Which pairs are equal, and which come first.
use Rattle.std.specs.Prelude.{Bool, ◌==◌}
use Rattle.std.specs.declared.cmp.Ordering.{Ordering}
use Rattle.std.specs.Ordering.{nat_cmp, on, flip_args, then_cmp, eq_of_both}
use Rattle.is_pair.specs.Pairs.{PairRecord}

-- equal candidate indices and equal priorities
abbrev pub are_equal_pairs : PairRecord → PairRecord → Bool
are_equal_pairs =
    eq_of_both (on (λ p. p.priority) ◌==◌) (eq_of_both (on (λ p. p.local) ◌==◌) (on (λ p. p.remote) ◌==◌))

-- the greater priority first, then the smaller local index, then the smaller remote index
abbrev pub pair_cmp : PairRecord → PairRecord → Ordering
pair_cmp =
    then_cmp (flip_args (on (λ p. p.priority) nat_cmp)) (then_cmp (on (λ p. p.local) nat_cmp) (on (λ p. p.remote) nat_cmp))

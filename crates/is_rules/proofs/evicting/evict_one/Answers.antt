use Rattle.is_rules.proofs.Common.{[], ◌+◌, ◌-◌, ◌<◌, ◌==◌, ◌∙◌, ◌≡◌, ◌≤◌, ap, arith, Bool, eq-eqb, false, get_or-set_other}
use Rattle.is_rules.proofs.Common.{get_or-set_same, is_numbered, is_of_kind, IsLeastOfKind, kind_count, kind_of, length, List, multiset_of}
use Rattle.is_rules.proofs.Common.{nat_tests, None, one_if, PairRecord, refl, rules, slice_index, slice_index_or, slice_set, Some, true}
use Rattle.is_rules.proofs.Common.{without, ℕ}
use Rattle.is_rules.proofs.FunctionProofs.EvictedPairsByKind.{count-goes}
use Rattle.is_rules.proofs.PairLists.LeastOfKind.{lowest-of-most, most-counted}
use Rattle.is_rules.proofs.PairLists.RisingNumbers.{rising-each}
use Rattle.is_rules.proofs.evicting.evict_one.Goals as goal

-- one count falls by one
lowered : (counts : List ℕ) (k kind : ℕ) → k < length counts → 1 ≤ slice_index_or counts k 0
    → slice_index (slice_set counts k (slice_index_or counts k 0 - 1)) kind + one_if (k == kind) ≡ slice_index counts kind
lowered counts k kind within some = by (k == kind) refl where
  by : (b : Bool) → k == kind ≡ b → slice_index (slice_set counts k (slice_index_or counts k 0 - 1)) kind + one_if b ≡ slice_index counts kind
  by true is = grind (arith, nat_tests, get_or-set_same, is, within, some)
  by false is = grind (arith, nat_tests, get_or-set_other, is)

-- the pair counts for its own kind
counts-least : (kinds : PairRecord → ℕ) (kind : ℕ) (pairs : List PairRecord) (p : PairRecord) → is_of_kind kinds kind p ≡ true
    → kind_count kinds pairs kind ≡ kind_count kinds (without (is_numbered p.number) pairs) kind + one_if (is_of_kind kinds kind p) → 1 ≤ kind_count kinds pairs kind
counts-least kinds kind pairs p its is = let one : one_if (is_of_kind kinds kind p) ≡ 1 = ap one_if its in omega (arith, is, one)

pub overflow_sub-counts : goal.overflow_sub-counts
overflow_sub-counts c =
    let kinds = kind_of c.args.kinds.now.local.now c.args.kinds.now.remote.now in
    let pairs = multiset_of c.args.pairs.now in
    let kind = c.most_numerous-kind.result in
    let least : IsLeastOfKind kinds kind pairs (Some c.in-Some.least.now) = c.in-Some.ensures in
    let p = c.in-Some.least.now in
    let goes = count-goes (is_of_kind kinds kind) p.number pairs p (rising-each pairs c.numbers_rise.ensures) least.0 refl in
    let some = counts-least kinds kind pairs p (eq-eqb (kinds p) kind least.1) goes in
    let counted = c.requires.counted kind c.most_numerous-kind.ensures.within in
    omega (arith, some, counted)

pub returns-in-None-clause-none : goal.returns-in-None-clause-none
returns-in-None-clause-none c = λ is.
    let kinds = kind_of c.args.kinds.now.local.now c.args.kinds.now.remote.now in
    let pairs = multiset_of c.args.pairs.now in
    let kind = c.most_numerous-kind.result in
    let none : pairs ≡ [] = lowest-of-most kinds kind pairs None
    (most-counted c.args.kinds.now.local.now c.args.kinds.now.remote.now pairs c.args.counts.now kind c.requires.counted c.most_numerous-kind.ensures.within c.most_numerous-kind.ensures.most) c.in-None.ensures in
    (none, none)

pub returns-in-Some-clause-one : goal.returns-in-Some-clause-one
returns-in-Some-clause-one c = λ is.
    let kinds = kind_of c.args.kinds.now.local.now c.args.kinds.now.remote.now in
    let pairs = multiset_of c.args.pairs.now in
    let kind = c.most_numerous-kind.result in
    let p = c.in-Some.least.now in
    let most = most-counted c.args.kinds.now.local.now c.args.kinds.now.remote.now pairs c.args.counts.now kind c.requires.counted c.most_numerous-kind.ensures.within c.most_numerous-kind.ensures.most in
    (p, lowest-of-most kinds kind pairs (Some p) most c.in-Some.ensures, c.remove.ensures.left ∙ ap (λ n. without (is_numbered n) pairs) c.id-number.ensures)

pub returns-in-Some-clause-counted : goal.returns-in-Some-clause-counted
returns-in-Some-clause-counted c = λ other less.
    let kinds = kind_of c.args.kinds.now.local.now c.args.kinds.now.remote.now in
    let pairs = multiset_of c.args.pairs.now in
    let kind = c.most_numerous-kind.result in
    let least : IsLeastOfKind kinds kind pairs (Some c.in-Some.least.now) = c.in-Some.ensures in
    let p = c.in-Some.least.now in
    let rising = rising-each pairs c.numbers_rise.ensures in
    let own = count-goes (is_of_kind kinds kind) p.number pairs p rising least.0 refl in
    let some = counts-least kinds kind pairs p (eq-eqb (kinds p) kind least.1) own in
    let held = c.requires.counted kind c.most_numerous-kind.ensures.within in
    let goes : kind_count kinds pairs other ≡ kind_count kinds (without (is_numbered p.number) pairs) other + one_if (kinds p == other) =
    count-goes (is_of_kind kinds other) p.number pairs p rising least.0 refl in
    let same : one_if (kinds p == other) ≡ one_if (kind == other) = ap (λ k. one_if (k == other)) least.1 in
    let counted = c.requires.counted other less in
    let within : kind < length c.args.counts.now = (let below = c.most_numerous-kind.ensures.within in search (arith, rules, below)) in
    let down = lowered c.args.counts.now kind other within (omega (arith, some, held)) in
    let left : kind_count kinds (multiset_of c.remove.new.self) other ≡ kind_count kinds (without (is_numbered p.number) pairs) other =
    ap (λ ps. kind_count kinds ps other) (c.remove.ensures.left ∙ ap (λ n. without (is_numbered n) pairs) c.id-number.ensures) in
    omega (arith, goes, same, counted, down, left)

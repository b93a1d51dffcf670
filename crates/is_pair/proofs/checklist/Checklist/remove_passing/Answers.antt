use Rattle.std.proofs.lemmas.List.Sorted.{IsPermutation-reverse}
use Rattle.is_pair.proofs.Common.{◌+◌, ◌∙◌, ◌≡◌, ◌≤◌, ap, are_below, are_fewer, are_ordered, are_single, arith, Bool}
use Rattle.is_pair.proofs.Common.{filter, has_number, ids_rise, keep_fewer, Kept, length, List, listed_by, nat_lt, not}
use Rattle.is_pair.proofs.Common.{IsRanking, PairRecord, pairs_of, Rank, reverse, rises, subst, sym, true, vec_len, ℕ}
use Rattle.is_pair.proofs.ChecklistIndex.SortedById.{rising-filter}
use Rattle.is_pair.proofs.PairEntries.ChangedEntry.{all-filter, rises-filter}
use Rattle.is_pair.proofs.PairEntries.AddedAndRemovedPairs.{index-left, ranking-left}
use Rattle.is_pair.proofs.PriorityOrder.OrderedPairs.{ordered-filter, ranking-reversed}
use Rattle.is_pair.proofs.PriorityOrder.SingleEntries.{single-filter, single-permuted}
use Rattle.is_pair.proofs.PriorityOrder.RankedPairs.{count-ranked, have-ranks}
use Rattle.is_pair.proofs.RemovedPairs.{few-pass, fits-fewer, gone-left, listed-counts}
use Rattle.is_pair.proofs.checklist.Checklist.remove_passing.Goals as goal

pub invariant_of-self-clause-rising : goal.invariant_of-self-clause-rising
invariant_of-self-clause-rising g c =
    let stays = λ (p : PairRecord). not (g.T.PairTest.passes c.args.test.now p) in
    ap rises c.drop_passing.ensures.left ∙ rises-filter stays c.args.self.now.pairs.items c.args.self.now.rising

pub invariant_of-self-clause-indexed : goal.invariant_of-self-clause-indexed
invariant_of-self-clause-indexed g c =
    index-left (λ (p : PairRecord). not (g.T.PairTest.passes c.args.test.now p)) c.args.self.now.pairs.items c.drop_passing.new.pairs.items c.args.self.now.index.items c.keep_known.new.index.items
    c.args.self.now.rising c.drop_passing.ensures.left (c.keep_known.ensures.items ∙ ap (λ (ps : List PairRecord). filter (λ (k : Kept). has_number k.number ps) c.args.self.now.index.items) c.deref-3.ensures.value) c.args.self.now.indexed

pub invariant_of-self-clause-ordered : goal.invariant_of-self-clause-ordered
invariant_of-self-clause-ordered g c =
    ap are_ordered (c.keep_known-2.ensures.items ∙ ap (λ (ps : List PairRecord). filter (λ (r : Rank). has_number r.number ps) c.args.self.now.ranks.items) c.deref-4.ensures.value) ∙ ordered-filter (λ (r : Rank). has_number r.number c.drop_passing.new.pairs.items) c.args.self.now.ranks.items c.args.self.now.ordered

pub invariant_of-self-clause-ranked : goal.invariant_of-self-clause-ranked
invariant_of-self-clause-ranked g c =
    ranking-left (λ (p : PairRecord). not (g.T.PairTest.passes c.args.test.now p)) c.args.self.now.pairs.items c.drop_passing.new.pairs.items c.args.self.now.ranks.items c.keep_known-2.new.ranks.items
    c.args.self.now.rising c.drop_passing.ensures.left (c.keep_known-2.ensures.items ∙ ap (λ (ps : List PairRecord). filter (λ (r : Rank). has_number r.number ps) c.args.self.now.ranks.items) c.deref-4.ensures.value) c.args.self.now.ranked

pub invariant_of-self-clause-by_id : goal.invariant_of-self-clause-by_id
invariant_of-self-clause-by_id g c =
    ap ids_rise (c.keep_known.ensures.items ∙ ap (λ (ps : List PairRecord). filter (λ (k : Kept). has_number k.number ps) c.args.self.now.index.items) c.deref-3.ensures.value) ∙ rising-filter (λ (k : Kept). has_number k.number c.drop_passing.new.pairs.items) c.args.self.now.index.items c.args.self.now.by_id

pub returns-clause-check_room : goal.returns-clause-check_room
returns-clause-check_room g c = λ limit h.
    let stays = λ (p : PairRecord). not (g.T.PairTest.passes c.args.test.now p) in
    let fewer = ap (keep_fewer limit _) c.drop_passing.ensures.left ∙ all-filter (λ (p : PairRecord). are_fewer limit _ (length p.checks)) stays c.args.self.now.pairs.items h.2 in
    (omega (arith, h.0, c.keep_known.ensures.within, c.keep_known.ensures.capacity), h.1, fewer)

pub returns-clause-below : goal.returns-clause-below
returns-clause-below g c = λ n h.
    let stays = λ (p : PairRecord). not (g.T.PairTest.passes c.args.test.now p) in
    ap (are_below n) c.drop_passing.ensures.left ∙ all-filter (λ (p : PairRecord). nat_lt p.number n) stays c.args.self.now.pairs.items h

pub keep_known-requires : goal.keep_known-requires
keep_known-requires g c =
    let stays = λ (p : PairRecord). not (g.T.PairTest.passes c.args.test.now p) in
    record { numbers = ap rises c.deref-3.ensures.value ∙ ap rises c.drop_passing.ensures.left ∙ rises-filter stays c.args.self.now.pairs.items c.args.self.now.rising }

pub keep_known-requires-2 : goal.keep_known-requires-2
keep_known-requires-2 g c =
    let stays = λ (p : PairRecord). not (g.T.PairTest.passes c.args.test.now p) in
    record { rising = ap rises c.deref-4.ensures.value ∙ ap rises c.drop_passing.ensures.left ∙ rises-filter stays c.args.self.now.pairs.items c.args.self.now.rising }

pub invariant_of-self-clause-single : goal.invariant_of-self-clause-single
invariant_of-self-clause-single g c =
    ap are_single (c.keep_known-2.ensures.items ∙ ap (λ (ps : List PairRecord). filter (λ (r : Rank). has_number r.number ps) c.args.self.now.ranks.items) c.deref-4.ensures.value)
    ∙ single-filter (λ (r : Rank). has_number r.number c.drop_passing.new.pairs.items) c.args.self.now.ranks.items c.args.self.now.single

-- each of the pairs that pass comes once
all-listed : (t : PairRecord → Bool) (rs : List Rank) (ps : List PairRecord) → rises ps ≡ true → are_single rs ≡ true → IsRanking rs ps
    → length (filter t (pairs_of (reverse rs) ps)) ≡ length (filter t ps)
all-listed t rs ps rising single ranked =
    count-ranked t (reverse rs) ps rising (single-permuted rs (reverse rs) (IsPermutation-reverse rs) single)
    (have-ranks ps (reverse rs) rising (ranking-reversed rs ps ranked) t)

-- as many are listed as go
listed-few : (by_priority : Bool) (t : PairRecord → Bool) (rs given : List Rank) (ps seen left : List PairRecord) (before after : ℕ) → given ≡ rs → seen ≡ ps
    → length (filter t (pairs_of (reverse rs) ps)) ≡ length (filter t ps)
    → left ≡ filter (λ (p : PairRecord). not (t p)) ps → before ≡ length ps → after ≡ length left
    → length (filter t (listed_by by_priority given seen)) + after ≡ before
listed-few by_priority t rs given ps seen left before after one two counts is first last =
    let all = ap (λ (qs : List PairRecord). length (filter t (listed_by by_priority given qs))) two
    ∙ ap (λ (xs : List Rank). length (filter t (listed_by by_priority xs ps))) one ∙ listed-counts by_priority t rs ps counts in
    gone-left t ps left (length (filter t (listed_by by_priority given seen))) before after all is first last

pub keep_passing-requires-clause-ranked : goal.keep_passing-requires-clause-ranked
keep_passing-requires-clause-ranked g c =
    let list = c.args.self.now in
    let test = g.T.PairTest.passes c.args.test.now in
    let counts = all-listed test list.ranks.items list.pairs.items list.rising list.single list.ranked in
    let few = few-pass test list.pairs.items in
    subst (λ (qs : List PairRecord). length (filter test (pairs_of (reverse c.deref-2.result.now) qs)) ≤ length qs) (sym c.deref.ensures.value)
    (subst (λ (xs : List Rank). length (filter test (pairs_of (reverse xs) list.pairs.items)) ≤ length list.pairs.items) (sym c.deref-2.ensures.value)
    (omega (arith, counts, few)))

pub invariant_of-self-clause-fit : goal.invariant_of-self-clause-fit
invariant_of-self-clause-fit g c =
    let list = c.args.self.now in
    let test = g.T.PairTest.passes c.args.test.now in
    let counts = all-listed test list.ranks.items list.pairs.items list.rising list.single list.ranked in
    let gone = length (filter test (listed_by c.args.by_priority c.deref-2.result.now c.deref.result.now)) in
    let left = vec_len c.drop_passing.new.pairs in
    let all = listed-few c.args.by_priority test list.ranks.items c.deref-2.result.now list.pairs.items c.deref.result.now c.drop_passing.new.pairs.items
    (vec_len list.pairs) left c.deref-2.ensures.value c.deref.ensures.value counts c.drop_passing.ensures.left c.len_is.ensures c.len_is-2.ensures in
    c.keep_passing.ensures.room left (fits-fewer (gone + left) (vec_len list.pairs) list.removed (omega (arith, all)) list.fit)

pub returns-clause-room : goal.returns-clause-room
returns-clause-room g c = λ n h.
    let list = c.args.self.now in
    let test = g.T.PairTest.passes c.args.test.now in
    let counts = all-listed test list.ranks.items list.pairs.items list.rising list.single list.ranked in
    let gone = length (filter test (listed_by c.args.by_priority c.deref-2.result.now c.deref.result.now)) in
    let left = vec_len c.drop_passing.new.pairs in
    let all = listed-few c.args.by_priority test list.ranks.items c.deref-2.result.now list.pairs.items c.deref.result.now c.drop_passing.new.pairs.items
    (vec_len list.pairs) left c.deref-2.ensures.value c.deref.ensures.value counts c.drop_passing.ensures.left c.len_is.ensures c.len_is-2.ensures in (
      omega (arith, h.0, c.drop_passing.ensures.within, c.drop_passing.ensures.capacity),
      omega (arith, h.1, c.keep_known-2.ensures.within, c.keep_known-2.ensures.capacity),
      c.keep_passing.ensures.room (left + n) (fits-fewer (gone + (left + n)) (vec_len list.pairs + n) list.removed (omega (arith, all)) h.2),
    )

use Rattle.is_pair.proofs.Common.{◌+◌, ◌==◌, ◌∙◌, ap, are_below, are_fewer, are_ordered, are_single, arith}
use Rattle.is_pair.proofs.Common.{filter, ids_rise, is_numbered, keep_fewer, Kept, length, List, nat_lt, not, PairRecord, Rank}
use Rattle.is_pair.proofs.Common.{rises, vec_len}
use Rattle.is_pair.proofs.ChecklistIndex.SortedById.{rising-filter}
use Rattle.is_pair.proofs.PairEntries.ChangedEntry.{all-filter, rises-filter}
use Rattle.is_pair.proofs.PairEntries.RemovedPair.{index-without, ranking-without}
use Rattle.is_pair.proofs.PriorityOrder.OrderedPairs.{ordered-filter}
use Rattle.is_pair.proofs.PriorityOrder.SingleEntries.{single-filter}
use Rattle.is_pair.proofs.RemovedPairs.{fits-fewer, gone-left}
use Rattle.is_pair.proofs.checklist.Checklist.remove.Goals as goal

pub invariant_of-self-clause-rising : goal.invariant_of-self-clause-rising
invariant_of-self-clause-rising c =
    ap rises c.take_out.ensures.left ∙ rises-filter (λ (p : PairRecord). not (is_numbered c.args.number p)) c.args.self.now.pairs.items c.args.self.now.rising

pub invariant_of-self-clause-by_id : goal.invariant_of-self-clause-by_id
invariant_of-self-clause-by_id c =
    ap ids_rise c.drop_number.ensures.items ∙ rising-filter (λ (k : Kept). not (k.number == c.args.number)) c.args.self.now.index.items c.args.self.now.by_id

pub invariant_of-self-clause-indexed : goal.invariant_of-self-clause-indexed
invariant_of-self-clause-indexed c =
    index-without c.args.number c.args.self.now.pairs.items c.take_out.new.pairs.items c.args.self.now.index.items c.drop_number.new.index.items
    c.take_out.ensures.left c.drop_number.ensures.items c.args.self.now.indexed

pub invariant_of-self-clause-ordered : goal.invariant_of-self-clause-ordered
invariant_of-self-clause-ordered c =
    ap are_ordered c.drop_number-2.ensures.items ∙ ordered-filter (λ (r : Rank). not (r.number == c.args.number)) c.args.self.now.ranks.items c.args.self.now.ordered

pub invariant_of-self-clause-ranked : goal.invariant_of-self-clause-ranked
invariant_of-self-clause-ranked c =
    ranking-without c.args.number c.args.self.now.pairs.items c.take_out.new.pairs.items c.args.self.now.ranks.items c.drop_number-2.new.ranks.items
    c.take_out.ensures.left c.drop_number-2.ensures.items c.args.self.now.ranked

pub returns-clause-check_room : goal.returns-clause-check_room
returns-clause-check_room c = λ limit h.
    let fewer = ap (keep_fewer limit _) c.take_out.ensures.left ∙ all-filter (λ (p : PairRecord). are_fewer limit _ (length p.checks)) (λ (p : PairRecord). not (is_numbered c.args.number p)) c.args.self.now.pairs.items h.2 in
    (omega (arith, h.0, c.drop_number.ensures.within, c.drop_number.ensures.capacity), h.1, fewer)

pub returns-clause-below : goal.returns-clause-below
returns-clause-below c = λ n h.
    ap (are_below n) c.take_out.ensures.left ∙ all-filter (λ (p : PairRecord). nat_lt p.number n) (λ (p : PairRecord). not (is_numbered c.args.number p)) c.args.self.now.pairs.items h

pub invariant_of-self-clause-single : goal.invariant_of-self-clause-single
invariant_of-self-clause-single c =
    ap are_single c.drop_number-2.ensures.items ∙ single-filter (λ (r : Rank). not (r.number == c.args.number)) c.args.self.now.ranks.items c.args.self.now.single

pub invariant_of-self-clause-fit : goal.invariant_of-self-clause-fit
invariant_of-self-clause-fit c =
    let list = c.args.self.now in
    let test = is_numbered c.args.number in
    let gone = length (filter test c.deref.result.now) in
    let left = vec_len c.take_out.new.pairs in
    let all = gone-left test list.pairs.items c.take_out.new.pairs.items gone (vec_len list.pairs) left
    (ap (λ (ps : List PairRecord). length (filter test ps)) c.deref.ensures.value) c.take_out.ensures.left c.len_is.ensures c.len_is-2.ensures in
    c.keep_numbered.ensures.room left (fits-fewer (gone + left) (vec_len list.pairs) list.removed (omega (arith, all)) list.fit)

pub returns-clause-room : goal.returns-clause-room
returns-clause-room c = λ n h.
    let list = c.args.self.now in
    let test = is_numbered c.args.number in
    let gone = length (filter test c.deref.result.now) in
    let left = vec_len c.take_out.new.pairs in
    let all = gone-left test list.pairs.items c.take_out.new.pairs.items gone (vec_len list.pairs) left
    (ap (λ (ps : List PairRecord). length (filter test ps)) c.deref.ensures.value) c.take_out.ensures.left c.len_is.ensures c.len_is-2.ensures in (
      omega (arith, h.0, c.take_out.ensures.within, c.take_out.ensures.capacity),
      omega (arith, h.1, c.drop_number-2.ensures.within, c.drop_number-2.ensures.capacity),
      c.keep_numbered.ensures.room (left + n) (fits-fewer (gone + (left + n)) (vec_len list.pairs + n) list.removed (omega (arith, all)) h.2),
    )

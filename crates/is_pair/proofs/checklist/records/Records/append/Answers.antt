use Rattle.is_pair.proofs.Common.{[], ◌++◌, ◌∙◌, ◌∷◌, ◌≡◌, ap, arith, deque_len, joined, length, List, Long, long_count, Place, RemovedPair, rules, Short}
use Rattle.is_pair.proofs.ShortRecords.{count-both, joined-long, joined-short, long-few}
use Rattle.is_pair.proofs.checklist.records.Records.append.Goals as goal

pub invariant_of-self : goal.invariant_of-self
invariant_of-self c =
    let count = count-both c.args.self.now.places.items (Short c.in-Some.record ∷ []) in
    record {
      counted = ap long_count c.push_back_reserved.ensures.items ∙ count ∙ omega (arith, c.args.self.now.counted);
      few = omega (arith, c.push_back_reserved.ensures.len, c.requires.few);
    }

pub push_back_reserved-requires-in-None-2 : goal.push_back_reserved-requires-in-None-2
push_back_reserved-requires-in-None-2 c =
    let few = long-few c.args.self.now.places.items in
    let is : length c.args.self.now.places.items ≡ deque_len c.args.self.now.places = search rules in
    omega (arith, few, is, c.args.self.now.counted, c.requires.few, c.requires.room.1)

pub invariant_of-self-in-None : goal.invariant_of-self-in-None
invariant_of-self-in-None c =
    let count = count-both c.args.self.now.places.items (Long ∷ []) in
    record {
      counted = ap long_count c.push_back_reserved-in-None.ensures.items ∙ count
          ∙ omega (arith, c.args.self.now.counted, c.push_back_reserved-in-None-2.ensures.len);
      few = omega (arith, c.push_back_reserved-in-None.ensures.len, c.requires.few);
    }

pub returns-in-Some-clause-appended : goal.returns-in-Some-clause-appended
returns-in-Some-clause-appended c =
    let old = c.args.self.now in
    ap (λ (ps : List Place). joined ps old.long.items) c.push_back_reserved.ensures.items
    ∙ joined-short old.places.items old.long.items c.in-Some.record
    ∙ ap (λ (r : RemovedPair). joined old.places.items old.long.items ++ r ∷ []) c.in-Some.ensures.same

pub returns-in-None-clause-appended : goal.returns-in-None-clause-appended
returns-in-None-clause-appended c =
    let old = c.args.self.now in
    ap (λ (ps : List Place). joined ps c.push_back_reserved-in-None-2.new.self.items) c.push_back_reserved-in-None.ensures.items
    ∙ ap (λ (rs : List RemovedPair). joined (old.places.items ++ Long ∷ []) rs) c.push_back_reserved-in-None-2.ensures.items
    ∙ joined-long old.places.items old.long.items c.args.pair (old.counted ∙ search rules)

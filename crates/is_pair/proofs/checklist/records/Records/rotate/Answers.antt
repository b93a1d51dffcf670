use Rattle.is_pair.proofs.Common.{[], ◌++◌, ◌==◌, ◌∙◌, ◌∷◌, ◌≡◌, ap, arith, joined, length, List, Long, long_count, not, Place, RemovedPair, rules, Short, true}
use Rattle.is_pair.proofs.ShortRecords.{count-both, rotated-long, rotated-short}
use Rattle.is_pair.proofs.checklist.records.Records.rotate.Goals as goal

pub invariant_of-self : goal.invariant_of-self
invariant_of-self c =
    let rest = c.pop_front.new.self.items in
    let count = count-both rest (Short c.in-Some-Short.record ∷ []) in
    let was : c.args.self.now.places.items ≡ Short c.in-Some-Short.record ∷ rest = c.in-Some-Short.ensures.items ∙ ap (λ (p : Place). p ∷ rest) c.in-Some-Short.field-0-is in
    record {
      counted = ap long_count c.push_back_reserved.ensures.items ∙ count ∙ omega (arith, ap long_count was, c.args.self.now.counted);
      few = omega (arith, c.push_back_reserved.ensures.len, c.in-Some-Short.ensures.len, c.args.self.now.few);
    }

pub invariant_of-self-then-pair-remote : goal.invariant_of-self-then-pair-remote
invariant_of-self-then-pair-remote c =
    let rest = c.pop_front.new.self.items in
    let count = count-both rest (Long ∷ []) in
    let was : c.args.self.now.places.items ≡ Long ∷ rest = c.in-Some-Long.ensures.items ∙ ap (λ (p : Place). p ∷ rest) c.in-Some-Long.field-0-is in
    record {
      counted = ap long_count c.push_back_reserved-then-pair-remote.ensures.items ∙ count
          ∙ omega (arith, ap long_count was, c.args.self.now.counted, c.push_back_reserved-then-pair-remote-2.ensures.len, c.in-Some.ensures.len);
      few = omega (arith, c.push_back_reserved-then-pair-remote.ensures.len, c.in-Some-Long.ensures.len, c.args.self.now.few);
    }

pub returns-then-from-remote-clause-rotated : goal.returns-then-from-remote-clause-rotated
returns-then-from-remote-clause-rotated c =
    let old = c.args.self.now in
    let rest = c.pop_front.new.self.items in
    let s = c.in-Some-Short.record in
    let was : old.places.items ≡ Short s ∷ rest = c.in-Some-Short.ensures.items ∙ ap (λ (p : Place). p ∷ rest) c.in-Some-Short.field-0-is in
    let other : not (s.remote == c.args.remote) ≡ true = search rules in
    ap (λ (ps : List Place). joined ps old.long.items) c.push_back_reserved.ensures.items
    ∙ rotated-short (λ (r : RemovedPair). not (r.remote == c.args.remote)) old.places.items rest old.long.items s was other

pub returns-then-pair-remote-clause-rotated : goal.returns-then-pair-remote-clause-rotated
returns-then-pair-remote-clause-rotated c =
    let old = c.args.self.now in
    let rest = c.pop_front.new.self.items in
    let others = c.pop_front-in-Some-Long.new.self.items in
    let r = c.in-Some.pair in
    let was : old.places.items ≡ Long ∷ rest = c.in-Some-Long.ensures.items ∙ ap (λ (p : Place). p ∷ rest) c.in-Some-Long.field-0-is in
    let these : old.long.items ≡ r ∷ others = c.in-Some.ensures.items in
    let other : not (r.remote == c.args.remote) ≡ true = search rules in
    let same : long_count rest ≡ length others = omega (arith, ap long_count was, old.counted, ap length these) in
    ap (λ (ps : List Place). joined ps c.push_back_reserved-then-pair-remote-2.new.self.items) c.push_back_reserved-then-pair-remote.ensures.items
    ∙ ap (joined (rest ++ Long ∷ [])) c.push_back_reserved-then-pair-remote-2.ensures.items
    ∙ rotated-long (λ (x : RemovedPair). not (x.remote == c.args.remote)) old.places.items rest old.long.items others r was these same other

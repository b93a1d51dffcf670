use Rattle.is_pair.proofs.Common.{[], ◌++◌, ◌∙◌, ◌∷◌, ◌≡◌, ap, arith, deque_len, length, List, records_of, REMOVED_LIMIT, RemovedPair, rules}
use Rattle.is_pair.proofs.Common.{drop, drop-append-le, length-append, sym, ◌-◌, ◌≤◌, ℕ}
use Rattle.is_pair.specs.declared.checklist.records.Records.{Records}
use Rattle.is_pair.proofs.RemovedPairs.{last-few}
use Rattle.is_pair.proofs.ShortRecords.{joined-length}
use Rattle.is_pair.proofs.checklist.records.Records.push.Goals as goal
use Rattle.is_pair.proofs.checklist.records.Records.push.Goals.{then-len-ge-LIMIT, else-len-ge-LIMIT}

pub returns-clause-pushed : goal.returns-clause-pushed
returns-clause-pushed c =
    let list = c.args.self.now in
    let old = records_of list in
    let pair = c.args.pair in
    let count : length old ≡ deque_len list.places = joined-length list.places.items list.long.items (list.counted ∙ search rules) ∙ search rules in
    let all = length-append old (pair ∷ []) in
    elim c.if-len-ge-LIMIT.branch [
      | then-len-ge-LIMIT w ↦
          let one : length (old ++ pair ∷ []) - REMOVED_LIMIT ≡ 1 = omega (arith, all, count, list.few, w.if-len-ge-LIMIT.true, c.len.ensures) in
          let some : 1 ≤ length old = omega (arith, count, w.if-len-ge-LIMIT.true, c.len.ensures) in
          c.append.ensures.appended
          ∙ ap (λ (r : Records). records_of r ++ pair ∷ []) w.self-is
          ∙ ap (λ (rs : List RemovedPair). rs ++ pair ∷ []) w.drop_oldest.ensures.dropped
          ∙ sym (drop-append-le 1 old (pair ∷ []) some)
          ∙ ap (λ (n : ℕ). drop n (old ++ pair ∷ [])) (sym one)
      | else-len-ge-LIMIT w ↦
          c.append.ensures.appended
          ∙ ap (λ (r : Records). records_of r ++ pair ∷ []) w.self-is
          ∙ sym (last-few (old ++ pair ∷ []) (omega (arith, all, count, w.if-len-ge-LIMIT.false, c.len.ensures)))
    ]

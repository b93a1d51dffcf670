use Rattle.is_pair.proofs.Common.{[], ◌++◌, ◌+◌, ◌∷◌, ◌≤◌, arith, filter, length, length-append, records_of, rules, take}
use Rattle.is_pair.proofs.RemovedPairs.{after-more, after-none, few-records, few-taken, filter-more, filter-other, fits-fewer}
use Rattle.is_pair.proofs.checklist.removed.keep_by_number.Goals as goal
use Rattle.is_pair.proofs.checklist.removed.keep_by_number.Goals.{then-passes, else-passes}

pub loop-pair-init : goal.loop-pair-init
loop-pair-init g c = record {
  removed = after-none (g.T.PairRemoval.reason c.args.test.now) (records_of c.args.records.now) (few-records c.args.records.now);
  room = λ n h. fits-fewer n (0 + n) c.args.records.now (omega arith) h;
}

pub push-requires : goal.push-requires
push-requires g c =
    let gone = length (filter (g.T.PairTest.passes c.args.test.now) (take c.loop-pair.pair-index c.args.pairs.now)) in
    let few : gone ≤ c.loop-pair.pair-index = few-taken (g.T.PairTest.passes c.args.test.now) c.args.pairs.now c.loop-pair.pair-index in
    record {
      room = c.loop-pair.invariant.room 1
          (fits-fewer (gone + 1) (length c.args.pairs.now) c.args.records.now (omega (arith, few, c.loop-pair-test.true)) c.requires.room);
    }

pub loop-pair-preserved : goal.loop-pair-preserved
loop-pair-preserved g c =
    let ps = c.args.pairs.now in
    let p = c.pair-item.result in
    let i = c.loop-pair.pair-index in
    let test = g.T.PairTest.passes c.args.test.now in
    let reason = g.T.PairRemoval.reason c.args.test.now in
    let gone = filter test (take i ps) in
    let old = c.args.records.now in
    elim c.if-passes.branch [
      | then-passes w ↦
          let is = filter-more test ps i p c.loop-pair-test.true c.pair-item.is (search rules) in
          let kept = after-more reason gone p (records_of old) (records_of c.loop-pair.records) (records_of w.push.new.self) c.loop-pair.invariant.removed (search rules) in
          let more = length-append gone (p ∷ []) in
          rw w.records-is (rw is (record {
            removed = kept;
            room = λ n h. w.push.ensures.room n (c.loop-pair.invariant.room (n + 1)
                (fits-fewer (length gone + (n + 1)) (length (gone ++ p ∷ []) + n) old (omega (arith, more)) h));
          }))
      | else-passes w ↦
          let is = filter-other test ps i p c.loop-pair-test.true c.pair-item.is (search rules) in
          rw w.records-is (rw is c.loop-pair.invariant)
    ]

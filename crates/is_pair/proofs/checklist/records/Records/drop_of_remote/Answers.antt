use Rattle.is_pair.proofs.Common.{◌==◌, arith, not, records_of, RemovedPair}
use Rattle.is_pair.proofs.ShortRecords.{rotated-all, rotated-more}
use Rattle.is_pair.proofs.checklist.records.Records.drop_of_remote.Goals as goal

pub loop-preserved : goal.loop-preserved
loop-preserved c =
    let old = records_of c.args.self.now in
    record {
      rotated = rotated-more (λ (r : RemovedPair). not (r.remote == c.args.remote)) old (records_of c.loop.self) (records_of c.rotate.new.self) c.loop.counter
          (omega (arith, c.len-end.ensures.length, c.loop-test.true)) c.loop.invariant.rotated c.rotate.ensures.rotated;
      room = λ n h. c.rotate.ensures.room n (c.loop.invariant.room n h);
    }

pub returns-clause-dropped : goal.returns-clause-dropped
returns-clause-dropped c =
    rotated-all (λ (r : RemovedPair). not (r.remote == c.args.remote)) (records_of c.args.self.now) (records_of c.loop.self) c.loop.counter
    (omega (arith, c.len-end.ensures.length, c.loop-test.false)) c.loop.invariant.rotated

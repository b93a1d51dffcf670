use Rattle.is_pair.proofs.Common.{◌+◌, ◌≡◌, filter, length, records_of, RecordsFit, removed_passing, take, ℕ}
use Rattle.is_pair.proofs.checklist.removed.keep_by_number.Given as goal

abbrev pub invariant-loop-pair : goal.invariant-loop-pair
invariant-loop-pair g l = record {
  removed : records_of l.records ≡ removed_passing (g.T.PairTest.passes l.test) (g.T.PairRemoval.reason l.test) (take l.pair-index l.pairs)
      (records_of l.fn.records);
  room : (n : ℕ) → RecordsFit (length (filter (g.T.PairTest.passes l.test) (take l.pair-index l.pairs)) + n) l.fn.records → RecordsFit n l.records;
}

use Rattle.is_pair.proofs.Common.{◌+◌, ◌≡◌, filter, length, pairs_of, records_of, RecordsFit, removed_passing, reverse, take, ℕ}
use Rattle.is_pair.proofs.checklist.removed.keep_ranked.Given as goal

abbrev pub invariant-loop-place : goal.invariant-loop-place
invariant-loop-place g l = record {
  removed : records_of l.records ≡ removed_passing (g.T.PairTest.passes l.test) (g.T.PairRemoval.reason l.test)
      (pairs_of (take l.place (reverse l.ranks)) l.pairs) (records_of l.fn.records);
  room : (n : ℕ) → RecordsFit (length (filter (g.T.PairTest.passes l.test) (pairs_of (take l.place (reverse l.ranks)) l.pairs)) + n) l.fn.records
      → RecordsFit n l.records;
}

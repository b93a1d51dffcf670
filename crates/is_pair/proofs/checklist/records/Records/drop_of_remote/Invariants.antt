use Rattle.is_pair.proofs.Common.{◌++◌, ◌==◌, ◌≡◌, drop, filter, not, records_of, RecordsFit, take, ℕ}
use Rattle.is_pair.proofs.checklist.records.Records.drop_of_remote.Given as goal

abbrev pub invariant-loop : goal.invariant-loop
invariant-loop l = record {
  rotated : records_of l.self ≡ drop l.counter (records_of l.fn.self) ++ filter (λ r. not (r.remote == l.remote)) (take l.counter (records_of l.fn.self));
  room : (n : ℕ) → RecordsFit n l.fn.self → RecordsFit n l.self;
}

use Rattle.is_pair.proofs.Common.{arith, deque_len, length, rules, ◌≡◌}
use Rattle.is_pair.proofs.ShortRecords.{long-few}
use Rattle.is_pair.proofs.checklist.records.Records.reserve.Goals as goal

pub reserve-requires-2 : goal.reserve-requires-2
reserve-requires-2 c =
    let list = c.args.self.now in
    let few = long-few list.places.items in
    let is : length list.places.items ≡ deque_len list.places = search rules in
    record { few = omega (arith, few, is, list.counted, list.few) }

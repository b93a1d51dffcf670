use Rattle.is_pair.proofs.Common.{◌≤◌, ◌∙◌, ◌≡◌, ap, arith, length, Long, option_copied, records_of, RemovedPair, rules, Short, slice_get, Some, sym}
use Rattle.is_pair.proofs.Common.{slice_get_past}
use Rattle.is_pair.proofs.ShortRecords.{at-long, at-short, copied-at, item-at, joined-length}
use Rattle.is_pair.proofs.checklist.records.Records.get.Goals as goal

pub returns-in_err-record : goal.returns-in_err-record
returns-in_err-record c =
    let list = c.args.self.now in
    let past : length list.places.items ≤ c.args.index = search rules in
    let is = joined-length list.places.items list.long.items (list.counted ∙ search rules) in
    c.from_residual.ensures ∙ sym (slice_get_past (records_of list) c.args.index (omega (arith, is, past)))

pub returns-in-Short : goal.returns-in-Short
returns-in-Short c =
    let list = c.args.self.now in
    let at = item-at list.places.items c.args.index c.in_ok-record.field-0.now (Short c.in-Short.record) (search rules) (search rules) (search rules) in
    ap (λ (r : RemovedPair). Some r) c.pair.ensures
    ∙ sym (at-short list.places.items list.long.items c.args.index c.in-Short.record (list.counted ∙ search rules) at)

pub returns-in-Long : goal.returns-in-Long
returns-in-Long c =
    let list = c.args.self.now in
    let at = item-at list.places.items c.args.index c.in_ok-record.field-0.now Long (search rules) c.in-Long.is (search rules) in
    let same = at-long list.places.items list.long.items c.args.index (list.counted ∙ search rules) at in
    let found : option_copied c.get-in-Long.result ≡ slice_get list.long.items c.long_before.result =
    copied-at list.long.items c.long_before.result c.get-in-Long.result c.get-in-Long.ensures.item.0 c.get-in-Long.ensures.item.1 in
    c.copied.ensures ∙ found ∙ ap (slice_get list.long.items) c.long_before.ensures ∙ sym same

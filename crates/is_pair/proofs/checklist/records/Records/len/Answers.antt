use Rattle.is_pair.proofs.Common.{◌∙◌, rules, sym}
use Rattle.is_pair.proofs.ShortRecords.{joined-length}
use Rattle.is_pair.proofs.checklist.records.Records.len.Goals as goal

pub returns-clause-length : goal.returns-clause-length
returns-clause-length c =
    let list = c.args.self.now in
    c.len.ensures ∙ sym (joined-length list.places.items list.long.items (list.counted ∙ search rules) ∙ search rules)

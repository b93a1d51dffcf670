use Rattle.std.proofs.Common.{rules, ◌≡◌, sym, ◌∙◌, is_some}
use Rattle.is_pair.proofs.StoredChecks.LastChecks.{is_some-option_copied}
use Rattle.is_pair.proofs.ChecklistIndex.AwaitingPair.{awaiting-any}
use Rattle.is_pair.proofs.checklist.Checklist.has_awaiting.Goals as goal

pub returns : goal.returns
returns g c =
    let found : c.is_some.result ≡ is_some c.awaiting.result = search rules in
    found ∙ sym (is_some-option_copied c.awaiting.result)
    ∙ awaiting-any c.args.trans_id.0 (g.T.PairTest.passes c.args.test.now) c.args.self.now.pairs.items _ c.awaiting.ensures.awaiting

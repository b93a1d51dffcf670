use Rattle.is_pair.proofs.Common.{◌∙◌, early_span, EARLY_TIME, sym}
use Rattle.is_pair.proofs.DueTimes.EarlyTime.{past-early, span-within}
use Rattle.is_pair.proofs.pair.CandidatePair.is_early_on.Goals as goal

pub returns-then-not-is_begun_lately : goal.returns-then-not-is_begun_lately
returns-then-not-is_begun_lately c =
    let t = c.args.timing.now in
    let p = c.args.self.now in
    let past = sym c.is_begun_lately.ensures ∙ c.if-not-is_begun_lately.true in
    sym (past-early (early_span t p) EARLY_TIME c.args.now.0 _ _ (span-within t p) past)

use Rattle.is_pair.proofs.Common.{◌∙◌, ap, arith, last_checks, rules}
use Rattle.is_pair.proofs.StoredChecks.LastChecks.{last_checks-drop}
use Rattle.is_pair.proofs.pair.attempts.keep_last.Goals as goal

pub loop-attempts-preserved : goal.loop-attempts-preserved
loop-attempts-preserved c =
    let kept = c.args.kept in
    let shorter = last_checks-drop kept c.loop-attempts.attempts.items (omega arith) in
    record {
      kept = ap (last_checks kept) c.pop_front.ensures.rest ∙ shorter ∙ c.loop-attempts.invariant.kept;
      capacity = search rules;
    }

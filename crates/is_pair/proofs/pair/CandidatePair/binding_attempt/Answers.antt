use Rattle.is_pair.proofs.Common.{◌∙◌, ap, has_id, is_kept, is_some, PairRecord, sym}
use Rattle.is_pair.proofs.StoredChecks.LastChecks.{is_some-find, is_some-option_copied}
use Rattle.is_pair.proofs.pair.CandidatePair.binding_attempt.Goals as goal

pub returns-clause-kept : goal.returns-clause-kept
returns-clause-kept c =
    sym (is_some-option_copied c.with_id.result) ∙ ap is_some c.with_id.ensures ∙ is_some-find (has_id c.args.trans_id.0) _ ∙ ap (λ (p : PairRecord). is_kept c.args.trans_id.0 p.checks) c.self.view_is

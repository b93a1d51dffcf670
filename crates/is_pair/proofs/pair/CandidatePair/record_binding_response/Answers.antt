use Rattle.is_pair.proofs.Common.{ap, PairRecord}
use Rattle.is_pair.proofs.StoredChecks.LastChecks.{found_at, found_where_kept}
use Rattle.is_pair.proofs.pair.CandidatePair.record_binding_response.Goals as goal

pub returns-in_default : goal.returns-in_default
returns-in_default c =
    let checks = ap (λ (p : PairRecord). p.checks) c.self.view_is in
    absurd (found_where_kept c.args.trans_id.0 c.args.self.now.checks c.requires (cc c.in_default.ensures))

pub returns : goal.returns
returns c =
    let place = c.in-Some.place in
    let check = c.index-attempt.result.now in
    let checks = ap (λ (p : PairRecord). p.checks) c.self.view_is in
    let at = found_at c.args.trans_id.0 c.args.self.now.checks place check (cc c.in-Some.ensures) (cc c.index-attempt.ensures) in
    (place, check, at, rw (← c.self.view_is) (cc))

use Rattle.is_rules.proofs.Common.{◌∙◌, ◌≡◌, ap, candidate_at, candidate_priority, is_live, is_sender, IsGreatestBelow, Option}
use Rattle.is_rules.proofs.Common.{request_view, subst, sym, ℕ}
use Rattle.is_rules.proofs.FunctionProofs.BestIndex.{passed_over, overtaken, kept}
use Rattle.is_rules.proofs.places.better_sender.Goals as goal

pub returns-then-not-is_live_sender : goal.returns-then-not-is_live_sender
returns-then-not-is_live_sender c =
    let test = is_live (is_sender (request_view c.args.request.now)) in
    passed_over c.args.place test c.args.remote.now c.args.best c.requires.best
    (sym (ap test c.candidate_at-candidate.ensures) ∙ (sym c.is_live_sender.ensures ∙ c.if-not-is_live_sender.true))

pub returns-then-prio : goal.returns-then-prio
returns-then-prio c =
    let test = is_live (is_sender (request_view c.args.request.now)) in let cs = c.args.remote.now in
    let best = subst (λ (best : Option ℕ). IsGreatestBelow c.args.place test cs best) c.in-Some.is c.requires.best in
    let passes = sym (ap test c.candidate_at-candidate.ensures) ∙ (sym c.is_live_sender.ensures ∙ c.if-not-is_live_sender.false) in
    let its : c.prio-in-Some.result ≡ candidate_priority (candidate_at cs c.args.place) = c.prio-in-Some.ensures ∙ ap candidate_priority c.candidate_at-candidate.ensures in
    let tops : c.prio.result ≡ candidate_priority (candidate_at cs c.in-Some.top) = c.prio.ensures ∙ ap candidate_priority c.candidate_at.ensures in
    overtaken c.args.place c.in-Some.top test cs best passes (rw (← its, ← tops) c.if-prio.true)

pub returns-else-prio : goal.returns-else-prio
returns-else-prio c =
    let test = is_live (is_sender (request_view c.args.request.now)) in let cs = c.args.remote.now in
    let best = subst (λ (best : Option ℕ). IsGreatestBelow c.args.place test cs best) c.in-Some.is c.requires.best in
    let its : c.prio-in-Some.result ≡ candidate_priority (candidate_at cs c.args.place) = c.prio-in-Some.ensures ∙ ap candidate_priority c.candidate_at-candidate.ensures in
    let tops : c.prio.result ≡ candidate_priority (candidate_at cs c.in-Some.top) = c.prio.ensures ∙ ap candidate_priority c.candidate_at.ensures in
    kept c.args.place c.in-Some.top test cs best (rw (← its, ← tops) c.if-prio.false)

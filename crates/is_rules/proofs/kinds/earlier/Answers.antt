use Rattle.is_rules.proofs.Common.{◌∙◌, ◌∷◌, IsNextAhead, option_copied, subst, sym}
use Rattle.is_rules.proofs.FunctionProofs.NextAhead.{due-before, due-first, due-later}
use Rattle.is_rules.proofs.kinds.earlier.Goals as goal
use Rattle.is_rules.proofs.kinds.earlier.Goals.{in_default-via-in-Some+else-turns_before, in_default-via-in_default}

pub returns-in-Some-clause-next : goal.returns-in-Some-clause-next
returns-in-Some-clause-next c = λ done h.
    let r = c.args.round.now in
    subst (λ f. IsNextAhead r.kinds.now.local.now r.kinds.now.remote.now r.precedence r.next r.time.0 r.timing.now (c.args.pair.now ∷ done) (option_copied f))
    (sym c.in-Some.is) (due-later r.kinds.now.local.now r.kinds.now.remote.now r.precedence r.next r.time.0 r.timing.now done c.args.pair.now c.in-Some.other.now
    (c.turns_before.ensures.before c.if-turns_before.true)
    (subst (λ f. IsNextAhead r.kinds.now.local.now r.kinds.now.remote.now r.precedence r.next r.time.0 r.timing.now done (option_copied f)) c.in-Some.is h))

pub returns-in_default-clause-next : goal.returns-in_default-clause-next
returns-in_default-clause-next c done h =
    let r = c.args.round.now in
    let its = sym c.is_due.ensures ∙ c.if-not-is_due.false in
    elim c.in_default.branch [
      | in_default-via-in-Some+else-turns_before w ↦
          due-before r.kinds.now.local.now r.kinds.now.remote.now r.precedence r.next r.time.0 r.timing.now done c.args.pair.now w.in-Some.other.now its
          (w.turns_before.ensures.following w.if-turns_before.false)
          (subst (λ f. IsNextAhead r.kinds.now.local.now r.kinds.now.remote.now r.precedence r.next r.time.0 r.timing.now done (option_copied f)) w.in-Some.is h)
      | in_default-via-in_default w ↦
          due-first r.kinds.now.local.now r.kinds.now.remote.now r.precedence r.next r.time.0 r.timing.now done c.args.pair.now its
          (subst (λ f. IsNextAhead r.kinds.now.local.now r.kinds.now.remote.now r.precedence r.next r.time.0 r.timing.now done (option_copied f)) w.in_default.is h)
    ]

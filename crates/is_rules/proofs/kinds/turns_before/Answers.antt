use Rattle.is_rules.proofs.Common.{◌∙◌, ◌≡◌, arith, inr, sym}
use Rattle.is_rules.proofs.kinds.turns_before.Goals as goal

pub returns-then-first-turn-2-clause-before : goal.returns-then-first-turn-2-clause-before
returns-then-first-turn-2-clause-before c = λ is.
    let same : c.args.first.turn ≡ c.args.turn = omega (arith, c.if-first-turn-2.true) in
    inr (sym c.requires.first ∙ same ∙ c.requires.second, c.is_due_before.ensures.before is)

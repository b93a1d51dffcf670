use Rattle.is_rules.proofs.Common.{◌∙◌, ◌≡◌, ◌≤◌, arith, false, IsAskedNext, nat_le, nat_tests, option_copied, subst, sym, ℕ}
use Rattle.is_rules.proofs.FunctionProofs.NextAsked.{tested-before, tested-first}
use Rattle.is_rules.proofs.leaving.earlier.Goals as goal
use Rattle.is_rules.proofs.leaving.earlier.Goals.{in_default-via-in-Some+else-is_asked_before, in_default-via-in_default}

later : (m n : ℕ) → nat_le m n ≡ false → n ≤ m
later m n is = grind (arith, nat_tests, is)

pub returns-in_default : goal.returns-in_default
returns-in_default c done h =
    let a = c.args.along.now in
    let its = sym c.passes.ensures ∙ c.if-passes.true in
    elim c.in_default.branch [
      | in_default-via-in-Some+else-is_asked_before w ↦
          tested-before a.number a.silence done c.args.pair.now w.in-Some.first.now its
          (later _ _ (sym w.is_asked_before.ensures ∙ w.if-is_asked_before.false))
          (subst (λ f. IsAskedNext a.number a.silence done (option_copied f)) w.in-Some.is h)
      | in_default-via-in_default w ↦
          tested-first a.number a.silence done c.args.pair.now its
          (subst (λ f. IsAskedNext a.number a.silence done (option_copied f)) w.in_default.is h)
    ]

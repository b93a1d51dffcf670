use Rattle.is_pair.proofs.Common.{◌∙◌, IsGreatest, option_copied, rules, subst, sym}
use Rattle.is_pair.proofs.PriorityOrder.VisitedGreatest.{greatest-first, greatest-kept, greatest-past, greatest-replaced}
use Rattle.is_pair.proofs.checklist.listed.greater.Goals as goal
use Rattle.is_pair.proofs.checklist.listed.greater.Goals.{in_default-via-in-Some+else-prio, in_default-via-in_default}

pub returns-then-not-passes : goal.returns-then-not-passes
returns-then-not-passes g c done h =
    greatest-past (g.T.PairTest.passes c.args.test.now) done c.args.pair.now _ (search rules) h

pub returns-in-Some : goal.returns-in-Some
returns-in-Some g c done h =
    let test = g.T.PairTest.passes c.args.test.now in
    greatest-kept test done c.args.pair.now c.in-Some.top.now (search rules) (subst (λ o. IsGreatest test done (option_copied o)) c.in-Some.is h)

pub returns-in_default : goal.returns-in_default
returns-in_default g c done h =
    let test = g.T.PairTest.passes c.args.test.now in
    let its = sym c.passes.ensures ∙ c.if-not-passes.false in
    elim c.in_default.branch [
      | in_default-via-in-Some+else-prio w ↦
          greatest-replaced test done c.args.pair.now w.in-Some.top.now its (search rules)
          (subst (λ o. IsGreatest test done (option_copied o)) w.in-Some.is h)
      | in_default-via-in_default w ↦
          greatest-first test done c.args.pair.now its (subst (λ o. IsGreatest test done (option_copied o)) w.in_default.is h)
    ]

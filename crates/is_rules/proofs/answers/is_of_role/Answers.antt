use Rattle.is_rules.proofs.Common.{◌∙◌, ◌≡◌, find, has_id, rules, Some}
use Rattle.is_rules.proofs.FunctionProofs.FoundChecks.{check-found, same-beq}
use Rattle.is_rules.proofs.answers.is_of_role.Goals as goal

pub returns-in-Some : goal.returns-in-Some
returns-in-Some c =
    let check = c.in-Some.check.now in let checks = c.args.pair.now.checks in
    let found : find (has_id c.args.id.0) checks ≡ Some check = search rules in
    let is = check-found c.args.id.0 checks check found in
    (check, is.0, is.1, (search rules) ∙ same-beq check.controlling c.args.controlling)

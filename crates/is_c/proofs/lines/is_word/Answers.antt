-- A text is one word if the search for white space finds none.
use Rattle.std.proofs.Common.{◌<◌, length, arith, rules, tests}
use Rattle.std.proofs.lemmas.Fn.{always_returns_same}
use Rattle.is_c.proofs.WordLemmas.{decides}
use Rattle.is_c.proofs.lines.is_word.Goals as goal

pub returns-then-not-is_empty : goal.returns-then-not-is_empty
returns-then-not-is_empty c =
    let some : 0 < length c.args.text.now = grind (arith, c.is_empty.ensures, c.if-not-is_empty.true) in
    decides c.args.text.now c.contains.result _ some (always_returns_same _ _ _ (λ a r f call. search (rules, tests))) c.contains.ensures.cases

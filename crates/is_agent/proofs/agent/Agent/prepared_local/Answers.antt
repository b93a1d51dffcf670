use Rattle.std.proofs.Common.{◌≡◌, ◌+◌, List, length, rules, arith, sym, subst, ap, ◌∙◌}
use Rattle.std.proofs.lemmas.List.{length-map}
use Rattle.is_rules.specs.Forming.{AreIn, Combination, local_combinations, partners}
use Rattle.is_rules.specs.Local.{HasNumbersAt}
use Rattle.is_agent.specs.View.{record_of}
use Rattle.is_rules.proofs.PairLists.CombinationsInLists.{own-in}
use Rattle.is_agent.proofs.agent.Agent.prepared_local.Goals as goal

pub returns-clause-within : goal.returns-clause-within
returns-clause-within g c =
    let self = c.args.self.now in let locals = length self.local.items in
    let all : c.in_ok-all.all.items ≡ local_combinations c.args.candidate locals self.remote.items = search rules in
    subst (AreIn (locals + 1) (length self.remote.items)) (sym all) (own-in c.args.candidate locals self.remote.items (locals + 1) (omega arith))

pub returns-clause-numbers : goal.returns-clause-numbers
returns-clause-numbers g c =
    let self = c.args.self.now in let locals = length self.local.items in
    let all : c.in_ok-all.all.items ≡ local_combinations c.args.candidate locals self.remote.items = search rules in
    let has : HasNumbersAt (record_of self) c.args.candidate = search rules in
    let many : length c.in_ok-all.all.items ≡ length (partners c.args.candidate self.remote.items) =
    ap (λ (at : List Combination). length at) all ∙ length-map (partners c.args.candidate self.remote.items) (λ r. (locals, r)) in
    (has, omega (arith, many, has))

use Rattle.std.proofs.Common.{ℕ, ap, ◌∙◌}
use Rattle.is_rules.specs.States.{evaluated}
use Rattle.is_agent.specs.View.{record_of}
use Rattle.is_agent.proofs.agent.Agent.select_again.Goals as goal

pub returns : goal.returns
returns g c =
    let path = c.evaluate_nomination-path.result in let mid = record_of c.evaluate_nomination-path.new.self in
    let made = c.evaluate_state.ensures.evaluated ∙ ap (λ (now : ℕ). evaluated now mid) c.time_of_last-now.ensures in
    (path, mid, c.evaluate_nomination-path.ensures.nominates, made, c.selected_only-self.ensures)

use Rattle.is_agent.specs.View.{record_of}
use Rattle.is_agent.proofs.agent.Agent.conclude.Goals as goal

pub returns-clause-concludes : goal.returns-clause-concludes
returns-clause-concludes g c =
    (c.evaluate_nomination-path.result, record_of c.evaluate_nomination-path.new.self, c.evaluate_nomination-path.ensures.nominates, c.selected_only.ensures, c.evaluate_state.ensures.evaluated)

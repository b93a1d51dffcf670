use Rattle.std.specs.Prelude.{Some}
use Rattle.is_agent.proofs.agent.Agent.check_and_emit.Goals as goal

pub returns : goal.returns
returns g c peer p first second known numbered found emitted =
    let checked = c.check-issued.ensures.checked peer p known numbered found (c.draft_of-draft.ensures p found) in
    (Some c.check-issued.result, checked, search (emitted, c.check-issued.ensures.emitted))

use Rattle.std.proofs.Common.{ap, subst, ◌∙◌}
use Rattle.is_rules.specs.Agent.{AgentRecord}
use Rattle.is_agent.specs.View.{record_of, emitted_of}
use Rattle.is_rules.specs.Timeouts.{timeout_begun, MaintainsPairs}
use Rattle.is_agent.proofs.agent.Agent.run_timeout_without_request.Goals as goal

pub returns-clause-advanced : goal.returns-clause-advanced
returns-clause-advanced g c =
    let now = c.args.now.0 in let draws = g.R.Rng.stream c.args.rng.now in let drawn = g.R.Rng.stream c.maintain_pairs.new.rng in
    let begun = c.begin_later_timeout.ensures.begun ∙ ap (λ (s : AgentRecord g.row.H.Denot g.row.P.Denot). timeout_begun now s) c.reserve_round_room.ensures.record in
    subst (λ (s : AgentRecord g.row.H.Denot g.row.P.Denot). MaintainsPairs g.H.Sha1HmacProvider.mac now s draws (emitted_of c.maintain_pairs.new.self) (record_of c.maintain_pairs.new.self) drawn) begun c.maintain_pairs.ensures

use Rattle.is_agent.specs.View.{record_of, emitted_of}
use Rattle.is_agent.proofs.agent.Agent.handle_timeout.Goals as goal

pub returns-in-Ok-clause-noted : goal.returns-in-Ok-clause-noted
returns-in-Ok-clause-noted g c = λ by_rule.
    let draws = g.R.Rng.stream c.args.rng.now in let drawn = g.R.Rng.stream c.run_timeout.new.rng in
    c.calls_are_noted.ensures.noted (record_of c.args.self.now) (record_of c.run_timeout.new.self) c.args.now.0 draws drawn
    (emitted_of c.run_timeout.new.self) (record { by_rule = by_rule; call = c.in-Ok.ensures.passed })

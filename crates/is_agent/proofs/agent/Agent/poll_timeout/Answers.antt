use Rattle.std.specs.Prelude.{option_map}
use Rattle.is_agent.specs.View.{record_of}
use Rattle.is_agent.proofs.agent.Agent.poll_timeout.Goals as goal

pub returns-clause-ahead : goal.returns-clause-ahead
returns-clause-ahead g c = c.timeout_is_ahead.ensures (record_of c.args.self.now) (record_of c.next_timeout.new.self) (option_map (λ at. at.0) c.next_timeout.result) c.next_timeout.ensures

pub returns-clause-in_time : goal.returns-clause-in_time
returns-clause-in_time g c = c.timeout_is_in_time.ensures (record_of c.args.self.now) (record_of c.next_timeout.new.self) (option_map (λ at. at.0) c.next_timeout.result) c.next_timeout.ensures

pub returns-clause-pressing : goal.returns-clause-pressing
returns-clause-pressing g c = c.timeout_is_soon.ensures (record_of c.args.self.now) (record_of c.next_timeout.new.self) (option_map (λ at. at.0) c.next_timeout.result) c.next_timeout.ensures

pub returns-clause-given : goal.returns-clause-given
returns-clause-given g c = c.timeout_is_given.ensures (record_of c.args.self.now) (record_of c.next_timeout.new.self) (option_map (λ at. at.0) c.next_timeout.result) c.next_timeout.ensures

pub returns-clause-credit : goal.returns-clause-credit
returns-clause-credit g c = c.timeout_keeps_credit.ensures (record_of c.args.self.now) (record_of c.next_timeout.new.self) (option_map (λ at. at.0) c.next_timeout.result) c.next_timeout.ensures

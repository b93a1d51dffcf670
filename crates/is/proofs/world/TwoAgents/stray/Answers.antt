use Rattle.is.proofs.Common.{A, B, entry_view, outcome_of, record_of, world_of}
use Rattle.is.proofs.TwoAgentEvents.StatesAfterMethods.{strayed}
use Rattle.is.proofs.world.TwoAgents.stray.Goals as goal

pub returns-in-A-clause-did : goal.returns-in-A-clause-did
returns-in-A-clause-did g c = λ s. rw c.in-A.is
    (let said = c.handle_stray-entry.ensures.said in
    strayed _ g.P.LocalPreference.answers A (world_of c.args.self.now) s c.args.now.0 c.args.path c.args.bytes.now (record_of c.handle_stray-entry.new.agent) said.0
    (entry_view c.handle_stray-entry.result) (outcome_of c.emitted.result) c.handle_stray-entry.ensures.same said.1 said.2 c.emitted.ensures.emitted)

pub returns-in-B-clause-did : goal.returns-in-B-clause-did
returns-in-B-clause-did g c = λ s. rw c.in-B.is
    (let said = c.handle_stray-entry-in-B.ensures.said in
    strayed _ g.P.LocalPreference.answers B (world_of c.args.self.now) s c.args.now.0 c.args.path c.args.bytes.now (record_of c.handle_stray-entry-in-B.new.agent) said.0
    (entry_view c.handle_stray-entry-in-B.result) (outcome_of c.emitted-in-B.result) c.handle_stray-entry-in-B.ensures.same said.1 said.2 c.emitted-in-B.ensures.emitted)

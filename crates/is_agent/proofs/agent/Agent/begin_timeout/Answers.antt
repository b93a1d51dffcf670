use Rattle.std.proofs.Common.{◌≡◌, List, map, drop, ap, sym, ◌∙◌}
use Rattle.std.proofs.lemmas.List.{drop-map}
use Rattle.is_rules.specs.declared.event.IceAgentEvent.{IceAgentEvent}
use Rattle.is_rules.specs.Agent.{AgentRecord}
use Rattle.is_rules.specs.RequestView.{waiting_view}
use Rattle.is_rules.specs.StateUpdates.{started}
use Rattle.is_agent.specs.View.{record_of}
use Rattle.is_agent.proofs.AgentParts.EarlyRequests.{begun, start-emitted}
use Rattle.is_agent.proofs.agent.Agent.begin_timeout.Goals as goal

pub returns-clause-begun : goal.returns-clause-begun
returns-clause-begun g c =
    let now = c.args.now.0 in let many = c.args.expired in
    let old = record_of c.args.self.now in let mid = c.start_state.new.self in
    let events = (rw (c.requires.start) at c.emit_start.ensures.items) ∙ start-emitted old in
    let start = ap (λ (e : List IceAgentEvent). let s : AgentRecord g.row.H.Denot g.row.P.Denot = record old { events = e } in s) events in
    let state = c.start_state.ensures.started ∙ ap (λ (s : AgentRecord g.row.H.Denot g.row.P.Denot). started now s) start in
    let kept : map waiting_view mid.queue.items ≡ old.queue = ap (λ (s : AgentRecord g.row.H.Denot g.row.P.Denot). s.queue) state in
    let queue = ap (map waiting_view) c.drop_first.ensures.items ∙ sym (drop-map waiting_view many mid.queue.items) ∙ ap (drop many) kept in
    begun now old (record_of mid) (map waiting_view c.drop_first.new.queue.items) many state queue c.requires.expired

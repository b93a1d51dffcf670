use Rattle.std.proofs.Common.{◌≡◌, List, [], map, None, slice_get, ap, sym, ◌∙◌}
use Rattle.is_proto.specs.Lists.{head}
use Rattle.is_rules.specs.declared.request.Waiting.{Waiting}
use Rattle.is_rules.specs.Agent.{AgentRecord}
use Rattle.is_rules.specs.RequestView.{waiting_view}
use Rattle.is_agent.specs.View.{record_of}
use Rattle.is_agent.proofs.AgentParts.EarlyRequests.{first-left, not-some, own-tail}
use Rattle.is_agent.proofs.agent.Agent.begin_with_request.Goals as goal

pub unreachable-requires : goal.unreachable-requires
unreachable-requires g c =
    let old = record_of c.args.self.now in let items = c.note_request.new.self.queue.items in
    let empty : items ≡ [] = own-tail items (c.in-None.ensures.items ∙ c.in-None.ensures.rest) in
    let queue = λ (s : AgentRecord g.row.H.Denot g.row.P.Denot). s.queue in
    let views = ap queue c.note_request.ensures.noted ∙ ap queue c.begin_timeout.ensures.begun in
    let none : slice_get old.queue c.args.expired ≡ None =
    sym (first-left c.args.now.0 old items c.args.expired views c.requires.expired) ∙ ap (λ (xs : List Waiting). head (map waiting_view xs)) empty in
    not-some (slice_get old.queue c.args.expired) none c.requires.left

pub returns-clause-first : goal.returns-clause-first
returns-clause-first g c =
    let old = record_of c.args.self.now in let items = c.note_request.new.self.queue.items in
    let queue = λ (s : AgentRecord g.row.H.Denot g.row.P.Denot). s.queue in
    let views = ap queue c.note_request.ensures.noted ∙ ap queue c.begin_timeout.ensures.begun in
    ap (λ (xs : List Waiting). head (map waiting_view xs)) (sym c.in-Some.ensures.items)
    ∙ first-left c.args.now.0 old items c.args.expired views c.requires.expired

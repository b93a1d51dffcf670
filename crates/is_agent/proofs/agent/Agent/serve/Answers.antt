use Rattle.std.proofs.Common.{◌≡◌, Option, Some, subst, rules}
use Rattle.is_rules.specs.declared.serving.Places.{Places}
use Rattle.is_rules.specs.declared.serving.Supplies.{Supplies}
use Rattle.is_rules.specs.Agent.{AgentRecord}
use Rattle.is_rules.specs.RequestView.{request_view}
use Rattle.is_rules.specs.Serving.{ServesAt}
use Rattle.is_agent.specs.Ready.{IsPlan}
use Rattle.is_agent.specs.View.{record_of}
use Rattle.is_agent.proofs.AgentParts.StepsOfServing.{as-planned}
use Rattle.is_agent.proofs.agent.Agent.serve.Goals as goal

pub returns-clause-served : goal.returns-clause-served
returns-clause-served g c =
    let mac = g.H.Sha1HmacProvider.mac in let q = request_view c.args.request.now in let s = record_of c.args.self.now in
    let at = c.in-Some.at in let supplies = c.in-Some.supplies in let e = c.serve_at.result in let new = record_of c.serve_at.new.self in
    let named : c.in_ok-at.field-0 ≡ Some (at, supplies) = search rules in
    let planned : IsPlan s q (Some (at, supplies)) = subst (λ (plan : Option (Places × Supplies)). IsPlan s q plan) named c.in_ok-at.ensures.planned in
    as-planned mac q e new at supplies s planned
    (subst (λ (a : AgentRecord g.row.H.Denot g.row.P.Denot). ServesAt mac q at a e new) c.reserve_serving_room.ensures.record c.serve_at.ensures.served)

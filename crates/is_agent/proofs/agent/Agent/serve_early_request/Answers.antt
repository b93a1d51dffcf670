use Rattle.std.proofs.Common.{◌≡◌, Option, Some, IfSome, IsSomeAnd, slice_get, subst, sym, ap, ◌∙◌, arith, rules}
use Rattle.is_rules.specs.declared.serving.Places.{Places}
use Rattle.is_rules.specs.declared.serving.Supplies.{Supplies}
use Rattle.is_rules.specs.Agent.{AgentRecord}
use Rattle.is_rules.specs.Queue.{first_taken}
use Rattle.is_rules.specs.Request.{RequestRecord}
use Rattle.is_rules.specs.RequestView.{request_view, waiting_view}
use Rattle.is_rules.specs.Serving.{Serves, ServesAt}
use Rattle.is_rules.specs.Timeouts.{at_request, timeout_begun}
use Rattle.is_agent.specs.Ready.{IsPlan}
use Rattle.is_agent.specs.View.{record_of}
use Rattle.is_agent.proofs.AgentParts.EarlyRequests.{planned-still}
use Rattle.is_agent.proofs.AgentParts.StepsOfServing.{as-planned}
use Rattle.is_agent.proofs.agent.Agent.serve_early_request.Goals as goal

-- the request that was taken is the one that was planned, and the start of the call leaves the plan as it is
pub serve_at-requires : goal.serve_at-requires
serve_at-requires g c =
    let s = record_of c.args.self.now in let now = c.args.now.0 in let w = waiting_view c.begin_with_request-waiting.result in let b = record_of c.begin_with_request-waiting.new.self in
    let at = c.in-Some.at in let supplies = c.in-Some.supplies in
    let first : Some w ≡ slice_get s.queue c.args.expired =
    c.begin_with_request-waiting.ensures.first ∙ ap (λ (a : AgentRecord g.row.H.Denot g.row.P.Denot). slice_get a.queue c.args.expired) c.reserve_serving_room.ensures.record in
    let made : b ≡ first_taken (at_request now (timeout_begun now s)) =
    c.begin_with_request-waiting.ensures.begun
    ∙ ap (λ (a : AgentRecord g.row.H.Denot g.row.P.Denot). first_taken (at_request now (timeout_begun now a))) c.reserve_serving_room.ensures.record in
    let named : c.args.plan ≡ Some (at, supplies) = search rules in
    let queued : IsPlan s w c.args.plan = subst (λ (o : Option RequestRecord). IsSomeAnd o (λ r. IsPlan s r c.args.plan)) (sym first) c.requires.planned in
    let still = planned-still now s w (Some (at, supplies)) (subst (λ (plan : Option (Places × Supplies)). IsPlan s w plan) named queued) in
    let taken : IsPlan b w (Some (at, supplies)) = subst (λ (a : AgentRecord g.row.H.Denot g.row.P.Denot). IsPlan a w (Some (at, supplies))) (sym made) still in
    let ready : IsPlan b (request_view c.request.result) (Some (at, supplies)) = subst (λ (r : RequestRecord). IsPlan b r (Some (at, supplies))) (sym c.request.ensures) taken in
    record {
      local = ready.5;
      remote = ready.6;
      sender = ready.3;
      reply = ready.4;
      number = ready.2;
      room = c.begin_with_request-waiting.ensures.serving c.in_ok-reserve_serving_room.ensures.room.0;
      events = omega (arith, c.begin_with_request-waiting.ensures.discovery.1, c.in_ok-reserve_serving_room.ensures.room.1.1);
    }

pub returns-clause-served : goal.returns-clause-served
returns-clause-served g c =
    let mac = g.H.Sha1HmacProvider.mac in
    let s = record_of c.args.self.now in let now = c.args.now.0 in let w = waiting_view c.begin_with_request-waiting.result in let b = record_of c.begin_with_request-waiting.new.self in
    let at = c.in-Some.at in let supplies = c.in-Some.supplies in let e = c.serve_at.result in let new = record_of c.serve_at.new.self in
    let first : Some w ≡ slice_get s.queue c.args.expired =
    c.begin_with_request-waiting.ensures.first ∙ ap (λ (a : AgentRecord g.row.H.Denot g.row.P.Denot). slice_get a.queue c.args.expired) c.reserve_serving_room.ensures.record in
    let begun = first_taken (at_request now (timeout_begun now s)) in
    let made : b ≡ begun =
    c.begin_with_request-waiting.ensures.begun
    ∙ ap (λ (a : AgentRecord g.row.H.Denot g.row.P.Denot). first_taken (at_request now (timeout_begun now a))) c.reserve_serving_room.ensures.record in
    let named : c.args.plan ≡ Some (at, supplies) = search rules in
    let queued : IsPlan s w c.args.plan = subst (λ (o : Option RequestRecord). IsSomeAnd o (λ r. IsPlan s r c.args.plan)) (sym first) c.requires.planned in
    let still = planned-still now s w (Some (at, supplies)) (subst (λ (plan : Option (Places × Supplies)). IsPlan s w plan) named queued) in
    let served : ServesAt mac w at begun e new =
    subst (λ (a : AgentRecord g.row.H.Denot g.row.P.Denot). ServesAt mac w at a e new) made
    (subst (λ (r : RequestRecord). ServesAt mac r at b e new) c.request.ensures c.serve_at.ensures.served) in
    subst (λ (o : Option RequestRecord). IfSome o (λ r. Serves mac r begun e new)) first (as-planned mac w e new at supplies begun still served)

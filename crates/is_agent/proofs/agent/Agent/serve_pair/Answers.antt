use Rattle.std.proofs.Common.{◌≡◌, ℕ, Bool, ap, ◌∙◌, length, arith}
use Rattle.is_stun.specs.Timing.{is_modern}
use Rattle.is_pair.specs.Due.{triggered}
use Rattle.is_pair.specs.Multiset.{change_pair}
use Rattle.is_pair.specs.Checklists.{multiset_of}
use Rattle.is_agent.specs.View.{record_of}
use Rattle.is_rules.specs.Request.{RequestRecord}
use Rattle.is_rules.specs.RequestView.{request_view}
use Rattle.is_rules.specs.Serving.{after_request, as_taken, nominated_last, sees_number, served, triggered_time}
use Rattle.is_agent.proofs.AgentParts.PairCounts.{as-many-changed}
use Rattle.is_agent.proofs.agent.Agent.serve_pair.Goals as goal

-- each of the three fields is that of the request as the agent takes it
pub returns-clause-served : goal.returns-clause-served
returns-clause-served g c =
    let s = record_of c.args.self.now in let q = request_view c.args.request.now in let number = c.args.number in
    let check = c.args.check in let taken = request_view c.as_taken-taken.result in
    let as_said = c.as_taken-taken.ensures ∙ ap (λ (numbers : Bool). as_taken numbers q) c.numbers.ensures in
    let pairs : multiset_of c.serve_pair.new.pairs ≡ change_pair number (after_request q s) s.pairs =
    c.serve_pair.ensures.served
    ∙ ap (λ (modern : Bool). change_pair number (λ p. served s.controlling s.lite taken (triggered modern check.at.0 p)) s.pairs) c.requires.modern
    ∙ ap (λ (at : ℕ). change_pair number (λ p. served s.controlling s.lite taken (triggered (is_modern s.timing) at p)) s.pairs) c.requires.at
    ∙ ap (λ (r : RequestRecord). change_pair number (λ p. served s.controlling s.lite r (triggered (is_modern s.timing) (triggered_time q s) p)) s.pairs) as_said in
    let last = c.nominated_last-self.ensures ∙ ap (λ (r : RequestRecord). nominated_last s.controlling r number s.last_nominated) as_said in
    let seen = c.sees_number-self.ensures ∙ ap (λ (r : RequestRecord). sees_number s.controlling r.nomination s.numbers_seen) as_said in
    cc (pairs, last, seen)

pub invariant_of-self-2-clause-room_suffices : goal.invariant_of-self-2-clause-room_suffices
invariant_of-self-2-clause-room_suffices g c =
    omega (arith, ap length c.serve_pair.ensures.served ∙ as-many-changed c.args.number _ _, c.args.self.now.room_suffices)

pub invariant_of-self-2-clause-placed : goal.invariant_of-self-2-clause-placed
invariant_of-self-2-clause-placed g c = let self = c.args.self.now in c.serve_pair.ensures.placed self.local.items self.remote.items self.placed

use Rattle.is_pair.specs.Checklists.{multiset_of}
use Rattle.is_rules.proofs.PairLists.PairsInLists.{longer}
use Rattle.is_agent.proofs.AgentParts.PairsInLists.{as-long}
use Rattle.std.proofs.Common.{◌+◌, ◌≤◌, arith, rules, length, List, ap, refl, subst, ◌∙◌}
use Rattle.is_candidate.specs.Candidates.{candidate_at, CandidateRecord}
use Rattle.is_rules.specs.Agent.{AgentRecord}
use Rattle.is_rules.specs.Forming.{Combination, FormsAll}
use Rattle.is_agent.specs.View.{record_of}
use Rattle.is_rules.specs.Local.{enabled, enabled_again}
use Rattle.is_agent.specs.Live.{live_count}
use Rattle.is_agent.proofs.AgentParts.LiveCandidates.{live-set}
use Rattle.is_agent.proofs.agent.Agent.enable_again.Goals as goal

pub invariant_of-self-clause-placed : goal.invariant_of-self-clause-placed
invariant_of-self-clause-placed g c =
    let self = c.reserve_local_room.new.self in
    let long = as-long c.enable_at.new.candidates.items self.local.items c.args.place (enabled (candidate_at self.local.items c.args.place)) c.enable_at.ensures.items in
    longer self.local.items self.remote.items c.enable_at.new.candidates.items self.remote.items (multiset_of self.pairs) (omega (arith, long)) (omega arith) self.placed

pub invariant_of-self-clause-none_too_high : goal.invariant_of-self-clause-none_too_high
invariant_of-self-clause-none_too_high g c = c.enable_at.ensures.low c.reserve_local_room.new.self.none_too_high

pub invariant_of-self-clause-room_suffices : goal.invariant_of-self-clause-room_suffices
invariant_of-self-clause-room_suffices g c =
    let self = c.reserve_local_room.new.self in
    let own = enabled (candidate_at self.local.items c.args.place) in
    let more : live_count c.enable_at.new.candidates.items ≤ live_count self.local.items + 1 = rw (c.enable_at.ensures.items) (live-set self.local.items c.args.place own) in
    omega (arith, more, c.in_ok-reserve_local_room.ensures.room.2)

pub form-requires-clause-room : goal.form-requires-clause-room
form-requires-clause-room g c =
    let self = c.reserve_local_room.new.self in
    let own = enabled (candidate_at self.local.items c.args.place) in
    let room = c.in_ok-reserve_local_room.ensures.room in
    let more : live_count c.enable_at.new.candidates.items ≤ live_count self.local.items + 1 = rw (c.enable_at.ensures.items) (live-set self.local.items c.args.place own) in
    let many = ap length c.deref.ensures.value in
    (search rules, omega (arith, more, many, room.2))

pub returns-clause-entered : goal.returns-clause-entered
returns-clause-entered g c =
    let old = record_of c.args.self.now in let held = record_of c.reserve_local_room.new.self in let new = record_of c.form.new.self in let all = c.deref.result.now in
    let stored = subst (λ (own : List CandidateRecord). FormsAll (record held { local = own }) all new) c.enable_at.ensures.items c.form.ensures.formed in
    let kept = subst (λ (a : AgentRecord g.row.H.Denot g.row.P.Denot). FormsAll (enabled_again c.args.place a) all new) c.in_ok-reserve_local_room.ensures.record stored in
    let formed = subst (λ (each : List Combination). FormsAll (enabled_again c.args.place old) each new) (c.deref.ensures.value ∙ c.in_ok-all.ensures.all) kept in
    (refl, search rules, formed)

use Rattle.std.proofs.Common.{◌≡◌, length, List, rules, subst, ap, ◌∙◌, arith}
use Rattle.is_rules.specs.declared.event.IceAgentEvent.{IceAgentEvent}
use Rattle.is_rules.specs.declared.event.IceConnectionState.{IceConnectionState}
use Rattle.is_rules.specs.declared.event.IceConnectionState.TheVariants.{Checking}
use Rattle.is_rules.specs.Agent.{AgentRecord}
use Rattle.is_rules.specs.Forming.{live_combinations, FormsAll}
use Rattle.is_rules.specs.Restarting.{emptied, unpaired, HasNumbersForAll}
use Rattle.is_rules.specs.States.{with_state}
use Rattle.is_agent.specs.View.{record_of}
use Rattle.is_agent.specs.Room.{HasPairRoom}
use Rattle.is_agent.proofs.agent.Agent.recreate_candidate_pairs.Goals as goal

-- the agent after the state's event
with-event : {H P : Type 0} (r s : AgentRecord H P) (state : IceConnectionState) (events : List IceAgentEvent) → r ≡ s → state ≡ Checking
    → events ≡ (with_state Checking r).events → record r { state = state; events = events } ≡ with_state Checking s
with-event r s state events same is emitted =
    ap (λ x. record r { state = x; events = events }) is ∙ ap (λ x. record r { state = Checking; events = x }) emitted ∙ ap (with_state Checking) same

pub emit_state-requires : goal.emit_state-requires
emit_state-requires g c =
    let room = c.clear_pairs.ensures.events 1 c.in_ok-reserve_recreation_room.ensures.room.1 in
    record { room = omega (arith, room) }

pub invariant_of-self-clause-room_kept : goal.invariant_of-self-clause-room_kept
invariant_of-self-clause-room_kept g c =
    let room = c.clear_pairs.ensures.events 1 c.in_ok-reserve_recreation_room.ensures.room.1 in
    omega (arith, room, c.emit_state.ensures.len, c.emit_state.ensures.capacity)

pub form-requires-clause-room : goal.form-requires-clause-room
form-requires-clause-room g c =
    let kept : HasPairRoom c.len.result c.clear_pairs.new.self = c.clear_pairs.ensures.room c.len.result c.in_ok-reserve_recreation_room.ensures.room.0 in
    let many : c.len.result ≡ length c.deref.result.now = search rules in
    subst (λ n. HasPairRoom n c.clear_pairs.new.self) many kept

pub returns : goal.returns
returns g c =
    let old = record_of c.args.self.now in
    let cleared = record_of c.clear_pairs.new.self in
    let same : cleared ≡ unpaired old = c.clear_pairs.ensures.cleared ∙ ap unpaired c.in_ok-reserve_recreation_room.ensures.record in
    let begins = with-event cleared (unpaired old) c.emit_state.new.state c.emit_state.new.events.items same c.emit_state.ensures.state c.emit_state.ensures.events in
    let all : c.deref.result.now ≡ live_combinations old.local old.remote = search rules in
    let formed : FormsAll (emptied old) (live_combinations old.local old.remote) (record_of c.form.new.self) =
    subst (λ xs. FormsAll (emptied old) xs (record_of c.form.new.self)) all
    (subst (λ a. FormsAll a c.deref.result.now (record_of c.form.new.self)) begins c.form.ensures.formed) in
    let numbers : HasNumbersForAll old = search rules in
    (numbers, formed)

use Rattle.std.proofs.Common.{length, ap, arith, ◌∙◌}
use Rattle.std.proofs.lemmas.List.{length-map}
use Rattle.is_agent.proofs.agent.Agent.switch_role.Goals as goal

pub returns-clause-room : goal.returns-clause-room
returns-clause-room g c = λ room.
    let many = ap length c.reprioritize_all.ensures.set ∙ length-map _ _ in
    (room.0, c.reprioritize_all.ensures.room 1 room.1, room.2, omega (arith, many, room.3))

pub invariant_of-self-clause-room_suffices : goal.invariant_of-self-clause-room_suffices
invariant_of-self-clause-room_suffices g c = omega (arith, ap length c.reprioritize_all.ensures.set ∙ length-map _ _, c.args.self.now.room_suffices)

pub invariant_of-self-clause-placed : goal.invariant_of-self-clause-placed
invariant_of-self-clause-placed g c = rw (c.deref.ensures.value, c.deref-2.ensures.value) at c.reprioritize_all.ensures.placed

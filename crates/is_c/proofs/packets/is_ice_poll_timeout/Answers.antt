use Rattle.std.proofs.Common.{rules, ◌≡◌, Some, Option, ℤ, option_map, w32, to_z, of_z, subst, sym}
use Rattle.is_c.specs.declared.held.HeldAgent.{HeldAgent}
use Rattle.is_c.specs.Slots.{held_record}
use Rattle.is_c_calls.specs.Held.{At}
use Rattle.is_c_calls.specs.Uses.{PollTimeout, Does}
use Rattle.is_c.proofs.packets.is_ice_poll_timeout.Goals as goal

-- What was borrowed is what is held.
pub returns-clause-polled : goal.returns-clause-polled
returns-clause-polled c =
    let before = held_record c.in-Some.held.now in let after = held_record c.next_time.new.held in let code = c.next_time.result in
    let back : to_z w32 (of_z w32 code) ≡ code = search rules in
    subst (λ (h : Option HeldAgent). At (Does (PollTimeout c.args.at.now c.next_time.new.at)) (option_map held_record h) (to_z w32 (of_z w32 code)) (Some after)) c.in-Some.ensures.value
    (subst (λ (z : ℤ). Does (PollTimeout c.args.at.now c.next_time.new.at) before z after) (sym back) c.next_time.ensures)

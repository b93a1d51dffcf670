-- What the borrow of the agent leaves, in a handle and in a slot: the agent as it was when the borrow ended.
use Rattle.std.specs.Prelude.{Option, Some, true, refl}
use Rattle.std.specs.Borrow.{Lends, LendsIf, MutBor, Fml}
use Rattle.is_c.specs.declared.handle.Handle.{Handle}
use Rattle.is_c.specs.declared.held.HeldAgent.{HeldAgent}
use Rattle.is_c.specs.declared.slot.Slot.{Slot}
use Rattle.is_c.specs.contracts.handle.Handle.{the_row as handle_row}
use Rattle.is_c.specs.contracts.held.HeldAgent.{the_row as held_row}
use Rattle.is_c.specs.contracts.slot.Slot.{the_row as slot_row}

-- the handle, with this agent in place of its own
abbrev pub with_agent : Handle → HeldAgent → Handle
with_agent h held = record h { held = Some held }

abbrev pub BorrowsAgent : MutBor Handle → MutBor HeldAgent → Fml
BorrowsAgent h r = Lends handle_row held_row h r (with_agent h.now)

-- the slot with this agent
abbrev pub with_held : Slot → HeldAgent → Slot
with_held s held = record { is_held = true; handle = with_agent s.handle held; agrees = refl }

abbrev pub BorrowsHeld : MutBor Slot → Option (MutBor HeldAgent) → Fml
BorrowsHeld s r = LendsIf slot_row held_row s r (with_held s.now) s.now

-- What the borrow of the clients of servers leaves, in a handle and in a slot: the clients as they were when the borrow ended.
use Rattle.std.specs.Prelude.{Option, Some, true, refl}
use Rattle.std.specs.Borrow.{Lends, LendsIf, MutBor, Fml}
use Rattle.is_c.specs.declared.servers.handle.ServersHandle.{ServersHandle}
use Rattle.is_c.specs.declared.servers.held.HeldServers.{HeldServers}
use Rattle.is_c.specs.declared.servers.slot.ServersSlot.{ServersSlot}
use Rattle.is_c.specs.contracts.servers.handle.ServersHandle.{the_row as handle_row}
use Rattle.is_c.specs.contracts.servers.held.HeldServers.{the_row as held_row}
use Rattle.is_c.specs.contracts.servers.slot.ServersSlot.{the_row as slot_row}

-- the handle, with these clients in place of its own
abbrev pub with_agent : ServersHandle → HeldServers → ServersHandle
with_agent h held = record h { held = Some held }

abbrev pub BorrowsAgent : MutBor ServersHandle → MutBor HeldServers → Fml
BorrowsAgent h r = Lends handle_row held_row h r (with_agent h.now)

-- the slot with these clients
abbrev pub with_held : ServersSlot → HeldServers → ServersSlot
with_held s held = record { is_held = true; handle = with_agent s.handle held; agrees = refl }

abbrev pub BorrowsHeld : MutBor ServersSlot → Option (MutBor HeldServers) → Fml
BorrowsHeld s r = LendsIf slot_row held_row s r (with_held s.now) s.now

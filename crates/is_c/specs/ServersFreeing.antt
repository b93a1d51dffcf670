-- What is left of clients of servers that were freed: the memory of their slot, which holds none.
use base.Fml.{Fml, fex, fsep, feq}
use base.Fraction.{full_share}
use denote.RawPtr.{Ptr, lies_at}
use Rattle.std.specs.Prelude.{Option, None}
use Rattle.is_c.specs.declared.servers.slot.ServersSlot.{ServersSlot}
use Rattle.is_c.specs.contracts.servers.slot.ServersSlot.{the_row as slot_row}
use Rattle.is_c.specs.ServersHeld.{Clients, clients_held}

abbrev pub freed_at : Ptr → Fml
freed_at p = fex ServersSlot (λ s. fsep (lies_at slot_row full_share p s) (feq (Option Clients) (clients_held s) None))

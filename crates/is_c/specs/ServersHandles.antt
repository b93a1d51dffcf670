-- What a handle of clients owns: nothing, or the same as a `Box<HeldServers>`.
use base.Fml.{Fml, ftrue}
use base.Stored.{Coded}
use denote.RawPtr.{Ptr}
use Rattle.std.specs.Prelude.{Option, Some, None}
use Rattle.std.specs.Coded.{coded_option}
use Rattle.std.specs.Box.Ownership.{box_owns}
use Rattle.std.specs.Global.{Global}
use Rattle.std_heap.specs.contracts.GlobalAllocator.TheImpl.{ghosts}
use Rattle.is_c.specs.contracts.servers.held.HeldServers.{the_row}

-- what a handle of clients owns on the heap: nothing, or the box of its clients
abbrev pub handle_owns : Global → Ptr → Option the_row.Denot → Fml
handle_owns alloc p None = ftrue
handle_owns alloc p (Some held) = box_owns (ghosts.dealloc_token alloc) the_row p held

abbrev pub held_coded : Coded (Option the_row.Denot)
held_coded = coded_option the_row.coded

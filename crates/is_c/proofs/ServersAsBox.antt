-- The handle of clients of servers and its parts own what a box at the same types owns.
use mir.Syntax.{impl, tnil, dnil}
use mathlib.Core.List.{[]}
use denote.Signature.{Slot, plain}
use Rattle.std_alloc.proofs.BoxSteps.Form.{Bx}
use Rattle.std_heap.specs.contracts.Global as Heap
use Rattle.std_heap.specs.contracts.GlobalAllocator.TheImpl.{ghosts, dict}
use Rattle.std_heap.proofs.Global.TheLaws as heap
use Rattle.is_c.specs.contracts.servers.held.HeldServers as HeldServers
use Rattle.is_c.proofs.servers.held.HeldServers.TheLaws as held
use Rattle.is_c.specs.contracts.parts.Parts as Parts
use Rattle.is_c.specs.contracts.servers.handle.ServersHandle as ServersHandle

abbrev pub E : Bx
E = record { row = HeldServers.the_row; laws = held.the_row_laws; al = record { row = Heap.the_row; laws = heap.the_row_laws; g = ghosts; d = dict; drops = impl [] tnil dnil } }

abbrev pub FromParts : Slot 0
FromParts = plain (λ _. Parts.the_row HeldServers.the_row Heap.the_row ghosts)

abbrev pub FromSeal : Slot 0
FromSeal = plain (λ _. ServersHandle.the_row)

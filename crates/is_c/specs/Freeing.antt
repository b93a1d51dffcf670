-- What is left of an agent that was freed: the memory of its slot, which holds none.
use base.Fml.{Fml, fex, fsep, feq}
use base.Fraction.{full_share}
use denote.RawPtr.{Ptr, lies_at}
use Rattle.std.specs.Prelude.{Option, None}
use Rattle.is_c.specs.declared.slot.Slot.{Slot}
use Rattle.is_c.specs.contracts.slot.Slot.{the_row as slot_row}
use Rattle.is_c.specs.Slots.{held_by}
use Rattle.is_c_calls.specs.Held.{HeldRecord}

abbrev pub freed_at : Ptr → Fml
freed_at p = fex Slot (λ s. fsep (lies_at slot_row full_share p s) (feq (Option HeldRecord) (held_by s) None))

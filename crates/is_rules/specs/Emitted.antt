-- What a call emits: the packet that it issues, and the paths that it selects.
use Rattle.std.specs.Prelude.{ℕ, List, [], ◌∷◌, Option, Some, None}
use Rattle.is_stun.specs.declared.header.Class.{Class}
use Rattle.is_rules.specs.declared.emitted.Path.{Path}
use Rattle.is_rules.specs.declared.emitted.Issued.{Issued}
use Rattle.is_rules.specs.declared.emitted.Emitted.{Emitted}

abbrev pub nothing_emitted : Emitted
nothing_emitted = record { issued = None; selected_paths = None ∷ None ∷ [] }

-- this packet, with the transaction ID, and no path
abbrev pub issued_only : Path → Class → List ℕ → Emitted
issued_only path class id = record {
  issued = Some record { path = path; class = class; id = record { 0 = id } };
  selected_paths = None ∷ None ∷ [];
}

-- no packet, and this path if there is one
abbrev pub selected_only : Option Path → Emitted
selected_only path = record { issued = None; selected_paths = path ∷ None ∷ [] }

-- the reverse path
abbrev pub reversed : Path → Path
reversed path = record { proto = path.proto; source = path.destination; destination = path.source }

-- the paths in the order in which they were selected
abbrev pub selected_in : Option Path → Option Path → List (Option Path)
selected_in (Some path) second = Some path ∷ second ∷ []
selected_in None second = second ∷ None ∷ []

abbrev pub emitted_by : Option Issued → Option Path → Option Path → Emitted
emitted_by issued first second = record { issued = issued; selected_paths = selected_in first second }

abbrev pub issued_as : Path → Class → List ℕ → Issued
issued_as path class id = record { path = path; class = class; id = record { 0 = id } }

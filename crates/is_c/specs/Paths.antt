-- A path for media before one is selected, as C gets it.
use Rattle.std.specs.Prelude.{◌≡◌, Option, Some, None, ℤ}
use Rattle.is_rules.specs.declared.emitted.Path.{Path}
use Rattle.is_rules.specs.Questions.{FindsValidPath}
use Rattle.is_c.specs.declared.paths.MediaPath.{MediaPath}
use Rattle.is_c_calls.specs.Addresses.{socket_of, protocol_of}
use Rattle.is_c_calls.specs.Codes.{OK, NOTHING}
use Rattle.is_c_calls.specs.Held.{HeldRecord}

-- C gets this path
abbrev pub IsMediaPath : Path → MediaPath → Type 0
IsMediaPath path m =
    (socket_of m.source ≡ Some path.source) × (socket_of m.destination ≡ Some path.destination)
    × (protocol_of m.protocol ≡ Some path.proto)

abbrev pub PutsPath : Option Path → MediaPath → MediaPath → ℤ → Type 0
PutsPath None before after code = (code ≡ NOTHING) × (after ≡ before)
PutsPath (Some path) before after code = (code ≡ OK) × IsMediaPath path after

-- `is_ice_valid_path`: the path of a valid pair of greatest priority
abbrev pub ReturnsValidPath : MediaPath → MediaPath → HeldRecord → ℤ → HeldRecord → Type 0
ReturnsValidPath before after old code new =
    (path : Option Path) × FindsValidPath old.agent path × PutsPath path before after code × (new ≡ old)

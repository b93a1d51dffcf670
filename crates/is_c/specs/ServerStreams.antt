-- The ends of the frames of a stream, as C gets them.
use Rattle.std.specs.Prelude.{◌≡◌, ℕ, ℤ}
use Rattle.is_servers.specs.declared.framing.Frame.{Frame}
use Rattle.is_servers.specs.declared.framing.Frame.TheVariants.{TooShort, Neither, Of}
use Rattle.is_c_calls.specs.Codes.{OK, NOTHING, UNPARSED}

-- `is_ice_frame_length`
abbrev pub PutsFrame : Frame → ℕ → ℤ → ℕ → Type 0
PutsFrame (Of n) before code after = (code ≡ OK) × (after ≡ n)
PutsFrame TooShort before code after = (code ≡ NOTHING) × (after ≡ before)
PutsFrame Neither before code after = (code ≡ UNPARSED) × (after ≡ before)

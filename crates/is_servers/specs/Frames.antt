-- The end of a message in a stream (RFC 8489, section 5; RFC 8656, section 12.5).
use Rattle.std.specs.Prelude.{ℕ, ◌+◌, ◌*◌, ◌/◌, ◌-◌, List, ◌∷◌, nat_lt, replicate, if◌then◌else◌}
use Rattle.is_stun.specs.Tlv.{u16_of}
use Rattle.is_servers.specs.declared.framing.Frame.{Frame}
use Rattle.is_servers.specs.declared.framing.Frame.TheVariants.{TooShort, Neither, Of}

-- rounded up to a multiple of four
abbrev pub padded : ℕ → ℕ
padded n = (n + 3) / 4 * 4

-- the bytes of padding after so many bytes
abbrev pub padding : ℕ → List ℕ
padding n = replicate (padded n - n) 0

-- how long a message is, by its first byte: a STUN message has 20 bytes before its attributes; ChannelData, whose number is 0x4000 to
-- 0x4FFF, has 4 before the data, and padding after it
abbrev pub frame_of : ℕ → ℕ → Frame
frame_of first len =
    if nat_lt first 0x40 then Of (20 + len)
    else if nat_lt first 0x50 then Of (4 + padded len)
    else Neither

-- the length is in the third and the fourth byte
abbrev pub frame_length : List ℕ → Frame
frame_length (first ∷ second ∷ l0 ∷ l1 ∷ rest) = frame_of first (u16_of l0 l1)
frame_length _ = TooShort

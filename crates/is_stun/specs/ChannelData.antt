-- ChannelData (RFC 8656, section 12.4): the number of a channel, the length of the data, the data.
use Rattle.std.specs.Prelude.{◌≡◌, ℕ, ◌^◌, ◌<◌, ◌&&◌, Bool, true, List, ◌∷◌, ◌++◌, length, take, Option, Some, None, nat_le, if◌then◌else◌}
use Rattle.std.specs.Int.{w16, to_be_bytes}
use Rattle.is_stun.specs.Tlv.{u16_of}

-- the numbers that a channel can have (RFC 8656, section 12)
abbrev pub is_channel : ℕ → Bool
is_channel number = nat_le 0x4000 number && nat_le number 0x4FFF

-- the bytes before the data
abbrev pub channel_header : ℕ → ℕ → List ℕ
channel_header number len = to_be_bytes w16 number ++ to_be_bytes w16 len

-- ChannelData, as it is written
abbrev pub channel_data : ℕ → List ℕ → List ℕ
channel_data number «data» = channel_header number (length «data») ++ «data»

-- the number and the data that bytes carry; what follows the data is padding, and ignored
unfoldable pub channel_data_of : List ℕ → Option (ℕ × List ℕ)
channel_data_of (n0 ∷ n1 ∷ l0 ∷ l1 ∷ rest) =
    if is_channel (u16_of n0 n1) && nat_le (u16_of l0 l1) (length rest) then Some (u16_of n0 n1, take (u16_of l0 l1) rest) else None
channel_data_of _ = None

-- what was written is read, whatever follows it
abbrev pub ChannelDataIsRead : ℕ → List ℕ → List ℕ → Type 0
ChannelDataIsRead number «data» rest =
    is_channel number ≡ true → length «data» < 2 ^ 16 → channel_data_of (channel_data number «data» ++ rest) ≡ Some (number, «data»)

-- What a datagram of a TURN server is (RFC 8656, sections 11.4 and 12.6).
use Rattle.std.specs.Prelude.{ℕ, ◌&&◌, Bool, true, false, List, is_some, nat_le, slice_index, Option, Some, None, if◌then◌else◌}
use Rattle.std.specs.declared.net.socket_addr.SocketAddr.{SocketAddr}
use Rattle.is_stun.specs.declared.header.Class.{Class}
use Rattle.is_stun.specs.declared.header.Class.TheVariants.{Indication}
use Rattle.is_stun.specs.declared.header.Method.{Method}
use Rattle.is_stun.specs.declared.header.Method.TheVariants as methods
use Rattle.is_stun.specs.ChannelData.{channel_data_of}
use Rattle.is_stun.specs.Form.{form_fault}
use Rattle.is_stun.specs.Message.{Message}
use Rattle.is_stun.specs.MessageView.{message_view}
use Rattle.is_stun.specs.Reading.{message_of}
use Rattle.is_turn.specs.declared.incoming.Incoming.{Incoming}
use Rattle.is_turn.specs.declared.incoming.Incoming.TheVariants.{ChannelData, Data, Response, Malformed, Unasked, Unparsed}
use Rattle.is_turn.specs.Answer.{is_response}

-- ---- a datagram, without its place in memory

pub data Datagram : Type 0 where
  channel_data : ℕ → List ℕ → Datagram
  peer_data : SocketAddr → List ℕ → Datagram
  response : Message → Datagram
  malformed : Datagram
  unasked : Datagram
  unparsed : Datagram

-- a datagram as the code reads it, without its memory layout
abbrev pub incoming_view : Incoming → Datagram
incoming_view (ChannelData number contents) = channel_data number contents.now
incoming_view (Data peer contents) = peer_data peer contents.now
incoming_view (Response m) = response (message_view m)
incoming_view Malformed = malformed
incoming_view Unasked = unasked
incoming_view Unparsed = unparsed

-- ---- what bytes are

-- the two top bits of a STUN message are 0 (RFC 8489, section 5)
abbrev pub has_top_bits : List ℕ → Bool
has_top_bits bytes = nat_le 64 (slice_index bytes 0)

abbrev pub is_data_method : Method → Bool
is_data_method methods.Data = true
is_data_method _ = false

abbrev pub is_indication : Class → Bool
is_indication Indication = true
is_indication _ = false

abbrev pub is_data : Message → Bool
is_data m = is_data_method m.method && is_indication m.class

abbrev pub data_or : Option SocketAddr → Option (List ℕ) → Datagram
data_or (Some peer) (Some contents) = peer_data peer contents
data_or None contents = malformed
data_or (Some peer) None = malformed

abbrev pub datagram_by : Message → Datagram
datagram_by m =
    if is_data m then data_or m.attributes.xor_peer_address m.attributes.«data»
    else if is_response m.class then response m
    else unasked

abbrev pub no_channel_data : List ℕ → Datagram
no_channel_data bytes =
    if has_top_bits bytes then unparsed
    else if is_some (form_fault bytes) then unparsed
    else datagram_by (message_of bytes)

abbrev pub datagram_or : Option (ℕ × List ℕ) → List ℕ → Datagram
datagram_or (Some read) bytes = channel_data read.0 read.1
datagram_or None bytes = no_channel_data bytes

-- ChannelData, or else a message
abbrev pub datagram_of : List ℕ → Datagram
datagram_of bytes = datagram_or (channel_data_of bytes) bytes

-- Datagrams and packets of the clients of servers, as C has them.
use Rattle.std.specs.Prelude.{◌≡◌, ℕ, ◌<◌, ◌≤◌, Bool, true, false, bytes_eq, List, [], ◌∷◌, length, take, drop, nat_lt, Option, Some, None, MatchBool, Result, Ok, Err, ℤ}
use Rattle.std.specs.declared.net.socket_addr.SocketAddr.{SocketAddr}
use Rattle.is_proto.specs.declared.error.StunError.{StunError}
use Rattle.is_stun.specs.declared.trans_id.TransId.{TransId}
use Rattle.is_turn.specs.OneRelay.{Arrived}
use Rattle.is_servers.specs.declared.packets.ServerOutgoing.{ServerOutgoing}
use Rattle.is_servers.specs.declared.packets.ServerOutgoing.TheVariants.{AsItIs, Through, Nowhere}
use Rattle.is_servers.specs.declared.packets.ServerPacket.{ServerPacket}
use Rattle.is_servers.specs.Calls.{Receives, Sends, PollsNext}
use Rattle.is_c.specs.declared.servers.ends.Ends.{Ends}
use Rattle.is_c.specs.declared.servers.packets.Arrival.{Arrival}
use Rattle.is_c.specs.ServersHeld.{Clients, Mac, NO_RELAY, Fails, at_time, transport_of}
use Rattle.is_c.specs.StunWrite.{write_code}
use Rattle.is_c_calls.specs.declared.packets.Packet.{Packet}
use Rattle.is_c_calls.specs.Addresses.{socket_of}
use Rattle.is_c_calls.specs.Codes.{OK, NOTHING, BAD_ADDRESS, TOO_FEW_RANDOM_BYTES}

-- ---- a part of the caller's bytes

abbrev pub begins_at : List ℕ → List ℕ → ℕ → Bool
begins_at whole part at = bytes_eq part (take (length part) (drop at whole))

-- the part begins at no place below the end, from the first place on
abbrev pub BeginsAtNone : List ℕ → List ℕ → (first end : ℕ) → Type 0
BeginsAtNone whole part first end = (k : ℕ) → first ≤ k → k < end → begins_at whole part k ≡ false

-- the first place at which it begins
abbrev pub IsPlaceFrom : List ℕ → List ℕ → ℕ → Option ℕ → Type 0
IsPlaceFrom whole part first (Some at) = (begins_at whole part at ≡ true) × BeginsAtNone whole part first at
IsPlaceFrom whole part first None = BeginsAtNone whole part first (length whole)

-- the empty part begins with the bytes
abbrev pub IsOffset : List ℕ → List ℕ → Option ℕ → Type 0
IsOffset whole [] place = place ≡ Some 0
IsOffset whole (b ∷ bs) place = IsPlaceFrom whole (b ∷ bs) 0 place

-- ---- received datagrams

-- what arrived, as a part of the bytes
pub record IsArrival (d : Arrived) (start : ℕ) (arrival : Arrival) : Type 0 where
  pub source : socket_of arrival.source ≡ Some d.source
  pub destination : socket_of arrival.destination ≡ Some d.destination
  pub offset : arrival.offset ≡ start
  pub length : arrival.length ≡ length d.contents

abbrev pub PutsPlaced : Option ℕ → Arrived → Arrival → Arrival → ℤ → Type 0
PutsPlaced None d before after code = (code ≡ NOTHING) × (after ≡ before)
PutsPlaced (Some offset) d before after code = (code ≡ OK) × IsArrival d offset after

abbrev pub PutsArrival : List ℕ → Option Arrived → Arrival → Arrival → ℤ → Type 0
PutsArrival bytes None before after code = (code ≡ NOTHING) × (after ≡ before)
PutsArrival bytes (Some d) before after code = (place : Option ℕ) × IsOffset bytes d.contents place × PutsPlaced place d before after code

-- `is_ice_servers_receive`: what is for the agent of a datagram is a part of it
abbrev pub TakesArrival : Mac → ℕ → List ℕ → Arrival → Arrival → Ends → Clients → ℤ → Clients → Type 0
TakesArrival mac now bytes before after ends old code new =
    (d : Option Arrived) × Receives ends.transport mac (at_time now) ends.local ends.remote bytes old d new × PutsArrival bytes d before after code

-- a datagram is taken with these addresses; without them what would be written stays
abbrev pub TakesWith : Mac → ℕ → Option Ends → List ℕ → Arrival → Arrival → Clients → ℤ → Clients → Type 0
TakesWith mac now None bytes before after old code new = Fails BAD_ADDRESS old code new × (after ≡ before)
TakesWith mac now (Some ends) bytes before after old code new = TakesArrival mac now bytes before after ends old code new

-- ---- packets to send

-- C gets this packet
pub record IsSent (p : ServerPacket) (packet : Packet) : Type 0 where
  pub source : socket_of packet.source ≡ Some p.local
  pub destination : socket_of packet.destination ≡ Some p.server
  pub length : packet.length ≡ p.len
  pub protocol : transport_of packet.protocol ≡ Some p.transport

abbrev pub PutsNoPacket : ℤ → Packet → Packet → ℤ → Type 0
PutsNoPacket why before after code = (code ≡ why) × (after ≡ before)

abbrev pub PutsOutgoing : Result ServerOutgoing StunError → Packet → Packet → ℤ → Type 0
PutsOutgoing (Ok AsItIs) before after code = PutsNoPacket NOTHING before after code
PutsOutgoing (Ok Nowhere) before after code = PutsNoPacket NO_RELAY before after code
PutsOutgoing (Ok (Through p)) before after code = (code ≡ OK) × IsSent p after
PutsOutgoing (Err e) before after code = PutsNoPacket (write_code e) before after code

-- the first twelve random bytes
abbrev pub id_in : List ℕ → TransId
id_in random = record { 0 = take 12 random }

-- a packet goes out, written as it goes through a server, or as it is
abbrev pub GoesOut : ℕ → List ℕ → List ℕ → (room written : List ℕ) → (before after : Packet) → SocketAddr × SocketAddr → Clients → ℤ → Clients → Type 0
GoesOut now bytes random room written before after pair old code new =
    (r : Result ServerOutgoing StunError) × Sends (at_time now) pair.0 pair.1 bytes (id_in random) room written old r new
    × PutsOutgoing r before after code

-- a packet does not go out: what would be written stays
abbrev pub StaysHere : ℤ → (room written : List ℕ) → (before after : Packet) → Clients → ℤ → Clients → Type 0
StaysHere why room written before after old code new = Fails why old code new × (written ≡ room) × (after ≡ before)

abbrev pub GoesOutWith : ℕ → Option (SocketAddr × SocketAddr) → List ℕ → List ℕ → (room written : List ℕ) → (before after : Packet) → Clients
    → ℤ → Clients → Type 0
GoesOutWith now None bytes random room written before after old code new = StaysHere BAD_ADDRESS room written before after old code new
GoesOutWith now (Some pair) bytes random room written before after old code new =
    GoesOut now bytes random room written before after pair old code new

-- `is_ice_servers_outgoing`
abbrev pub GoesOutAt : ℕ → Option (SocketAddr × SocketAddr) → List ℕ → List ℕ → (room written : List ℕ) → (before after : Packet) → Clients
    → ℤ → Clients → Type 0
GoesOutAt now pair bytes random room written before after old code new =
    MatchBool (nat_lt (length random) 12)
    (StaysHere TOO_FEW_RANDOM_BYTES room written before after old code new)
    (GoesOutWith now pair bytes random room written before after old code new)

-- ---- packets of the clients

abbrev pub PutsPolled : Result (Option ServerPacket) StunError → Packet → Packet → ℤ → Type 0
PutsPolled (Ok None) before after code = PutsNoPacket NOTHING before after code
PutsPolled (Ok (Some p)) before after code = (code ≡ OK) × IsSent p after
PutsPolled (Err e) before after code = PutsNoPacket (write_code e) before after code

-- `is_ice_servers_poll_transmit`
abbrev pub GivesNext : Mac → (room written : List ℕ) → (before after : Packet) → Clients → ℤ → Clients → Type 0
GivesNext mac room written before after old code new =
    (r : Result (Option ServerPacket) StunError) × PollsNext mac room written old r new × PutsPolled r before after code

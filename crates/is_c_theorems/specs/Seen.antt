-- What C sees of its calls: the bytes that it passed, and the packets and events that it got.
use Rattle.std.specs.Prelude.{◌≡◌, ℕ, ◌⊎◌, ◌==◌, Bool, true, false, not, List, [], ◌∷◌, take, Option, Some, None, if◌then◌else◌, pos}
use Rattle.std.specs.Option.{option_map_or}
use Rattle.is_proto.specs.Lists.{Has}
use Rattle.is_proto.specs.Packets as packets
use Rattle.is_stun.specs.declared.header.Class.TheVariants as class
use Rattle.is_stun.specs.Message.{Message}
use Rattle.is_stun.specs.Reading.{Reads}
use Rattle.is_stun.specs.Theorems.{IsPut}
use Rattle.is_rules.specs.declared.credentials.IceCreds.{IceCreds}
use Rattle.is_rules.specs.declared.emitted.Path.{Path}
use Rattle.is_rules.specs.Issuing.{via_out}
use Rattle.is_c_calls.specs.declared.address.Address.{Address}
use Rattle.is_c_calls.specs.declared.events.Event.{Event}
use Rattle.is_c_calls.specs.declared.packets.Packet.{Packet}
use Rattle.is_c_calls.specs.Codes.{OK}
use Rattle.is_c_calls.specs.Held.{HeldRecord}
use Rattle.is_c_calls.specs.Packets.{packet_path}
use Rattle.is_c_calls.specs.Sessions.{Used, is_ok}
use Rattle.is_c_calls.specs.Uses.{Use, SetRemoteCredentials, Restart, RecreatePairs, HandlePacket, PollTransmit, PollEvent}

-- ---- one call

-- C passed a message to `is_ice_handle_packet`, received on this path, and OK was returned.
abbrev pub Accepts : Used → Path → Message → Type 0
Accepts u by m =
    (now protocol : ℕ) × (source destination : Address) × (bytes : List ℕ)
    × (u.export ≡ HandlePacket now protocol source destination bytes) × (packet_path protocol source destination ≡ Some by) × Reads bytes m × (u.code ≡ OK)

-- C got these bytes from `is_ice_poll_transmit`, to be sent on this path.
abbrev pub Gets : Used → Path → List ℕ → Type 0
Gets u to bytes =
    (before after : List ℕ) × (known reported : Packet)
    × (u.export ≡ PollTransmit before after known reported) × (packet_path reported.protocol reported.source reported.destination ≡ Some to)
    × (take reported.length after ≡ bytes) × (u.code ≡ OK)

-- C got a `NominatedSend` of this path from `is_ice_poll_event`.
abbrev pub Selects : Used → Path → Type 0
Selects u path =
    (before after : Event) × (u.export ≡ PollEvent before after) × (after.kind ≡ pos 4) × (packet_path after.protocol after.source after.destination ≡ Some path)
    × (u.code ≡ OK)

-- The bytes were written for a request with this ID, and read as no other message.
abbrev pub IsCheckIn : List ℕ → List ℕ → Type 0
IsCheckIn bytes id = (m : Message) × IsPut bytes m × (m.class ≡ class.Request) × (m.id ≡ id)

-- The request nominates: with NOMINATION above 0 or USE-CANDIDATE, and with USE-CANDIDATE only if there is no NOMINATION, or nominations have
-- no numbers.
abbrev pub nominates : Bool → Message → Bool
nominates numbered m = if numbered then option_map_or (λ n. not (n == 0)) m.attributes.nomination m.attributes.use_candidate else m.attributes.use_candidate

-- ---- all calls

abbrev pub restarts : Use → Bool
restarts (Restart ufrag pass keep) = true
restarts _ = false

-- a restart that returned OK
abbrev pub is_restart : Used → Bool
is_restart u = if restarts u.export then is_ok u.code else false

abbrev pub clears : Use → Bool
clears (Restart ufrag pass keep) = true
clears RecreatePairs = true
clears _ = false

-- a restart that returned OK, or pairs that were formed again
abbrev pub is_clear : Used → Bool
is_clear u = if clears u.export then is_ok u.code else false

-- the credentials of the peer that C set last, none since a restart
abbrev pub peer_by : Use → Option IceCreds → Option IceCreds
peer_by (SetRemoteCredentials ufrag pass) old = Some (record { ufrag = ufrag; pass = pass })
peer_by (Restart ufrag pass keep) old = None
peer_by _ old = old

abbrev pub peer_of : List Used → Option IceCreds
peer_of [] = None
peer_of (u ∷ before) = if is_ok u.code then peer_by u.export (peer_of before) else peer_of before

-- It holds of one of these calls, newest first, and of those before it, up to the last one that ends it, as a restart.
abbrev pub Since : (ends : Used → Bool) → (Used → List Used → Type 0) → List Used → Type 0
Since ends Is [] = ⊥
Since ends Is (u ∷ before) = Is u before ⊎ ((ends u ≡ false) × Since ends Is before)

-- The packet is still to be polled.
abbrev pub IsToPoll : HeldRecord → packets.Packet → Type 0
IsToPoll held p = (held.waiting ≡ Some p) ⊎ Has held.agent.packets p

-- A check with this ID was given to C for the path since pairs were last cleared, or is still to be polled.
abbrev pub IsChecked : List Used → HeldRecord → Path → List ℕ → Type 0
IsChecked uses held path id =
    Since is_clear (λ u before. (bytes : List ℕ) × Gets u path bytes × IsCheckIn bytes id) uses
    ⊎ ((p : packets.Packet) × IsToPoll held p × (via_out p ≡ path) × IsCheckIn p.contents id)

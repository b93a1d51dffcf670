-- The lines of a session's log: what each says, and what is written of it.
use Rattle.std.specs.Prelude.{◌≡◌, ◌⊎◌, ℕ, ◌==◌, List, ◌++◌, Option, Some, None, slice_get, option_map, if◌then◌else◌, ℤ, pos, negsuc}
use Rattle.std.specs.declared.net.socket_addr.SocketAddr.{SocketAddr}
use Rattle.is_pair.specs.declared.checklist.removed.RemovedPair.{RemovedPair}
use Rattle.is_proto.specs.declared.error.StunError.{StunError}
use Rattle.is_stun.specs.Form.{ReadsAny, FailsAnyBy}
use Rattle.is_stun.specs.Message.{Message}
use Rattle.is_stun.specs.Reading.{Reads, FailsBy}
use Rattle.is_rules.specs.declared.emitted.Path.{Path}
use Rattle.is_rules.specs.declared.event.IceConnectionState.{IceConnectionState}
use Rattle.is_rules.specs.declared.event.IceConnectionState.TheVariants.{New, Checking, Connected, Completed, Disconnected}
use Rattle.is_agent.specs.declared.rejecting.Rejection.{Rejection}
use Rattle.is_agent.specs.declared.unserved.Unserved.{Unserved}
use Rattle.is_agent.specs.Rejecting.{IsRejection}
use Rattle.is_agent.specs.Removed.{path_between_some}
use Rattle.is_agent.specs.Unserved.{UnservedIs}
use Rattle.is_c_calls.specs.declared.events.Event.{Event}
use Rattle.is_c.specs.declared.log_texts.Kind.{Kind}
use Rattle.is_c.specs.declared.log_texts.Reason.{Reason}
use Rattle.is_c.specs.declared.log_texts.Reason.TheVariants.{Rejected, Unanswered}
use Rattle.is_c.specs.declared.log_texts.Said.{Said}
use Rattle.is_c.specs.declared.log_texts.Said.TheVariants.{Begins, Enters, Discovers, Selects, Silent, Heard, Loses, Leaves}
use Rattle.is_c.specs.LogTexts.{kind_text, reason_text, line_text}
use Rattle.is_c_calls.specs.Addresses.{socket_of}
use Rattle.is_c_calls.specs.Codes.{NOTHING, BAD_ADDRESS, OUT_OF_MEMORY}
use Rattle.is_c_calls.specs.Held.{Held, HeldRecord}
use Rattle.is_c_calls.specs.Packets.{Mac}
use Rattle.is_c_calls.specs.Texts.{Puts, PutsNone}

-- the line, in the caller's buffer
abbrev pub PutsSaid : List ℕ → Said → List ℕ → ℕ → ℤ → List ℕ → ℕ → Type 0
PutsSaid ufrag said before was code after count =
    PutsNone OUT_OF_MEMORY before was code after count ⊎ Puts (line_text ufrag said) before code after count

-- ---- events, as C passes them

abbrev pub state_of : ℤ → Option IceConnectionState
state_of (pos n) =
    if n == 0 then Some New
    else (if n == 1 then Some Checking
    else (if n == 2 then Some Connected
    else (if n == 3 then Some Completed
    else (if n == 4 then Some Disconnected else None))))
state_of (negsuc n) = None

abbrev pub said_between : (SocketAddr → SocketAddr → Said) → Option SocketAddr → Option SocketAddr → Option Said
said_between said (Some source) (Some destination) = Some (said source destination)
said_between said (Some source) None = None
said_between said None destination = None

-- what the line of an event says, by its kind; None: C passed no event
abbrev pub event_said : Event → Option Said
event_said e = by e.kind where
  by : ℤ → Option Said
  by (pos n) =
      if n == 1 then Some Begins
      else (if n == 2 then option_map Enters (state_of e.state)
      else (if n == 3 then option_map Discovers (socket_of e.source)
      else (if n == 4 then said_between Selects (socket_of e.source) (socket_of e.destination)
      else (if n == 5 then said_between Silent (socket_of e.source) (socket_of e.destination)
      else (if n == 6 then said_between Heard (socket_of e.source) (socket_of e.destination) else None)))))
  by (negsuc n) = None

abbrev pub PutsEvent : List ℕ → Option Said → List ℕ → ℕ → ℤ → List ℕ → ℕ → Type 0
PutsEvent ufrag None before was code after count = PutsNone BAD_ADDRESS before was code after count
PutsEvent ufrag (Some said) before was code after count = PutsSaid ufrag said before was code after count

-- `is_ice_event_line`
abbrev pub LogsEvent : Event → List ℕ → ℕ → List ℕ → ℕ → HeldRecord → ℤ → HeldRecord → Type 0
LogsEvent e before was after count old code new =
    PutsEvent old.agent.local_creds.ufrag (event_said e) before was code after count × (new ≡ old)

-- ---- removed pairs

abbrev pub PutsRemoved : Held → Option RemovedPair → List ℕ → ℕ → ℤ → List ℕ → ℕ → Type 0
PutsRemoved a None before was code after count = PutsNone NOTHING before was code after count
PutsRemoved a (Some p) before was code after count =
    PutsSaid a.local_creds.ufrag (Loses p (path_between_some a p.local p.remote)) before was code after count

-- `is_ice_removed_line`: the one that was removed first has index 0
abbrev pub LogsRemoved : List RemovedPair → ℕ → List ℕ → ℕ → List ℕ → ℕ → HeldRecord → ℤ → HeldRecord → Type 0
LogsRemoved removed index before was after count old code new =
    PutsRemoved old.agent (slice_get removed index) before was code after count × (new ≡ old)

-- ---- datagrams

abbrev pub kind_of : Message → Kind
kind_of m = record { method = m.method; class = m.class; error = option_map (λ e. e.0) m.attributes.error_code }

-- None: the bytes encode no message
abbrev pub IsKind : List ℕ → Option Kind → Type 0
IsKind bytes None = (e : StunError) × FailsAnyBy bytes e
IsKind bytes (Some kind) = (m : Message) × ReadsAny bytes m × (kind ≡ kind_of m)

abbrev pub reason_of : Option Rejection → Option Unserved → Option Reason
reason_of (Some why) left = Some (Rejected why)
reason_of None left = option_map Unanswered left

-- None: there is no reason, or the message lacks what ICE requires
abbrev pub IsReason : Mac → Held → Path → List ℕ → Option Reason → Type 0
IsReason mac a path bytes why =
    ((e : StunError) × FailsBy bytes e × (why ≡ None))
    ⊎ ((m : Message) × Reads bytes m × ((rejected : Option Rejection) × (left : Option Unserved)
    × IsRejection mac a path m rejected × UnservedIs mac a path m left × (why ≡ reason_of rejected left)))

abbrev pub PutsPacket : Mac → Held → Option Path → List ℕ → List ℕ → ℕ → ℤ → List ℕ → ℕ → Type 0
PutsPacket mac a None bytes before was code after count = PutsNone BAD_ADDRESS before was code after count
PutsPacket mac a (Some path) bytes before was code after count =
    (kind : Option Kind) × (why : Option Reason) × IsKind bytes kind × IsReason mac a path bytes why
    × PutsSaid a.local_creds.ufrag (Leaves kind why path) before was code after count

-- `is_ice_packet_line`
abbrev pub LogsPacket : Mac → Option Path → List ℕ → List ℕ → ℕ → List ℕ → ℕ → HeldRecord → ℤ → HeldRecord → Type 0
LogsPacket mac path bytes before was after count old code new =
    PutsPacket mac old.agent path bytes before was code after count × (new ≡ old)

-- the kind of message and the reason, without addresses
abbrev pub PutsKind : Mac → Held → Option Path → List ℕ → List ℕ → ℕ → ℤ → List ℕ → ℕ → Type 0
PutsKind mac a None bytes before was code after count = PutsNone BAD_ADDRESS before was code after count
PutsKind mac a (Some path) bytes before was code after count =
    (kind : Option Kind) × (why : Option Reason) × IsKind bytes kind × IsReason mac a path bytes why
    × (PutsNone OUT_OF_MEMORY before was code after count ⊎ Puts (kind_text kind ++ reason_text why) before code after count)

-- `is_ice_packet_kind`
abbrev pub NamesPacket : Mac → Option Path → List ℕ → List ℕ → ℕ → List ℕ → ℕ → HeldRecord → ℤ → HeldRecord → Type 0
NamesPacket mac path bytes before was after count old code new =
    PutsKind mac old.agent path bytes before was code after count × (new ≡ old)

-- What the library keeps next to an agent for C: the monitor of its paths, and packets that C could not send.
use Rattle.std.specs.Prelude.{◌≡◌, ℕ, ◌*◌, ◌⊎◌, Bool, true, false, List, [], Option, Some, None, option_map, Result, Ok, Err, ℤ, pos}
use Rattle.is_proto.specs.Times.{SECOND}
use Rattle.is_proto.specs.declared.Duration.{Duration}
use Rattle.is_proto.specs.declared.error.IceError.{IceError}
use Rattle.is_rules.specs.declared.emitted.Path.{Path}
use Rattle.is_monitor.specs.declared.failures.FailedSend.{FailedSend}
use Rattle.is_monitor.specs.declared.monitor.Monitor.{Monitor}
use Rattle.is_monitor.specs.declared.monitor.Silence.{Silence}
use Rattle.is_monitor.specs.declared.monitor.Silence.TheVariants.{Silent, Heard}
use Rattle.is_monitor.specs.Failures.{Notes}
use Rattle.is_monitor.specs.Monitors.{fresh_monitor, observed, restarted, with_threshold}
use Rattle.is_c_calls.specs.declared.events.Event.{Event}
use Rattle.is_c_calls.specs.Addresses.{socket_of, protocol_of}
use Rattle.is_c_calls.specs.Codes.{OK, NOTHING, BAD_ADDRESS, OUT_OF_MEMORY}
use Rattle.is_c_calls.specs.Held.{Held, HeldRecord, Rejects}
use Rattle.is_c_calls.specs.Limits.{limit_of}

-- ---- silence

-- after what time a path counts as silent, as C sets it: the greatest number means never
abbrev pub threshold_of : ℕ → Option Duration
threshold_of n = option_map (λ t. record { 0 = t }) (limit_of n)

-- until C sets another time
abbrev pub DEFAULT_SILENCE : ℕ
DEFAULT_SILENCE = 5 * SECOND

abbrev pub default_monitor : Monitor
default_monitor = fresh_monitor (Some (record { 0 = DEFAULT_SILENCE }))

-- `is_ice_set_silence`
abbrev pub SetsSilence : ℕ → HeldRecord → ℤ → HeldRecord → Type 0
SetsSilence n old code new = (code ≡ OK) × (new ≡ record old { monitor = with_threshold (threshold_of n) old.monitor })

-- what C gets of a path that is silent, or heard again
abbrev pub IsPathEvent : ℤ → Path → Event → Event → Type 0
IsPathEvent kind path before after =
    (after ≡ record before { kind = kind; protocol = after.protocol; source = after.source; destination = after.destination })
    × (protocol_of after.protocol ≡ Some path.proto) × (socket_of after.source ≡ Some path.source)
    × (socket_of after.destination ≡ Some path.destination)

abbrev pub IsSilence : Silence → Event → Event → Type 0
IsSilence (Silent path) before after = IsPathEvent (pos 5) path before after
IsSilence (Heard path) before after = IsPathEvent (pos 6) path before after

abbrev pub ReturnsSilence : Option Silence → Event → Event → ℤ → Type 0
ReturnsSilence None before after code = (code ≡ NOTHING) × (after ≡ before)
ReturnsSilence (Some s) before after code = (code ≡ OK) × IsSilence s before after

-- ---- what the monitor sees

-- after a packet: the agent, if it accepted the packet
abbrev pub monitor_received : Result Bool IceError → ℕ → Held → Monitor → Monitor
monitor_received (Ok true) now a m = observed now a m
monitor_received (Ok false) now a m = m
monitor_received (Err e) now a m = m

-- after a timeout: the agent, if the call succeeded
abbrev pub monitor_timed : Result (Unit {0}) IceError → ℕ → Held → Monitor → Monitor
monitor_timed (Ok _) now a m = observed now a m
monitor_timed (Err e) now a m = m

-- at an ICE restart that succeeds, of the agent that was in this state
abbrev pub monitor_restarted : Result (Unit {0}) IceError → Held → Monitor → Monitor
monitor_restarted (Ok _) a m = restarted a m
monitor_restarted (Err e) a m = m

-- ---- packets that C could not send

-- an ICE restart forgets them
abbrev pub failures_left : Result (Unit {0}) IceError → List FailedSend → List FailedSend
failures_left (Ok _) fs = []
failures_left (Err e) fs = fs

-- only the failures change
abbrev pub NotesOn : Path → ℕ → HeldRecord → ℤ → HeldRecord → Type 0
NotesOn path reason old code new =
    Rejects OUT_OF_MEMORY old code new
    ⊎ ((code ≡ OK) × Notes path reason old.failures new.failures × (new ≡ record old { failures = new.failures }))

-- `is_ice_send_failed`
abbrev pub NotesFailure : Option Path → ℕ → HeldRecord → ℤ → HeldRecord → Type 0
NotesFailure None reason old code new = Rejects BAD_ADDRESS old code new
NotesFailure (Some path) reason old code new = NotesOn path reason old code new

-- What C asks of the monitor: the path for media, silence, and packets that it could not send.
use Rattle.std.specs.Prelude.{◌≡◌, ℕ, length, Option, Some, None, MatchOption, slice_get, ℤ}
use Rattle.is_rules.specs.declared.emitted.Path.{Path}
use Rattle.is_monitor.specs.declared.failures.FailedSend.{FailedSend as Failure}
use Rattle.is_monitor.specs.Media.{FindsMediaPath, takes_media_from}
use Rattle.is_monitor.specs.Monitors.{silent_since}
use Rattle.is_c_calls.specs.declared.address.Address.{Address}
use Rattle.is_c_calls.specs.Addresses.{socket_of, protocol_of}
use Rattle.is_c_calls.specs.Clock.{agent_time}
use Rattle.is_c_calls.specs.Codes.{OK, NOTHING, BAD_ADDRESS, found_code}
use Rattle.is_c_calls.specs.Held.{HeldRecord}
use Rattle.is_c_calls.specs.Packets.{WritesTime}
use Rattle.is_c.specs.declared.monitoring.FailedSend.{FailedSend}
use Rattle.is_c.specs.declared.paths.MediaPath.{MediaPath}
use Rattle.is_c.specs.Paths.{PutsPath}

-- `is_ice_path_for_media`
abbrev pub ReturnsMediaPath : ℕ → MediaPath → MediaPath → HeldRecord → ℤ → HeldRecord → Type 0
ReturnsMediaPath now before after old code new =
    (path : Option Path) × FindsMediaPath (agent_time now) old.agent old.monitor path × PutsPath path before after code × (new ≡ old)

-- `is_ice_takes_media_from`
abbrev pub ReturnsTakes : ℕ → Address → HeldRecord → ℤ → HeldRecord → Type 0
ReturnsTakes now address old code new =
    MatchOption (socket_of address) (code ≡ BAD_ADDRESS) (λ source. code ≡ found_code (takes_media_from (agent_time now) old.agent old.monitor source))
    × (new ≡ old)

-- `is_ice_silent_since`
abbrev pub ReturnsSilentSince : ℕ → ℕ → HeldRecord → ℤ → HeldRecord → Type 0
ReturnsSilentSince before after old code new = WritesTime (silent_since old.monitor) before after code × (new ≡ old)

-- `is_ice_failed_send_count`
abbrev pub CountsFailures : ℕ → HeldRecord → ℤ → HeldRecord → Type 0
CountsFailures count old code new = (code ≡ OK) × (count ≡ length old.failures) × (new ≡ old)

-- C gets this failure
abbrev pub IsFailure : Failure → FailedSend → Type 0
IsFailure f given =
    (socket_of given.source ≡ Some f.path.source) × (socket_of given.destination ≡ Some f.path.destination)
    × (protocol_of given.protocol ≡ Some f.path.proto) × (given.reason ≡ f.reason) × (given.times ≡ f.times)

abbrev pub PutsFailure : Option Failure → FailedSend → FailedSend → ℤ → Type 0
PutsFailure None before after code = (code ≡ NOTHING) × (after ≡ before)
PutsFailure (Some f) before after code = (code ≡ OK) × IsFailure f after

-- `is_ice_failed_send_at`: the oldest first
abbrev pub ReturnsFailure : ℕ → FailedSend → FailedSend → HeldRecord → ℤ → HeldRecord → Type 0
ReturnsFailure index before after old code new = PutsFailure (slice_get old.failures index) before after code × (new ≡ old)

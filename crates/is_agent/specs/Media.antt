-- What a caller needs to know for media: the selected path, and how long a sign of the peer keeps consent.
use Rattle.std.specs.Prelude.{ℕ, ◌*◌, Option, option_map, if◌then◌else◌}
use Rattle.is_proto.specs.Times.{SECOND}
use Rattle.is_stun.specs.Timing.{is_modern, consent_timeout}
use Rattle.is_rules.specs.declared.emitted.Path.{Path}
use Rattle.is_rules.specs.Agent.{AgentRecord}
use Rattle.is_rules.specs.Questions.{nominated_pair}
use Rattle.is_rules.specs.Sending.{path_of}

-- how long consent lasts after a response, if no other time is set (RFC 7675, section 5.1)
abbrev pub CONSENT_TIME : ℕ
CONSENT_TIME = 30 * SECOND

module _ {H P : Type 0} where
  -- the path of the pair that was selected last, if that still exists
  abbrev pub selected_path : AgentRecord H P → Option Path
  selected_path a = option_map (path_of a) (nominated_pair a)

  -- How long media may go on after the last response on its path: the time of consent that is set, or 30 s with the profile `Original`,
  -- which has no clock. A lite agent sends no checks: there it is the time after the last check of the peer.
  abbrev pub consent_time : AgentRecord H P → ℕ
  consent_time a =
      if a.lite then a.timing.lite_timeout.0
      else (if is_modern a.timing then consent_timeout a.timing else CONSENT_TIME)

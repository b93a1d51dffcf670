-- A call of C that may make something due, and what follows it.
use Rattle.std.specs.Prelude.{◌≡◌, ◌&&◌, Bool, true, false, not, nat_lt, length, MatchBool, ℤ}
use Rattle.is_stun.specs.Timing.{is_modern}
use Rattle.is_rules.specs.Polls.{is_settled}
use Rattle.is_c_calls.specs.Codes.{OK}
use Rattle.is_c_calls.specs.Held.{HeldRecord}
use Rattle.is_c_calls.specs.Sessions.{is_ok}
use Rattle.is_c_calls.specs.Uses.{Use, FixTimes, Does}

-- With the profile `Modern`, this follows a call that returned OK, and no other one.
abbrev pub Follows : Bool → ℤ → HeldRecord → HeldRecord → Type 0
Follows soon code old new = MatchBool (is_ok code && is_modern old.agent.timing) (Does (FixTimes soon) old OK new) (new ≡ old)

-- the call, and what follows it
abbrev pub Followed : (HeldRecord → HeldRecord → Bool) → Use → HeldRecord → ℤ → HeldRecord → Type 0
Followed soon export old code new = (mid : HeldRecord) × Does export old code mid × Follows (soon old mid) code mid new

-- ---- whether the next `is_ice_handle_timeout` call comes soon

-- after a candidate, credentials, a restart or another role
abbrev pub at_once : HeldRecord → HeldRecord → Bool
at_once old new = true

-- after a setting: when something is due by it
abbrev pub in_turn : HeldRecord → HeldRecord → Bool
in_turn old new = false

-- after a packet, unless the session is settled: then a call is needed only when something is due
abbrev pub unless_settled : HeldRecord → HeldRecord → Bool
unless_settled old new = not (is_settled new.agent)

-- after a `handle_timeout` call, only if it served an early request, and sent no check
abbrev pub if_served : HeldRecord → HeldRecord → Bool
if_served old new = nat_lt (length new.agent.queue) (length old.agent.queue)

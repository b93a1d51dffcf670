-- How a `handle_timeout` call starts, as internal functions prepare it before the agent changes.
use Rattle.std.specs.Prelude.{ℕ, List, [], ◌∷◌, ◌++◌, length, take_while, Option, Some, None, if◌then◌else◌}
use Rattle.is_stun.specs.declared.timing.StunTiming.{StunTiming}
use Rattle.is_rules.specs.declared.credentials.IceCreds.{IceCreds}
use Rattle.is_rules.specs.declared.event.IceAgentEvent.{IceAgentEvent}
use Rattle.is_rules.specs.declared.event.IceAgentEvent.TheVariants.{IceRestart}
use Rattle.is_rules.specs.declared.event.IceConnectionState.{IceConnectionState}
use Rattle.is_rules.specs.declared.event.IceConnectionState.TheVariants.{New}
use Rattle.is_rules.specs.Agent.{AgentRecord}
use Rattle.is_rules.specs.Queue.{is_outdated}
use Rattle.is_rules.specs.States.{same_state}

-- the start event, in the state New
abbrev pub start_event : IceConnectionState → IceCreds → Option IceAgentEvent
start_event state creds = if same_state state New then Some (IceRestart creds) else None

abbrev pub with_start : Option IceAgentEvent → List IceAgentEvent → List IceAgentEvent
with_start None events = events
with_start (Some event) events = events ++ event ∷ []

module _ {H P : Type 0} where
  -- how many early requests are outdated, once the remote credentials are known
  abbrev pub outdated : ℕ → StunTiming → Option IceCreds → AgentRecord H P → ℕ
  outdated now t None a = 0
  outdated now t (Some peer) a = length (take_while (is_outdated now t) a.queue)

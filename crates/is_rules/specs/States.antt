-- The connection state of an agent.
use Rattle.std.specs.Prelude.{ℕ, ◌&&◌, ◌||◌, ◌==◌, Bool, true, false, not, [], ◌∷◌, ◌++◌, if◌then◌else◌}
use Rattle.std.specs.List.{list_any}
use Rattle.is_proto.specs.Lists.{is_empty}
use Rattle.is_pair.specs.Pairs.{PairRecord, is_valid, is_nominated}
use Rattle.is_pair.specs.Due.{is_possible}
use Rattle.is_stun.specs.declared.timing.StunTiming.{StunTiming}
use Rattle.is_rules.specs.declared.event.IceAgentEvent.TheVariants.{IceConnectionStateChange}
use Rattle.is_rules.specs.declared.event.IceConnectionState.{IceConnectionState}
use Rattle.is_rules.specs.declared.event.IceConnectionState.TheVariants.{New, Checking, Connected, Completed, Disconnected}
use Rattle.is_rules.specs.Agent.{AgentRecord}

-- the number of a state, in C too
abbrev pub state_number : IceConnectionState → ℕ
state_number New = 0
state_number Checking = 1
state_number Connected = 2
state_number Completed = 3
state_number Disconnected = 4

abbrev pub same_state : IceConnectionState → IceConnectionState → Bool
same_state a b = state_number a == state_number b

-- a pair on which media can be sent
abbrev pub is_nominated_and_valid : PairRecord → Bool
is_nominated_and_valid p = is_valid p && is_nominated p

-- a pair that is still possible, and not selected
abbrev pub is_other_possible : ℕ → StunTiming → PairRecord → Bool
is_other_possible now t p = not (is_nominated_and_valid p) && is_possible now t p

-- The next state, by the current state, whether a pair is selected, whether another one is still possible, and lite.
abbrev pub next_state : IceConnectionState → Bool → Bool → Bool → IceConnectionState
next_state New selected possible lite = Checking
next_state state false possible lite = if possible then Checking else Disconnected
next_state state true possible lite = if possible && (not lite || same_state state Connected) then Connected else Completed

module _ {H P : Type 0} where
  abbrev pub has_nominated : AgentRecord H P → Bool
  has_nominated a = list_any is_nominated_and_valid a.pairs

  -- A pair that is not selected is still possible, or a list of candidates is empty.
  abbrev pub has_possible : ℕ → AgentRecord H P → Bool
  has_possible now a =
      list_any (is_other_possible now a.timing) a.pairs || is_empty a.local || is_empty a.remote

  -- A state event is emitted only if the state changes.
  abbrev pub with_state : IceConnectionState → AgentRecord H P → AgentRecord H P
  with_state state a = record a {
    state = state;
    events = if same_state a.state state then a.events else a.events ++ IceConnectionStateChange state ∷ [];
  }

  -- The state is evaluated.
  abbrev pub evaluated : ℕ → AgentRecord H P → AgentRecord H P
  evaluated now a = with_state (next_state a.state (has_nominated a) (has_possible now a) a.lite) a

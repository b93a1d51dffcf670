-- When the state is evaluated, with the profile `Modern`: after nomination, and not before it. So the agent is Connected or
-- Completed if and only if the path of the last `NominatedSend` is that of a live pair.
use Rattle.std.specs.Prelude.{◌≡◌, ℕ, ◌&&◌, Bool, not, Option, None, is_some, unwrap_or, MatchBool, if◌then◌else◌}
use Rattle.is_stun.specs.Timing.{is_modern}
use Rattle.is_rules.specs.declared.event.IceConnectionState.{IceConnectionState}
use Rattle.is_rules.specs.declared.event.IceConnectionState.TheVariants.{New}
use Rattle.is_rules.specs.declared.emitted.Path.{Path}
use Rattle.is_rules.specs.declared.emitted.Emitted.{Emitted}
use Rattle.is_rules.specs.Emitted.{selected_only}
use Rattle.is_rules.specs.Agent.{AgentRecord}
use Rattle.is_rules.specs.Nominating.{pair_selected, Nominates}
use Rattle.is_rules.specs.States.{same_state, next_state, has_nominated, has_possible, with_state, evaluated}

module _ {H P : Type 0} where
  -- The profile is `Modern`, and the session has begun.
  abbrev pub updates_late : AgentRecord H P → Bool
  updates_late a = is_modern a.timing && not (same_state a.state New)

  -- the state as it follows from the pairs at this time
  abbrev pub state_at : ℕ → AgentRecord H P → IceConnectionState
  state_at now a = next_state a.state (has_nominated a) (has_possible now a) a.lite

  -- when a `handle_timeout` call starts: with `Modern` only New changes, to Checking
  abbrev pub state_at_start : ℕ → AgentRecord H P → IceConnectionState
  state_at_start now a = if updates_late a then a.state else state_at now a

  abbrev pub started : ℕ → AgentRecord H P → AgentRecord H P
  started now a = with_state (state_at_start now a) a

  -- after nomination: with `Modern` it is evaluated if `changes` is true
  abbrev pub updated_state : Bool → ℕ → AgentRecord H P → IceConnectionState
  updated_state changes now a = if changes && updates_late a then state_at now a else a.state

  abbrev pub state_updated : Bool → ℕ → AgentRecord H P → AgentRecord H P
  state_updated changes now a = with_state (updated_state changes now a) a

  -- ---- calls that may remove the selected pair: a candidate is added or invalidated

  -- The pair that was selected last exists.
  abbrev pub has_selected : AgentRecord H P → Bool
  has_selected a = is_some (pair_selected a.selected_pair a.pairs)

  -- With `Modern`, in a session that has begun: the pair that was selected last exists before the call, and not after it.
  abbrev pub loses_selected : AgentRecord H P → AgentRecord H P → Bool
  loses_selected old new = updates_late old && has_selected old && not (has_selected new)

  -- If the selected pair is lost, nomination is evaluated, and after it the state, as of the last `handle_timeout` call.
  abbrev pub Reselects : Bool → AgentRecord H P → Option Path → AgentRecord H P → Type 0
  Reselects loses old path new =
      MatchBool loses
      ((mid : AgentRecord H P) × Nominates old path mid × (new ≡ evaluated (unwrap_or old.last_time 0) mid))
      ((path ≡ None) × (new ≡ old))

  -- what the call does, and then a new selection if it loses the selected pair
  abbrev pub ReselectsAfter : (AgentRecord H P → Type 0) → AgentRecord H P → Emitted → AgentRecord H P → Type 0
  ReselectsAfter Does old emitted new =
      (path : Option Path) × (mid : AgentRecord H P) × Does mid × Reselects (loses_selected old mid) mid path new × (emitted ≡ selected_only path)

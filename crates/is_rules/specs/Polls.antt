-- What the polls return.
use Rattle.std.specs.Prelude.{◌≡◌, ℕ, ◌*◌, min, max, ◌&&◌, ◌||◌, not, Bool, List, [], ◌∷◌, map, fold, Option, Some, None, is_some, MatchBool, IsSomeAnd, if◌then◌else◌}
use Rattle.std.specs.List.{list_any}
use Rattle.is_proto.specs.Lists.{is_empty}
use Rattle.is_proto.specs.Times.{MAX, MILLISECOND, SECOND, later}
use Rattle.is_pair.specs.Due.{call_time_of, scheduled, is_beginning}
use Rattle.is_proto.specs.Packets.{Packet}
use Rattle.is_stun.specs.Timing.{is_modern}
use Rattle.is_rules.specs.declared.event.IceAgentEvent.{IceAgentEvent}
use Rattle.is_rules.specs.Agent.{AgentRecord}
use Rattle.is_rules.specs.Nominating.{is_pressing}
use Rattle.is_rules.specs.Charging.{CHARGE, EARLY_TA, has_credit, is_urged}
use Rattle.is_rules.specs.Connecting.{is_connected}
use Rattle.is_rules.specs.Leaving.{is_in_doubt}

-- A poll removes the first element of a queue and returns it.
abbrev pub IsPolled : {X : Type 0} → List X → Option X → List X → Type 0
IsPolled old None new = (old ≡ []) × (new ≡ [])
IsPolled old (Some x) new = old ≡ x ∷ new

-- the least pacing interval Ta (RFC 8445, section 14.2)
abbrev pub LEAST_TA : ℕ
LEAST_TA = 5 * MILLISECOND

module _ {H P : Type 0} where
  -- `poll_transmit`
  abbrev pub PollsTransmit : AgentRecord H P → Option Packet → AgentRecord H P → Type 0
  PollsTransmit old given new = IsPolled old.packets given new.packets × (new ≡ record old { packets = new.packets })

  -- `poll_event`
  abbrev pub PollsEvent : AgentRecord H P → Option IceAgentEvent → AgentRecord H P → Type 0
  PollsEvent old given new = IsPolled old.events given new.events × (new ≡ record old { events = new.events })

  -- A packet is to be sent, an early request is to be served, or a path is to be selected or nominated at once.
  abbrev pub is_waiting : AgentRecord H P → Bool
  is_waiting a = not (is_empty a.packets) || not (is_empty a.queue) || is_pressing a

  -- The agent has a path. If it is controlling, the check that nominates it was sent; if not, the peer nominates no other one.
  abbrev pub is_settled : AgentRecord H P → Bool
  is_settled a = is_connected a.state && not (a.controlling && a.nomination_due) && not (is_in_doubt a)

  -- The agent knows the peer, and an early request waits, a pair is at its beginning, or an urgent one is due soon.
  abbrev pub has_begun : ℕ → AgentRecord H P → Bool
  has_begun last a = is_some a.remote_creds && (not (is_empty a.queue) || list_any (is_beginning last) a.pairs || is_urged last a)

  -- The pacing interval is that of early checks: with the profile `Modern`, before the agent is settled, once it has begun (`has_begun`)
  -- or if only a nomination is still to be sent.
  abbrev pub is_early : ℕ → AgentRecord H P → Bool
  is_early last a = is_modern a.timing && not (is_settled a) && (is_connected a.state || has_begun last a)

  -- the pacing interval of early checks: short if there is credit
  abbrev pub early_ta : ℕ → AgentRecord H P → ℕ
  early_ta last a = if has_credit last a then EARLY_TA else CHARGE

  -- the pacing interval Ta; early on it is shorter, unless a shorter one is set
  abbrev pub pacing_of : ℕ → AgentRecord H P → ℕ
  pacing_of last a = if is_early last a then min a.timing_advance (early_ta last a) else a.timing_advance

  -- one pacing interval after the last call
  abbrev pub soon : AgentRecord H P → ℕ → ℕ
  soon a last = later last (pacing_of last a)

  -- the earliest time at which a pair is due, computed at the time of the last call, or at which its consent ends
  abbrev pub earliest_call : AgentRecord H P → ℕ → ℕ
  earliest_call a last = fold min MAX (map (call_time_of last a.timing) a.pairs)

  -- There is nothing to check.
  abbrev pub is_idle : AgentRecord H P → Bool
  is_idle a = a.lite || is_empty a.pairs

  -- While something waits, `poll_timeout` fixes the due times only if requests may trigger checks.
  abbrev pub WaitingTimeout : AgentRecord H P → ℕ → ℕ → AgentRecord H P → Type 0
  WaitingTimeout old last deadline new =
      (deadline ≡ soon old last)
      × MatchBool (is_modern old.timing) (new ≡ record old { pairs = map (scheduled last old.timing) old.pairs }) (new ≡ old)

  -- If nothing waits, `poll_timeout` fixes the due times.
  abbrev pub IdleTimeout : AgentRecord H P → ℕ → ℕ → AgentRecord H P → Type 0
  IdleTimeout old last deadline new =
      MatchBool (is_idle old)
      ((deadline ≡ later last (3 * SECOND)) × (new ≡ old))
      ((deadline ≡ max (earliest_call old last) (soon old last)) × (new ≡ record old { pairs = map (scheduled last old.timing) old.pairs }))

  abbrev pub NextTimeouts : AgentRecord H P → ℕ → ℕ → AgentRecord H P → Type 0
  NextTimeouts old last deadline new = MatchBool (is_waiting old) (WaitingTimeout old last deadline new) (IdleTimeout old last deadline new)

  -- `poll_timeout`: without a time of a last call it returns none.
  abbrev pub NextTimeoutFrom : Option ℕ → AgentRecord H P → Option ℕ → AgentRecord H P → Type 0
  NextTimeoutFrom None old deadline new = (deadline ≡ None) × (new ≡ old)
  NextTimeoutFrom (Some last) old deadline new = IsSomeAnd deadline (λ at. NextTimeouts old last at new)

  abbrev pub PollsTimeout : AgentRecord H P → Option ℕ → AgentRecord H P → Type 0
  PollsTimeout old deadline new = NextTimeoutFrom old.last_time old deadline new

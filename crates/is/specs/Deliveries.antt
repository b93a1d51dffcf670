-- Deliveries in the network model: an in-flight packet reaches a side, and what a side does and selects at an entry of the log.
use Rattle.std.specs.Prelude.{◌≡◌, ℕ, Bool, true, false, Some, is_some, slice_get}
use Rattle.is_proto.specs.Packets.{Packet}
use Rattle.is_rules.specs.declared.emitted.Path.{Path}
use Rattle.is_rules.specs.Effects.{last_of}
use Rattle.is_theorems.specs.Reached.{is_in_round}
use Rattle.is_theorems.specs.Rounds.{is_poll}
use Rattle.is_rules.specs.Steps.{is_rejection}
use Rattle.is.specs.declared.world_events.Side.{Side}
use Rattle.is.specs.World.{WorldRecord, Event, Call, Deliver, LoggedEvent, other}

-- The side makes only polls, whatever it receives and whatever the other side does.
abbrev pub MakesPolls : {P : Type 0} → Side → Event P → Type 0
MakesPolls side (Call s c) = s ≡ side → is_poll c ≡ true
MakesPolls side _ = Unit {0}

-- The side makes only calls that may come between two `handle_timeout` calls of a round (`is_in_round`): polls, candidates that are
-- added, and settings that change neither pairs nor the timing of their checks. Whatever it receives and whatever the other side does.
abbrev pub MakesInRound : {P : Type 0} → (modern : Bool) → Side → Event P → Type 0
MakesInRound modern side (Call s c) = s ≡ side → is_in_round modern c ≡ true
MakesInRound modern side _ = Unit {0}

-- The side selected a path.
abbrev pub SelectsPath : {P : Type 0} → Side → LoggedEvent P → Type 0
SelectsPath side x = (x.outcome.side ≡ Some side) × (is_some (last_of x.outcome.entry.emitted.selected_paths) ≡ true)

module _ {H P : Type 0} where
  -- The event delivers the packet to the side on the path `via`, with the bytes that the other side sent, and the call does not
  -- fail. A NAT may have changed the path.
  pub record Hands (side : Side) (via : Path) (packet : Packet) (w : WorldRecord H P) (x : LoggedEvent P) : Type 0 where
    pub place : ℕ
    pub now : ℕ
    pub event : x.event ≡ Deliver place now via
    pub sent : slice_get w.network place ≡ Some record { sender = other side; packet = packet }
    pub nomination_accepted : is_rejection x.outcome.entry.answer ≡ false

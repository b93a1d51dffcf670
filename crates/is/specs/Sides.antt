-- What one of two agents does in the network model: its calls, and a log of its own.
use Rattle.std.specs.Prelude.{ℕ, List, [], ◌∷◌, ◌++◌, map, Option, Some, None, slice_get, if◌then◌else◌}
use Rattle.is_proto.specs.Packets.{Packet}
use Rattle.is_rules.specs.declared.emitted.Path.{Path}
use Rattle.is_theorems.specs.Logs as agent_log
use Rattle.is_rules.specs.Steps as agent
use Rattle.is_rules.specs.Steps.{Answer, Entry, Polled, Rejected, quiet}
use Rattle.is.specs.declared.world_events.Side.{Side}
use Rattle.is.specs.declared.world_events.Side.TheVariants.{A, B}
use Rattle.is.specs.AcceptedNominationsIn.{Occurrence}
use Rattle.is.specs.World.{WorldRecord, InFlightRecord, Event, Call, Poll, Deliver, Stray, at, other, in_world}

-- ---- at one event

-- the list, if both sides are the same one
abbrev pub only : {X : Type 0} → Side → Side → List X → List X
only A A xs = xs
only B B xs = xs
only A B xs = []
only B A xs = []

-- the first packet, if there is one
abbrev pub first_packet : List Packet → Option Packet
first_packet [] = None
first_packet (p ∷ ps) = Some p

-- A poll of the network model calls `poll_transmit`, unless memory is exhausted.
abbrev pub polled_as : {P : Type 0} → Answer → List Packet → List (agent.Call P × Entry)
polled_as (Rejected error) ps = []
polled_as _ ps = (agent.PollTransmit, quiet (Polled (first_packet ps))) ∷ []

-- The in-flight packet, if there is one, is received by the side that did not send it.
abbrev pub received_as : {P : Type 0} → Side → ℕ → Path → Entry → Option InFlightRecord → List (agent.Call P × Entry)
received_as side now path e None = []
received_as side now path e (Some l) = only side (other l.sender) ((agent.ReceivePacket now path l.packet.contents, e) ∷ [])

module _ {H P : Type 0} where
  -- what the side does at an event: one call, or nothing
  abbrev pub acts : Side → WorldRecord H P → Event P → Entry → List (agent.Call P × Entry)
  acts side w (Call s c) e = only side s (if in_world c then (c, e) ∷ [] else [])
  acts side w (Poll s) e = only side s (polled_as e.answer (at side w).packets)
  acts side w (Deliver place now path) e = received_as side now path e (slice_get w.network place)
  acts side w (Stray s now path bytes) e = []

  -- ---- along a log

  -- the call as an entry of a log, with the number of the event
  abbrev pub own_at : Side → Occurrence H P → List (agent_log.Logged P)
  own_at side x =
      map (λ (y : agent.Call P × Entry). record { number = x.entry.number; call = y.0; entry = y.1 }) (acts side x.before x.entry.event x.entry.outcome.entry)

  -- The side's own log, newest entry first, with what it does in a further segment, oldest entry first.
  abbrev pub own_log : Side → List (agent_log.Logged P) → List (Occurrence H P) → List (agent_log.Logged P)
  own_log side log [] = log
  own_log side log (x ∷ rest) = own_log side (own_at side x ++ log) rest

-- What a datagram of the server does to a client. Only the response to its pending request does anything.
use Rattle.std.specs.Prelude.{◌≡◌, List, ℕ, is_none, Option, Some, None, if◌then◌else◌}
use Rattle.std.specs.declared.net.socket_addr.SocketAddr.{SocketAddr}
use Rattle.is_proto.specs.declared.proto.Instant.{Instant}
use Rattle.is_turn.specs.declared.client.Received.{Received}
use Rattle.is_turn.specs.declared.client.Received.TheVariants as results
use Rattle.is_turn.specs.declared.client.StunClient.{StunClient}
use Rattle.is_turn.specs.declared.client.StunEvent.{StunEvent}
use Rattle.is_turn.specs.declared.client.StunEvent.TheVariants as events
use Rattle.is_turn.specs.declared.client.Phase.TheVariants as phases
use Rattle.is_turn.specs.declared.answer.Answer.{Answer}
use Rattle.is_turn.specs.declared.answer.Answer.TheVariants.{Unparsed, Unasked, Malformed, Mapped, Failed}
use Rattle.is_turn.specs.Answer.{IsRead}
use Rattle.is_turn.specs.Client.{pending_id, time_after}

-- what `receive` returns of a datagram
abbrev pub received : Answer → Received
received Unparsed = results.Unparsed
received Unasked = results.Unasked
received Malformed = results.Malformed
received (Mapped at) = results.Own
received (Failed code) = results.Own

-- the event to be polled afterwards: a mapped address that is another one, or an error before any answer
abbrev pub IsEventAfter : Answer → StunClient → Option StunEvent → Type 0
IsEventAfter (Mapped at) c event = (c.mapped ≡ Some at → event ≡ c.event) × (¬ (c.mapped ≡ Some at) → event ≡ Some (events.Mapped at))
IsEventAfter (Failed code) c event = event ≡ (if is_none c.mapped then Some (events.Failed (Some code)) else c.event)
IsEventAfter _ c event = event ≡ c.event

-- an error before any answer ends the client; else the next request begins after the usual time
abbrev pub failed_by : Instant → Option SocketAddr → StunClient → StunClient
failed_by now None c = record c { pending = None; phase = phases.Failed }
failed_by now (Some at) c = record c { pending = None; next = Some (time_after now c.timing.keep_alive.0) }

abbrev pub state_after : Instant → Answer → StunClient → StunClient
state_after now (Mapped at) c = record c { pending = None; next = Some (time_after now c.timing.keep_alive.0); mapped = Some at }
state_after now (Failed code) c = failed_by now c.mapped c
state_after now _ c = c

abbrev pub after_answer : Instant → Answer → Option StunEvent → StunClient → StunClient
after_answer now answer event c = record (state_after now answer c) { event = event }

-- the datagram is the response to the pending request: from the server, by its method, class and transaction ID
pub record IsAnswerTo (c : StunClient) (source : SocketAddr) (bytes : List ℕ) : Type 0 where
  pub server : source ≡ c.server
  pub response : IsRead (pending_id c) bytes

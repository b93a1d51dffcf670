-- A STUN client with the socket that it is of.
use Rattle.std.specs.Prelude.{◌≡◌, ℕ, ◌&&◌, Bool, true, false, List, is_some, Option, Some, None, option_map, Result, if◌then◌else◌}
use Rattle.std.specs.declared.net.socket_addr.SocketAddr.{SocketAddr}
use Rattle.rand_core.specs.Stream.{Stream}
use Rattle.is_proto.specs.declared.error.StunError.{StunError}
use Rattle.is_proto.specs.declared.proto.Instant.{Instant}
use Rattle.is_turn.specs.declared.client.Received.{Received}
use Rattle.is_turn.specs.declared.client.Received.TheVariants as received
use Rattle.is_turn.specs.declared.client.StunClient.{StunClient}
use Rattle.is_turn.specs.declared.client.StunEvent.{StunEvent}
use Rattle.is_turn.specs.declared.client.StunEvent.TheVariants as stun
use Rattle.is_turn.specs.declared.session.Why.{Why}
use Rattle.is_turn.specs.declared.session.Why.TheVariants as why
use Rattle.is_turn.specs.Answer.{answer_in}
use Rattle.is_turn.specs.Client.{new_client, after_start, pending_id, next_time, after_timeout, to_poll, Polls}
use Rattle.is_turn.specs.Leases.{same_address}
use Rattle.is_turn.specs.OneRelay.{is_time}
use Rattle.is_turn.specs.Response.{received, IsEventAfter, after_answer}
use Rattle.is_turn.specs.Timing.{modern}
use Rattle.is_servers.specs.declared.events.Happened.{Happened}
use Rattle.is_servers.specs.declared.events.Happened.TheVariants.{Ended}
use Rattle.is_servers.specs.declared.mapping.Life.{Life}
use Rattle.is_servers.specs.declared.mapping.Life.TheVariants.{Asking, Mapped, Ending, Over}
use Rattle.is_servers.specs.declared.mapping.Mapping.{Mapping}
use Rattle.is_servers.specs.Events.{ending_of, stun_happened}

-- a new client, which is started at once, with the modern timing
abbrev pub new_mapping : Instant → SocketAddr → SocketAddr → Mapping
new_mapping now local server = record { local = local; client = after_start now (new_client server modern); life = Asking }

-- ---- how far it is

-- the client has not ended
abbrev pub is_alive : Life → Bool
is_alive Asking = true
is_alive Mapped = true
is_alive (Ending e) = false
is_alive Over = false

-- the client ended, and that was reported
abbrev pub is_done : Life → Bool
is_done Over = true
is_done _ = false

abbrev pub is_over : Mapping → Bool
is_over m = is_done m.life

-- nothing was reported yet
abbrev pub is_first : Life → Bool
is_first Asking = true
is_first _ = false

abbrev pub is_asking : Mapping → Bool
is_asking m = is_first m.life

-- a datagram of this socket, from this server, may be the client's
abbrev pub is_at : SocketAddr → SocketAddr → Mapping → Bool
is_at local source m = is_alive m.life && (same_address m.local local && same_address m.client.server source)

-- ---- datagrams

abbrev pub is_own : Received → Bool
is_own received.Own = true
is_own _ = false

-- the client takes a datagram of its server: it is its own if it is the response to its pending request
pub record TakesResponse (now : Instant) (bytes : List ℕ) (own : Bool) (before after : Mapping) : Type 0 where
  pub answers : own ≡ is_own (received (answer_in (pending_id before.client) bytes))
  pub event : IsEventAfter (answer_in (pending_id before.client) bytes) before.client after.client.event
  pub state : after.client ≡ after_answer now (answer_in (pending_id before.client) bytes) after.client.event before.client
  pub local : after.local ≡ before.local
  pub life : after.life ≡ before.life

-- ---- the clock

abbrev pub time_of : Mapping → Option Instant
time_of m = if is_alive m.life then next_time m.client else None

abbrev pub is_due_at : Instant → Mapping → Bool
is_due_at time m = is_time time (time_of m)

abbrev pub with_client : Mapping → StunClient × Stream → Mapping × Stream
with_client m after = (record m { client = after.0 }, after.1)

abbrev pub timed_out : Instant → Stream → Mapping → Mapping × Stream
timed_out now stream m = with_client m (after_timeout now stream m.client)

-- ---- packets

abbrev pub has_packet : Mapping → Bool
has_packet m = is_alive m.life && is_some (to_poll m.client.pending)

-- the client is polled for a packet
pub record PollsMapping (buf_old buf_new : List ℕ) (result : Result (Option ℕ) StunError) (before after : Mapping) : Type 0 where
  pub packet : Polls before.client buf_old result after.client buf_new
  pub local : after.local ≡ before.local
  pub life : after.life ≡ before.life

-- ---- events

abbrev pub has_event_in : Life → Mapping → Bool
has_event_in Asking m = is_some m.client.event
has_event_in Mapped m = is_some m.client.event
has_event_in (Ending e) m = true
has_event_in Over m = false

abbrev pub has_event : Mapping → Bool
has_event m = has_event_in m.life m

-- a client that failed is over once that is reported
abbrev pub life_after : Option StunEvent → Life → Life
life_after None life = life
life_after (Some (stun.Mapped at)) life = Mapped
life_after (Some (stun.Failed code)) life = Over

abbrev pub client_reported : Mapping → Mapping × Option Happened
client_reported m =
    (record m { client = record m.client { event = None }; life = life_after m.client.event m.life }, option_map stun_happened m.client.event)

-- what is reported next, and the client after that
abbrev pub reported_in : Life → Mapping → Mapping × Option Happened
reported_in Asking m = client_reported m
reported_in Mapped m = client_reported m
reported_in (Ending e) m = (record m { life = Over }, Some (Ended e))
reported_in Over m = (m, None)

abbrev pub reported : Mapping → Mapping × Option Happened
reported m = reported_in m.life m

-- ---- ends

abbrev pub ended : Why → Mapping → Mapping
ended reason m = if is_alive m.life then record m { life = Ending (ending_of reason None) } else m

abbrev pub closed : Mapping → Mapping
closed m = ended why.Closed m

-- a client that had an answer has lost it, any other has failed
abbrev pub why_lost : Option SocketAddr → Why
why_lost None = why.Failed
why_lost (Some at) = why.Lost

abbrev pub lost : Mapping → Mapping
lost m = ended (why_lost m.client.mapped) m

abbrev pub lost_at : SocketAddr → Mapping → Mapping
lost_at local m = if same_address m.local local then lost m else m

-- The permission of a peer's IP address and the channel of its transport address (RFC 8656, sections 9 and 12): each is requested by the
-- user, renewed while it is in use, and lapses else.
use Rattle.std.specs.Prelude.{ℕ, ◌*◌, not, ◌&&◌, ◌||◌, ◌==◌, Bool, true, false, List, bytes_eq, max, nat_le, nat_lt, is_some, is_none, Option, Some, None, if◌then◌else◌}
use Rattle.std.specs.Net.Addr.{ipv4_octets, ipv6_segments}
use Rattle.std.specs.Net.Socket.{v4_ip, v4_port, v6_ip, v6_port, v6_flowinfo, v6_scope_id}
use Rattle.std.specs.declared.net.socket_addr.SocketAddr.{SocketAddr}
use Rattle.std.specs.declared.net.socket_addr.SocketAddr.TheVariants.{V4, V6}
use Rattle.is_proto.specs.Times.{MAX, SECOND}
use Rattle.is_proto.specs.declared.proto.Instant.{Instant}
use Rattle.is_stun.specs.declared.trans_id.TransId.{TransId}
use Rattle.is_stun.specs.Message.{Message}
use Rattle.is_turn.specs.declared.attempts.Attempt.{Attempt}
use Rattle.is_turn.specs.declared.lease.Lease.{Lease}
use Rattle.is_turn.specs.declared.lease.NotPermitted.{NotPermitted}
use Rattle.is_turn.specs.declared.operation.Operation.{Operation}
use Rattle.is_turn.specs.declared.requests.Request.{Request}
use Rattle.is_turn.specs.declared.requests.Request.TheVariants.{CreatePermission, ChannelBind}
use Rattle.is_turn.specs.declared.session.Step.{Step}
use Rattle.is_turn.specs.declared.session.Step.TheVariants as steps
use Rattle.is_turn.specs.declared.timing.ClientTiming.{ClientTiming}
use Rattle.is_turn.specs.Client.{at_time, time_after}
use Rattle.is_turn.specs.Operations.{new_operation, attempted, sent_once_more, polled, is_exhausted}
use Rattle.is_turn.specs.Outcome.{answered_by}
use Rattle.is_turn.specs.Session.{RETRY, renewal_of}

-- ---- addresses

-- The addresses are equal in every part.
abbrev pub same_address : SocketAddr → SocketAddr → Bool
same_address (V4 a) (V4 b) = bytes_eq (ipv4_octets (v4_ip a)) (ipv4_octets (v4_ip b)) && v4_port a == v4_port b
same_address (V6 a) (V6 b) =
    bytes_eq (ipv6_segments (v6_ip a)) (ipv6_segments (v6_ip b)) && v6_port a == v6_port b
    && v6_flowinfo a == v6_flowinfo b && v6_scope_id a == v6_scope_id b
same_address (V4 a) (V6 b) = false
same_address (V6 a) (V4 b) = false

-- without flow information and scope
abbrev pub plain : SocketAddr → SocketAddr
plain (V4 a) = V4 (record { ip = v4_ip a; port = v4_port a })
plain (V6 a) = V6 (record { ip = v6_ip a; port = v6_port a; flowinfo = 0; scope_id = 0 })

-- the IP address, with the port 0: a permission is for all ports
abbrev pub ip_of : SocketAddr → SocketAddr
ip_of (V4 a) = V4 (record { ip = v4_ip a; port = 0 })
ip_of (V6 a) = V6 (record { ip = v6_ip a; port = 0; flowinfo = 0; scope_id = 0 })

-- ---- a lease: a channel has a number, a permission has none

abbrev pub new_lease : SocketAddr → Option ℕ → Instant → Lease
new_lease peer number now = record {
  peer = Some peer;
  number = number;
  used = now;
  asked = None;
  until = None;
  renew = now;
  barred = None;
  operation = None;
  report = None;
}

-- a place for one
abbrev pub unused : Lease
unused = record {
  peer = None;
  number = None;
  used = at_time 0;
  asked = Some (at_time 0);
  until = None;
  renew = at_time 0;
  barred = None;
  operation = None;
  report = None;
}

abbrev pub is_for : SocketAddr → Option SocketAddr → Bool
is_for peer None = false
is_for peer (Some own) = same_address own peer

abbrev pub is_permission_of : SocketAddr → Lease → Bool
is_permission_of ip g = is_none g.number && is_for ip g.peer

abbrev pub is_channel_of : SocketAddr → Lease → Bool
is_channel_of peer g = is_some g.number && is_for peer g.peer

abbrev pub is_number : ℕ → Option ℕ → Bool
is_number n None = false
is_number n (Some number) = number == n

abbrev pub has_number : ℕ → Lease → Bool
has_number n g = is_number n g.number

-- ---- in use

abbrev pub is_used_since : Option Instant → Lease → Bool
is_used_since None g = true
is_used_since (Some asked) g = nat_lt asked.0 g.used.0

-- used since its last renewal began
abbrev pub is_in_use : Lease → Bool
is_in_use g = is_used_since g.asked g

abbrev pub is_past : Option Instant → Instant → Bool
is_past None now = false
is_past (Some time) now = nat_le time.0 now.0

abbrev pub is_ahead : Option Instant → Instant → Bool
is_ahead None now = false
is_ahead (Some time) now = nat_lt now.0 time.0

-- the server barred it lately
abbrev pub is_held_back : Instant → Lease → Bool
is_held_back now g = is_ahead g.barred now

abbrev pub is_idle : Instant → Lease → Bool
is_idle now g = if is_some g.barred then is_past g.barred now else not (is_in_use g)

-- the place of the lease may be given to another peer: never that of a channel
abbrev pub is_free : Instant → Lease → Bool
is_free now g = is_none g.number && is_none g.until && is_none g.operation && is_none g.report && is_idle now g

-- a permission under which data of the peer counts: it was requested, and did not lapse since
abbrev pub is_open : Lease → Bool
is_open g = is_none g.barred && (is_some g.until || is_some g.operation || is_in_use g)

-- a channel whose data counts: it is bound, or being bound
abbrev pub carries : Lease → Bool
carries g = is_some g.until || is_some g.operation

-- ---- the user

abbrev pub used_at : Instant → Lease → Lease
used_at now g = record g { used = now }

-- requested again, after the server barred it
abbrev pub asked_again : Instant → Lease → Lease
asked_again now g = record g { used = now; asked = None; renew = now; barred = None }

abbrev pub named_at : Instant → Lease → Lease
named_at now g = if is_some g.barred then asked_again now g else used_at now g

-- ---- the clock

abbrev pub is_renewal_due : Instant → Lease → Bool
is_renewal_due now g = nat_le g.renew.0 now.0 && is_none g.operation && is_none g.barred && is_in_use g

abbrev pub request_for : SocketAddr → Option ℕ → Request
request_for peer None = CreatePermission peer
request_for peer (Some number) = ChannelBind number peer

abbrev pub requested_for : Option SocketAddr → Instant → Lease → Lease
requested_for None now g = g
requested_for (Some peer) now g = record g { asked = Some now; operation = Some (new_operation (request_for peer g.number) now) }

abbrev pub renewed : Instant → Lease → Lease
renewed now g = if is_renewal_due now g then requested_for g.peer now g else g

abbrev pub lapsed : Instant → Lease → Lease
lapsed now g = if is_past g.until now then record g { until = None } else g

-- what is at its end lapses, and what is due is requested
abbrev pub advanced : Instant → Lease → Lease
advanced now g = renewed now (lapsed now g)

-- ---- responses. The end is counted from when the request was first sent

abbrev pub later_end : Option Instant → Instant → Instant
later_end None until = until
later_end (Some last) until = at_time (max last.0 until.0)

-- five minutes for a permission, ten for a channel
abbrev pub lifetime_for : Option ℕ → ℕ
lifetime_for None = 300 * SECOND
lifetime_for (Some number) = 600 * SECOND

abbrev pub lasts_since : Instant → Lease → Lease
lasts_since since g = record g {
  until = Some (later_end g.until (time_after since (lifetime_for g.number)));
  renew = time_after since (renewal_of (lifetime_for g.number));
  operation = None;
}

-- 403, Forbidden, and 443, Peer Address Family Mismatch (RFC 8656, section 19)
abbrev pub is_barring : Option ℕ → Bool
is_barring None = false
is_barring (Some code) = code == 403 || code == 443

-- of permissions only
abbrev pub report_for : Option ℕ → Option ℕ → Option NotPermitted
report_for None code = Some (record { code = code })
report_for (Some number) code = None

-- not requested again for a minute
abbrev pub barred_at : Instant → Option ℕ → Lease → Lease
barred_at now code g = record g {
  until = None;
  barred = Some (time_after now (60 * SECOND));
  operation = None;
  report = report_for g.number code;
}

abbrev pub retried_at : Instant → Lease → Lease
retried_at now g = record g { asked = None; renew = time_after now RETRY; operation = None }

-- what the server never had is barred by any error, and by silence
abbrev pub failed_at : Instant → Option ℕ → Lease → Lease
failed_at now code g = if is_none g.until || is_barring code then barred_at now code g else retried_at now g

-- ---- its request

abbrev pub with_operation : (Operation → Operation) → Option Operation → Lease → Lease
with_operation change None g = g
with_operation change (Some o) g = record g { operation = Some (change o) }

abbrev pub changed : (Operation → Operation) → Lease → Lease
changed change g = with_operation change g.operation g

abbrev pub attempt_of : Message → Lease → Option Attempt
attempt_of m g = answered_by m g.operation

abbrev pub is_answered_by : Message → Lease → Bool
is_answered_by m g = is_some (attempt_of m g)

abbrev pub waits_in : Option Operation → Bool
waits_in None = false
waits_in (Some o) = o.is_waiting && is_some o.attempts.last

-- a packet is to be polled
abbrev pub is_to_be_sent : Lease → Bool
is_to_be_sent g = waits_in g.operation

abbrev pub is_reported : Lease → Bool
is_reported g = is_some g.report

abbrev pub step_for : ClientTiming → Option Operation → Step
step_for t None = steps.Nothing
step_for t (Some o) = if o.is_fresh then steps.Attempt else if is_exhausted t o then steps.TimeOut else steps.Repeat

-- what its request has due
abbrev pub lease_step : ClientTiming → Lease → Step
lease_step t g = step_for t g.operation

abbrev pub lease_attempted : Instant → TransId → Option (List ℕ) → ClientTiming → Lease → Lease
lease_attempted now id key t g = changed (attempted (record { id = id; key = key; since = now }) t) g

abbrev pub repeated_if : Instant → ClientTiming → Operation → Operation
repeated_if now t o = if is_exhausted t o then o else sent_once_more now t o

abbrev pub lease_repeated : Instant → ClientTiming → Lease → Lease
lease_repeated now t g = changed (repeated_if now t) g

abbrev pub lease_polled : Lease → Lease
lease_polled g = changed polled g

-- the lease after its report was polled
abbrev pub without_report : Lease → Lease
without_report g = record g { report = None }

-- ---- when something is due

abbrev pub due_or_never : Option Operation → ℕ
due_or_never None = MAX
due_or_never (Some o) = o.due.0

abbrev pub due_of : Lease → ℕ
due_of g = due_or_never g.operation

abbrev pub is_due_in : ℕ → Option Operation → Bool
is_due_in time None = false
is_due_in time (Some o) = nat_le o.due.0 time

abbrev pub is_due_by : ℕ → Lease → Bool
is_due_by time g = is_due_in time g.operation

abbrev pub time_or_never : Option Instant → ℕ
time_or_never None = MAX
time_or_never (Some time) = time.0

-- the next renewal, if there is to be one
abbrev pub renewal_time : Lease → ℕ
renewal_time g = if is_none g.operation && is_none g.barred && is_in_use g then g.renew.0 else MAX

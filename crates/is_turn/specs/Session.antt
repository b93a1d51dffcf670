-- What a TURN client knows of its allocation, and what calls, responses and the clock do to it (RFC 8656, sections 6 to 8).
use Rattle.std.specs.Prelude.{List, ℕ, ◌*◌, ◌-◌, ◌/◌, ◌&&◌, ◌||◌, ◌==◌, not, Bool, true, false, min, max, nat_le, nat_lt, is_some, is_none, Option, Some, None, if◌then◌else◌}
use Rattle.std.specs.declared.net.socket_addr.SocketAddr.{SocketAddr}
use Rattle.std.specs.declared.net.socket_addr.SocketAddr.TheVariants.{V4, V6}
use Rattle.is_proto.specs.Times.{MILLISECOND, SECOND}
use Rattle.is_proto.specs.declared.proto.Instant.{Instant}
use Rattle.is_stun.specs.declared.requested.AddressFamily.{AddressFamily}
use Rattle.is_stun.specs.declared.requested.AddressFamily.TheVariants.{Ipv6}
use Rattle.is_stun.specs.declared.trans_id.TransId.{TransId}
use Rattle.is_turn.specs.declared.attempts.Attempt.{Attempt}
use Rattle.is_turn.specs.declared.operation.Operation.{Operation}
use Rattle.is_turn.specs.declared.requests.Request.{Request}
use Rattle.is_turn.specs.declared.requests.Request.TheVariants.{Allocate, Refresh}
use Rattle.is_turn.specs.declared.session.Allocation.{Allocation}
use Rattle.is_turn.specs.declared.session.Ending.{Ending}
use Rattle.is_turn.specs.declared.session.Phase.{Phase}
use Rattle.is_turn.specs.declared.session.Phase.TheVariants.{New, Asking, Leaving, Ready, Closing, Ended}
use Rattle.is_turn.specs.declared.session.Session.{Session}
use Rattle.is_turn.specs.declared.session.Step.{Step}
use Rattle.is_turn.specs.declared.session.Step.TheVariants as steps
use Rattle.is_turn.specs.declared.session.Why.{Why}
use Rattle.is_turn.specs.declared.session.Why.TheVariants as why
use Rattle.is_turn.specs.declared.timing.ClientTiming.{ClientTiming}
use Rattle.is_turn.specs.Client.{at_time, time_after}
use Rattle.is_turn.specs.Operations.{new_operation, attempted, sent_once_more, is_exhausted}
use Rattle.is_turn.specs.Tried.{tried_only, and_tried}

-- ---- the times of RFC 8656 and of this client

-- an allocation is renewed two minutes before its end, or in the middle of its lifetime if that is later
abbrev pub renewal_of : ℕ → ℕ
renewal_of lifetime = lifetime - min (120 * SECOND) (lifetime / 2)

abbrev pub RETRY : ℕ
RETRY = 10 * SECOND

-- between two packets, unless a response came since the first one
abbrev pub PACE : ℕ
PACE = 5 * MILLISECOND

-- of a lifetime no more than an hour counts
abbrev pub lifetime_of : ℕ → ℕ
lifetime_of seconds = min seconds 3600 * SECOND

-- ---- phases

abbrev pub is_new : Phase → Bool
is_new New = true
is_new _ = false

abbrev pub is_ready : Phase → Bool
is_ready Ready = true
is_ready _ = false

-- a TURN client that was not started, without its credentials
abbrev pub new_session : SocketAddr → Option AddressFamily → ClientTiming → ℕ → Session
new_session server family timing lifetime = record {
  server = server;
  tried = tried_only server;
  timing = timing;
  lifetime = lifetime;
  family = family;
  phase = New;
  operation = None;
  allocation = None;
  until = at_time 0;
  renew = at_time 0;
  quiet = at_time 0;
  paced = at_time 0;
  alive = None;
  doubt = None;
  made = None;
  ending = None;
}

abbrev pub earlier : Instant → Instant → Instant
earlier a b = at_time (min a.0 b.0)

-- ---- requests

-- The next packet may go at once. This is for a request that a response makes due: that response has ended the request before, so no more
-- requests are pending than before, and the server sets the pace. The limits of RFC 8489, section 6.2, are for requests that a client
-- begins by itself.
abbrev pub without_pace : Instant → Session → Session
without_pace now s = record s { paced = earlier now s.paced }

abbrev pub with_request : Instant → Request → Session → Session
with_request now request s = record s { operation = Some (new_operation request now) }

-- the pending request, changed, if there is one
abbrev pub changed_by : (Operation → Operation) → Option Operation → Session → Session
changed_by change None s = s
changed_by change (Some o) s = record s { operation = Some (change o) }

abbrev pub allocate : Session → Request
allocate s = Allocate s.lifetime s.family

-- while a client closes, a request is sent at most twice, and not more often than before
abbrev pub timing_in : Phase → ClientTiming → ClientTiming
timing_in Leaving t = record t { requests = min t.requests 2 }
timing_in Closing t = record t { requests = min t.requests 2 }
timing_in _ t = t

abbrev pub request_timing : Session → ClientTiming
request_timing s = timing_in s.phase s.timing

abbrev pub doubt_in : Option Operation → Option ℕ
doubt_in None = None
doubt_in (Some o) = o.doubt

abbrev pub doubt_of : Session → Option ℕ
doubt_of s = doubt_in s.operation

-- ---- calls of the user

abbrev pub asking : Instant → Session → Session
asking now s = with_request now (allocate s) (record s { phase = Asking })

abbrev pub turn_started : Instant → Session → Session
turn_started now s = if is_new s.phase then asking now s else s

abbrev pub ending_of : Why → Option ℕ → Option ℕ → Ending
ending_of reason code doubt = record { why = reason; code = code; unverified = doubt }

-- `Ended` is the last event; the allocation is no more
abbrev pub ended : Ending → Session → Session
ended ending s = record s { phase = Ended; operation = None; allocation = None; alive = None; ending = Some ending }

abbrev pub closed : Option ℕ → Session → Session
closed code s = ended (ending_of why.Closed code None) s

abbrev pub lost : Option ℕ → Option ℕ → Session → Session
lost code doubt s = ended (ending_of why.Lost code doubt) s

-- a Refresh with the lifetime 0
abbrev pub freed : Instant → Session → Session
freed now s = with_request now (Refresh 0) (record s { phase = Closing; allocation = None; alive = None })

-- a request was sent that a server may have answered with an allocation: any of a client without credentials, or a signed one
abbrev pub is_key_enough : Bool → Option Attempt → Bool
is_key_enough has_credentials None = false
is_key_enough has_credentials (Some a) = not has_credentials || is_some a.key

abbrev pub may_be_made_by : Bool → Option Operation → Bool
may_be_made_by has_credentials None = false
may_be_made_by has_credentials (Some o) = is_key_enough has_credentials o.attempts.last

abbrev pub may_be_made : Bool → Session → Bool
may_be_made has_credentials s = may_be_made_by has_credentials s.operation

abbrev pub unsent : Operation → Operation
unsent o = record o { sent = 0 }

-- the allocation that may have been made is waited for, and freed
abbrev pub left : Session → Session
left s = changed_by unsent s.operation (record s { phase = Leaving })

abbrev pub closed_early : Bool → Session → Session
closed_early has_credentials s = if may_be_made has_credentials s then left s else closed None s

abbrev pub closed_in : Phase → Instant → Bool → Session → Session
closed_in Ready now has_credentials s = freed now s
closed_in Asking now has_credentials s = closed_early has_credentials s
closed_in New now has_credentials s = closed_early has_credentials s
closed_in _ now has_credentials s = s

abbrev pub turn_closed : Instant → Bool → Session → Session
turn_closed now has_credentials s = closed_in s.phase now has_credentials s

-- the socket is gone: a client that was closed has closed, one with an allocation has lost it, any other has failed
abbrev pub lost_in : Phase → Session → Session
lost_in New s = ended (ending_of why.Failed None None) s
lost_in Asking s = ended (ending_of why.Failed None None) s
lost_in Ready s = lost None None s
lost_in Leaving s = closed None s
lost_in Closing s = closed None s
lost_in Ended s = s

abbrev pub turn_lost : Session → Session
turn_lost s = lost_in s.phase s

-- ---- genuine responses. Each time is counted from when the request was first sent, so the server has the allocation at least that long

abbrev pub extended : Instant → ℕ → Session → Session
extended since seconds s =
    record s { until = time_after since (lifetime_of seconds); renew = time_after since (renewal_of (lifetime_of seconds)) }

abbrev pub with_allocation : Instant → Allocation → Session → Session
with_allocation now allocation s = record s {
  phase = Ready;
  operation = None;
  allocation = Some allocation;
  made = Some allocation;
  quiet = time_after now s.timing.keep_alive.0;
}

abbrev pub allocated_in : Phase → Instant → Allocation → Session → Session
allocated_in Leaving now allocation s = freed now (without_pace now s)
allocated_in _ now allocation s = with_allocation now allocation s

-- a success response to Allocate
abbrev pub is_allocated : Instant → Instant → ℕ → Allocation → Session → Session
is_allocated now since seconds allocation s = allocated_in s.phase now allocation (extended since seconds s)

abbrev pub renewed : Instant → ℕ → Session → Session
renewed since seconds s = record (extended since seconds s) { operation = None }

abbrev pub refreshed_in : Phase → Instant → ℕ → Session → Session
refreshed_in Closing since seconds s = closed None s
refreshed_in _ since seconds s = if seconds == 0 then lost None None s else renewed since seconds s

-- a success response to Refresh: of a client that closes the end; with the lifetime 0 the allocation is gone
abbrev pub is_refreshed : Instant → ℕ → Session → Session
is_refreshed since seconds s = refreshed_in s.phase since seconds s

-- another server is asked, at once
abbrev pub is_redirected : Instant → SocketAddr → Session → Session
is_redirected now server s = with_request now (allocate s) (record (without_pace now s) { server = server; tried = and_tried server s.tried })

-- 437 and 441 say that there is no allocation of ours (RFC 8656, section 5)
abbrev pub is_gone : Option ℕ → Bool
is_gone None = false
is_gone (Some code) = code == 437 || code == 441

-- a renewal that failed is tried again, until the end
abbrev pub retried : Instant → Session → Session
retried now s = record s { doubt = doubt_of s; renew = time_after now RETRY; operation = None }

abbrev pub not_renewed : Instant → Option ℕ → Session → Session
not_renewed now code s = if is_gone code then lost code None s else retried now s

-- without an error response the code of one that nobody signed is named
abbrev pub unverified : Option ℕ → Session → Option ℕ
unverified code s = if is_some code then None else doubt_of s

abbrev pub not_allocated : Option ℕ → Session → Session
not_allocated code s = ended (ending_of why.Failed code (unverified code s)) s

abbrev pub failed_in : Phase → Instant → Option ℕ → Session → Session
failed_in Leaving now code s = closed code s
failed_in Closing now code s = closed code s
failed_in Ready now code s = not_renewed now code s
failed_in _ now code s = not_allocated code s

-- an error response with this code, or no response
abbrev pub has_failed : Instant → Option ℕ → Session → Session
has_failed now code s = failed_in s.phase now code s

-- ---- leases

abbrev pub is_v6 : SocketAddr → Bool
is_v6 (V4 a) = false
is_v6 (V6 a) = true

abbrev pub is_v6_family : Option AddressFamily → Bool
is_v6_family (Some Ipv6) = true
is_v6_family _ = false

abbrev pub takes_permissions : Phase → Bool
takes_permissions Asking = true
takes_permissions Ready = true
takes_permissions _ = false

-- there is an allocation, or one is requested, and the peer has its IP version
abbrev pub may_permit : SocketAddr → Session → Bool
may_permit peer s = takes_permissions s.phase && (if is_v6_family s.family then is_v6 peer else not (is_v6 peer))

-- the server is asked whether it has the allocation
abbrev pub probed : Instant → Session → Session
probed now s = if is_ready s.phase && is_none s.operation then with_request now (Refresh s.lifetime) s else s

-- An error response to the request for a lease. Some servers without an allocation return 400 to it, and 437 only to a Refresh.
abbrev pub lease_failed : Instant → ℕ → Session → Session
lease_failed now code s =
    if is_gone (Some code) then lost (Some code) None s
    else if code == 403 || code == 443 then s
    else probed now s

-- a keep-alive is due later: something is sent
abbrev pub quiet_after : Instant → Session → Session
quiet_after now s = record s { quiet = time_after now s.timing.keep_alive.0 }

-- ---- the clock

abbrev pub is_renewal_due : Instant → Session → Bool
is_renewal_due now s = is_ready s.phase && is_none s.operation && nat_le s.renew.0 now.0

abbrev pub with_renewal : Instant → Session → Session
with_renewal now s = if is_renewal_due now s then with_request now (Refresh s.lifetime) s else s

abbrev pub keep_alive_due : Instant → Session → Step
keep_alive_due now s = if is_ready s.phase && nat_le s.quiet.0 now.0 then steps.KeepAlive else steps.Nothing

abbrev pub due_of : Instant → Session → Operation → Step
due_of now s o =
    if nat_lt now.0 o.due.0 then keep_alive_due now s
    else if o.is_fresh then steps.Attempt
    else if is_exhausted (request_timing s) o then steps.TimeOut
    else steps.Repeat

abbrev pub due_or : Instant → Session → Option Operation → Step
due_or now s None = keep_alive_due now s
due_or now s (Some o) = due_of now s o

-- the end goes first; then the request, if the pace allows a packet; then a keep-alive
abbrev pub step_of : Instant → Session → Step
step_of now s =
    if is_ready s.phase && nat_le s.until.0 now.0 then steps.Lapse
    else if nat_lt now.0 s.paced.0 then steps.Nothing
    else due_or now s s.operation

abbrev pub sending : Instant → Session → Session
sending now s = record s { paced = time_after now PACE; quiet = time_after now s.timing.keep_alive.0 }

abbrev pub tried_by : Instant → Attempt → Option Operation → Session → Session
tried_by now attempt None s = s
tried_by now attempt (Some o) s = sending now (record s { operation = Some (attempted attempt (request_timing s) o) })

-- another attempt, with a new transaction ID
abbrev pub tried_with : Instant → TransId → Option (List ℕ) → Session → Session
tried_with now id key s = tried_by now (record { id = id; key = key; since = now }) s.operation s

abbrev pub repeated_by : Instant → Option Operation → Session → Session
repeated_by now None s = s
repeated_by now (Some o) s =
    if is_exhausted (request_timing s) o then s
    else sending now (record s { operation = Some (sent_once_more now (request_timing s) o) })

-- the last attempt once more
abbrev pub repeated_at : Instant → Session → Session
repeated_at now s = repeated_by now s.operation s

abbrev pub kept_alive : Instant → TransId → Session → Session
kept_alive now id s = sending now (record s { alive = Some id })

abbrev pub lapsed : Session → Session
lapsed s = lost None s.doubt s

-- ---- when something is due

abbrev pub paced_at : Instant → Instant → Instant
paced_at due paced = at_time (max due.0 paced.0)

abbrev pub with_end : Instant → Session → Instant
with_end time s = if is_ready s.phase then earlier time (earlier s.until (paced_at s.quiet s.paced)) else time

abbrev pub time_or : Option Operation → Session → Option Instant
time_or None s = if is_ready s.phase then Some (with_end s.renew s) else None
time_or (Some o) s = Some (with_end (paced_at o.due s.paced) s)

abbrev pub next_turn_time : Session → Option Instant
next_turn_time s = time_or s.operation s

-- What a response does to a TURN client (RFC 8489, section 9.2.5; RFC 8656, sections 7 and 8).
use Rattle.std.specs.Prelude.{ℕ, not, ◌&&◌, ◌==◌, Bool, true, false, List, is_some, Option, Some, None, if◌then◌else◌}
use Rattle.std.specs.declared.net.socket_addr.SocketAddr.{SocketAddr}
use Rattle.is_stun.specs.declared.header.Method.{Method}
use Rattle.is_stun.specs.declared.header.Method.TheVariants as methods
use Rattle.is_stun.specs.declared.trans_id.TransId.{TransId}
use Rattle.is_stun.specs.Message.{Message}
use Rattle.is_turn.specs.declared.attempts.Attempt.{Attempt}
use Rattle.is_turn.specs.declared.operation.Operation.{Operation}
use Rattle.is_turn.specs.declared.outcome.Outcome.{Outcome}
use Rattle.is_turn.specs.declared.outcome.Outcome.TheVariants.{Dropped, Doubted, Hinted, Challenged, Allocated, Refreshed, Lasting, Redirected, Failed}
use Rattle.is_turn.specs.declared.outcome.Reason.TheVariants as reasons
use Rattle.is_turn.specs.declared.requests.Request.{Request}
use Rattle.is_turn.specs.declared.requests.Request.TheVariants as requests
use Rattle.is_turn.specs.declared.session.Phase.{Phase}
use Rattle.is_turn.specs.declared.session.Phase.TheVariants as phases
use Rattle.is_turn.specs.declared.session.Session.{Session}
use Rattle.is_turn.specs.declared.verdict.Verdict.{Verdict}
use Rattle.is_turn.specs.declared.verdict.Verdict.TheVariants as verdicts
use Rattle.is_turn.specs.Attempts.{attempt_with, is_last}
use Rattle.is_turn.specs.Credentials.{Credentials}
use Rattle.is_turn.specs.Operations.{takes_challenge}
use Rattle.is_turn.specs.Verdict.{code_of, verdict_of}

-- ---- which attempt a response answers: by its method and transaction ID

abbrev pub answers_request : Request → Method → Bool
answers_request (requests.Allocate seconds family) methods.Allocate = true
answers_request (requests.Refresh seconds) methods.Refresh = true
answers_request (requests.CreatePermission peer) methods.CreatePermission = true
answers_request (requests.ChannelBind number peer) methods.ChannelBind = true
answers_request _ _ = false

abbrev pub id_in : Message → TransId
id_in m = record { 0 = m.id }

abbrev pub answered_in : Message → Operation → Option Attempt
answered_in m o = if answers_request o.request m.method then attempt_with (id_in m) o.attempts else None

abbrev pub answered_by : Message → Option Operation → Option Attempt
answered_by m None = None
answered_by m (Some o) = answered_in m o

-- the attempt of the pending request that the message answers
abbrev pub attempt_answered : Message → Session → Option Attempt
attempt_answered m s = answered_by m s.operation

abbrev pub key_in : Option Attempt → Option (List ℕ)
key_in None = None
key_in (Some a) = a.key

-- the key that has to sign it
abbrev pub key_answered : Message → Session → Option (List ℕ)
key_answered m s = key_in (attempt_answered m s)

-- ---- what a genuine response does

abbrev pub on_alternate : Phase → Option SocketAddr → Outcome
on_alternate phases.Asking (Some server) = Redirected server
on_alternate _ _ = Failed 300

abbrev pub lasts : Attempt → Message → SocketAddr → Option ℕ → Outcome
lasts a m relayed None = Dropped reasons.Malformed
lasts a m relayed (Some seconds) =
    if seconds == 0 then Dropped reasons.Malformed
    else Allocated a.since seconds (record { relayed = relayed; mapped = m.attributes.xor_mapped_address })

abbrev pub relays : Attempt → Message → Option SocketAddr → Outcome
relays a m None = Dropped reasons.Malformed
relays a m (Some relayed) = lasts a m relayed m.attributes.lifetime

-- a relayed address and a lifetime
abbrev pub on_allocated : Attempt → Message → Outcome
on_allocated a m = relays a m m.attributes.xor_relayed_address

abbrev pub seconds_or_none : Option ℕ → ℕ
seconds_or_none None = 0
seconds_or_none (Some seconds) = seconds

abbrev pub on_refreshed : Attempt → Message → Outcome
on_refreshed a m = Refreshed a.since (seconds_or_none m.attributes.lifetime)

abbrev pub on_success : Request → Attempt → Message → Outcome
on_success (requests.Allocate seconds family) a m = on_allocated a m
on_success (requests.Refresh seconds) a m = on_refreshed a m
on_success (requests.CreatePermission peer) a m = Lasting a.since
on_success (requests.ChannelBind number peer) a m = Lasting a.since

abbrev pub on_code : Phase → Request → Attempt → Message → Option SocketAddr → Option ℕ → Outcome
on_code phase r a m alternate None = on_success r a m
on_code phase r a m alternate (Some code) = if code == 300 then on_alternate phase alternate else Failed code

abbrev pub on_genuine : Phase → Request → Attempt → Message → Option SocketAddr → Outcome
on_genuine phase r a m alternate = on_code phase r a m alternate (code_of m)

-- ---- what another one does

abbrev pub or_success : Option ℕ → ℕ
or_success None = 200
or_success (Some code) = code

abbrev pub code_or_success : Message → ℕ
code_or_success m = or_success (code_of m)

-- A challenge is taken to the last attempt, within the limits. A 401 to a signed attempt, before the server has shown that it knows
-- the password, is a hint that USERNAME or password are wrong.
abbrev pub on_challenge : Operation → Attempt → ℕ → Bool → Outcome
on_challenge o a code is_unknown =
    if not (takes_challenge a.id (is_some a.key) code o) then Dropped reasons.Challenge
    else if code == 401 && is_some a.key && is_unknown then Hinted code
    else Challenged (is_some a.key) code

-- ---- all

abbrev pub outcome_by : Verdict → Phase → Bool → Operation → Attempt → Message → Option SocketAddr → Outcome
outcome_by verdicts.Malformed phase is_unknown o a m alternate = Dropped reasons.Malformed
outcome_by verdicts.Unauthentic phase is_unknown o a m alternate = Doubted (code_or_success m)
outcome_by verdicts.Hint phase is_unknown o a m alternate = Hinted (code_or_success m)
outcome_by verdicts.Challenge phase is_unknown o a m alternate = on_challenge o a (code_or_success m) is_unknown
outcome_by verdicts.Redirect phase is_unknown o a m alternate = on_alternate phase alternate
outcome_by verdicts.Genuine phase is_unknown o a m alternate = on_genuine phase o.request a m alternate

abbrev pub is_unknown : Option Credentials → Bool
is_unknown None = false
is_unknown (Some c) = is_some c.password

abbrev pub is_last_sent : Attempt → Operation → Bool
is_last_sent a o = not o.is_fresh && is_last a.id o.attempts

abbrev pub outcome_in : Bool → Phase → Option Credentials → Message → Option SocketAddr → Operation → Attempt → Outcome
outcome_in is_signed phase c m alternate o a =
    outcome_by (verdict_of is_signed (is_last_sent a o) a.key c m) phase (is_unknown c) o a m alternate

abbrev pub outcome_or : Bool → Phase → Option Credentials → Message → Option SocketAddr → Operation → Option Attempt → Outcome
outcome_or is_signed phase c m alternate o None = Dropped reasons.Unasked
outcome_or is_signed phase c m alternate o (Some a) = outcome_in is_signed phase c m alternate o a

-- the outcome of a response to this request, given whether it is signed with the key of the attempt that it answers, and the server that
-- it names
abbrev pub outcome_on : Bool → Phase → Option Credentials → Message → Option SocketAddr → Operation → Outcome
outcome_on is_signed phase c m alternate o = outcome_or is_signed phase c m alternate o (answered_in m o)

abbrev pub outcome_with : Bool → Phase → Option Credentials → Message → Option SocketAddr → Option Operation → Outcome
outcome_with is_signed phase c m alternate None = Dropped reasons.Unasked
outcome_with is_signed phase c m alternate (Some o) = outcome_on is_signed phase c m alternate o

-- the outcome of a response to the pending request, given whether it is signed, and the server that it names
abbrev pub outcome_for : Bool → Session → Option Credentials → Message → Option SocketAddr → Outcome
outcome_for is_signed s c m alternate = outcome_with is_signed s.phase c m alternate s.operation

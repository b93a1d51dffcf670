-- A TURN client: its session and its credentials, and what each call does to them.
use Rattle.std.specs.Prelude.{◌≡◌, ℕ, ◌⊎◌, Bool, true, false, List, length, Option, Some, None, option_map, Result, Ok, Err, if◌then◌else◌}
use Rattle.std.specs.declared.net.socket_addr.SocketAddr.{SocketAddr}
use Rattle.rand_core.specs.Stream.{Stream, fill_bytes}
use Rattle.is_proto.specs.declared.error.StunError.{StunError}
use Rattle.is_proto.specs.declared.proto.Instant.{Instant}
use Rattle.is_stun.specs.declared.header.Class.TheVariants.{Indication}
use Rattle.is_stun.specs.declared.header.Method.TheVariants.{Binding}
use Rattle.is_stun.specs.declared.trans_id.TransId.{TransId}
use Rattle.is_stun.specs.Builder.{built}
use Rattle.is_stun.specs.Message.{Message, no_attributes}
use Rattle.is_stun.specs.Writing.{rejection, rows_rejection, written, written_rows, WritesOr}
use Rattle.is_turn.specs.declared.operation.Operation.{Operation}
use Rattle.is_turn.specs.declared.outcome.Outcome.{Outcome}
use Rattle.is_turn.specs.declared.outcome.Outcome.TheVariants.{Dropped, Doubted, Hinted, Challenged, Allocated, Refreshed, Lasting, Redirected, Failed}
use Rattle.is_turn.specs.declared.outcome.Reason.TheVariants as reasons
use Rattle.is_turn.specs.declared.requests.Request.{Request}
use Rattle.is_turn.specs.declared.session.Allocation.{Allocation}
use Rattle.is_turn.specs.declared.session.Ending.{Ending}
use Rattle.is_turn.specs.declared.session.Phase.{Phase}
use Rattle.is_turn.specs.declared.session.Phase.TheVariants as phases
use Rattle.is_turn.specs.declared.session.Session.{Session}
use Rattle.is_turn.specs.declared.session.Step.{Step}
use Rattle.is_turn.specs.declared.session.Step.TheVariants as steps
use Rattle.is_turn.specs.declared.turn.Packet.{Packet}
use Rattle.is_turn.specs.declared.turn.Packet.TheVariants as packets
use Rattle.is_turn.specs.declared.turn.TurnEvent.{TurnEvent}
use Rattle.is_turn.specs.declared.turn.TurnEvent.TheVariants as events
use Rattle.is_turn.specs.declared.attempts.Attempt.{Attempt}
use Rattle.is_turn.specs.declared.credentials.Credentials.{Credentials as RawCredentials}
use Rattle.is_turn.specs.Credentials.{Credentials, credentials_of, challenged, forgotten, without_challenge}
use Rattle.is_turn.specs.Operations.{polled, hinted, doubted, another}
use Rattle.is_turn.specs.Receipts.{Receipt, own, dropped}
use Rattle.is_turn.specs.Requests.{type_of, signer_of, key_of, request_rows}
use Rattle.is_turn.specs.Session.{changed_by, is_allocated, is_refreshed, is_redirected, has_failed, request_timing, without_pace, tried_with, repeated_at, kept_alive, lapsed}
use Rattle.is_turn.specs.Tried.{HasTried, is_full}

-- ---- credentials

abbrev pub known : Option RawCredentials → Option Credentials
known c = option_map credentials_of c

-- the key that a request is signed with
abbrev pub key_now : Option Credentials → Option (List ℕ)
key_now c = key_of (signer_of c)

abbrev pub kept_in : Phase → Option Credentials → Option Credentials
kept_in phases.Ended c = None
kept_in _ c = c

-- an ended client keeps none
abbrev pub kept_credentials : Session → Option Credentials → Option Credentials
kept_credentials s c = kept_in s.phase c

abbrev pub taken_by : Credentials × Bool → Option Credentials × Bool
taken_by r = (Some r.0, r.1)

-- the REALM and the NONCE of a challenge, and whether they allow to go on
abbrev pub challenge_taken : Option (List ℕ) → Option (List ℕ) → Option Credentials → Option Credentials × Bool
challenge_taken realm _ None = (None, false)
challenge_taken realm nonce (Some c) = taken_by (challenged realm nonce c)

-- ---- the clock

abbrev pub tried_by_drawn : Instant → Option (List ℕ) → List ℕ × Stream → Session → Session × Stream
tried_by_drawn now key drawn s = (tried_with now (record { 0 = drawn.0 }) key s, drawn.1)

abbrev pub alive_by_drawn : Instant → List ℕ × Stream → Session → Session × Stream
alive_by_drawn now drawn s = (kept_alive now (record { 0 = drawn.0 }) s, drawn.1)

-- one step. Only another attempt and a keep-alive take random bytes, 12
abbrev pub after_step : Step → Instant → Option (List ℕ) → Stream → Session → Session × Stream
after_step steps.Nothing now key stream s = (s, stream)
after_step steps.Lapse now key stream s = (lapsed s, stream)
after_step steps.Attempt now key stream s = tried_by_drawn now key (fill_bytes 12 stream) s
after_step steps.Repeat now key stream s = (repeated_at now s, stream)
after_step steps.TimeOut now key stream s = (has_failed now None s, stream)
after_step steps.KeepAlive now key stream s = alive_by_drawn now (fill_bytes 12 stream) s

-- ---- packets and events

-- a Binding indication without attributes (RFC 8656, section 5)
abbrev pub alive_message : TransId → Message
alive_message id = built Binding Indication id.0 no_attributes

abbrev pub alive_or_nothing : Option TransId → Packet
alive_or_nothing None = packets.Nothing
alive_or_nothing (Some id) = packets.KeepAlive id

abbrev pub request_or : Request → Option Attempt → Packet → Packet
request_or r None other = other
request_or r (Some a) other = packets.Request r a.id

abbrev pub packet_or : Option Operation → Packet → Packet
packet_or None other = other
packet_or (Some o) other = if o.is_waiting then request_or o.request o.attempts.last other else other

-- the request that waits for polling, else a keep-alive
abbrev pub packet_due : Session → Packet
packet_due s = packet_or s.operation (alive_or_nothing s.alive)

-- a request is signed once a challenge was taken
abbrev pub PollsPacket : Packet → (List ℕ → List ℕ → List ℕ) → Option Credentials → List ℕ → Result (Option ℕ) StunError → List ℕ → Type 0
PollsPacket packets.Nothing mac c old result new = (result ≡ Ok None) × (new ≡ old)
PollsPacket (packets.Request r id) mac c old (Ok None) new = ⊥
PollsPacket (packets.Request r id) mac c old (Ok (Some n)) new =
    WritesOr (Ok n) old new (rows_rejection (key_now c) (length old) (request_rows id.0 r (signer_of c)))
    (written_rows mac (key_now c) (type_of r) id.0 (request_rows id.0 r (signer_of c)))
PollsPacket (packets.Request r id) mac c old (Err e) new =
    WritesOr (Err e) old new (rows_rejection (key_now c) (length old) (request_rows id.0 r (signer_of c)))
    (written_rows mac (key_now c) (type_of r) id.0 (request_rows id.0 r (signer_of c)))
PollsPacket (packets.Lease place r id) mac c old (Ok None) new = ⊥
PollsPacket (packets.Lease place r id) mac c old (Ok (Some n)) new =
    WritesOr (Ok n) old new (rows_rejection (key_now c) (length old) (request_rows id.0 r (signer_of c)))
    (written_rows mac (key_now c) (type_of r) id.0 (request_rows id.0 r (signer_of c)))
PollsPacket (packets.Lease place r id) mac c old (Err e) new =
    WritesOr (Err e) old new (rows_rejection (key_now c) (length old) (request_rows id.0 r (signer_of c)))
    (written_rows mac (key_now c) (type_of r) id.0 (request_rows id.0 r (signer_of c)))
PollsPacket (packets.KeepAlive id) mac c old (Ok None) new = ⊥
PollsPacket (packets.KeepAlive id) mac c old (Ok (Some n)) new =
    WritesOr (Ok n) old new (rejection None (length old) (alive_message id)) (written mac None (alive_message id))
PollsPacket (packets.KeepAlive id) mac c old (Err e) new =
    WritesOr (Err e) old new (rejection None (length old) (alive_message id)) (written mac None (alive_message id))

abbrev pub request_polled : Session → Session
request_polled s = changed_by polled s.operation s

abbrev pub packet_polled : Packet → Session → Session
packet_polled packets.Nothing s = s
packet_polled (packets.Request r id) s = request_polled s
packet_polled (packets.KeepAlive id) s = record s { alive = None }
packet_polled (packets.Lease place r id) s = s

abbrev pub ended_event : Option Ending → Option TurnEvent
ended_event ending = option_map events.Ended ending

abbrev pub event_by : Option Allocation → Option Ending → Option TurnEvent
event_by None ending = ended_event ending
event_by (Some made) ending = Some (events.Allocated made)

abbrev pub event_of : Session → Option TurnEvent
event_of s = event_by s.made s.ending

abbrev pub reported_by : Option Allocation → Session → Session
reported_by None s = record s { ending = None }
reported_by (Some made) s = record s { made = None }

abbrev pub after_event : Session → Session
after_event s = reported_by s.made s

-- ---- the outcomes

abbrev pub with_doubt : ℕ → Session → Session
with_doubt code s = changed_by (doubted code) s.operation s

abbrev pub with_hint : Instant → ℕ → Session → Session
with_hint now code s = changed_by (hinted now code (request_timing s)) s.operation s

-- another attempt goes at once
abbrev pub with_another : Instant → Bool → ℕ → Session → Session
with_another now is_signed code s = changed_by (another now is_signed code) s.operation (without_pace now s)

-- a server that was asked before, or a fourth redirection, is an error 300
abbrev pub IsFollowed : SocketAddr → Session → Type 0
IsFollowed server s = (is_full s.tried ≡ false) × ¬ (HasTried server s.tried)

abbrev pub IsNotFollowed : SocketAddr → Session → Type 0
IsNotFollowed server s = (is_full s.tried ≡ true) ⊎ HasTried server s.tried

abbrev pub Follows : Instant → SocketAddr → Session → Session → Type 0
Follows now server s new =
    (IsFollowed server s × (new ≡ is_redirected now server s)) ⊎ (IsNotFollowed server s × (new ≡ has_failed now (Some 300) s))

-- the REALM and the NONCE are taken and another attempt is due, or only the code is kept
abbrev pub IsChallengedBy : Instant → Bool → ℕ → Session → Option Credentials × Bool → Receipt → Session → Option Credentials → Type 0
IsChallengedBy now is_signed code s taken result new c_new =
    (result ≡ (if taken.1 then own else dropped reasons.Challenge))
    × (new ≡ (if taken.1 then with_another now is_signed code s else with_doubt code s))
    × (c_new ≡ taken.0)

abbrev pub IsChallenged : Instant → Bool → ℕ → Option (List ℕ) → Option (List ℕ) → Session → Option Credentials
    → Receipt → Session → Option Credentials → Type 0
IsChallenged now is_signed code realm nonce s c result new c_new =
    IsChallengedBy now is_signed code s (challenge_taken realm nonce c) result new c_new

-- a genuine response: the server has shown that it knows the password
abbrev pub IsTaken : Session → Option Credentials → Receipt → Session → Option Credentials → Type 0
IsTaken after c result new c_new = (result ≡ own) × (new ≡ after) × (c_new ≡ kept_credentials after (option_map forgotten c))

-- what each outcome does to the session and the credentials, given the REALM and the NONCE of the response
abbrev pub OutcomeApplies : Instant → Outcome → Option (List ℕ) → Option (List ℕ) → Session → Option Credentials
    → Receipt → Session → Option Credentials → Type 0
OutcomeApplies now (Dropped reason) realm _ s c result new c_new = (result ≡ dropped reason) × (new ≡ s) × (c_new ≡ c)
OutcomeApplies now (Doubted code) realm _ s c result new c_new =
    (result ≡ dropped reasons.Unauthentic) × (new ≡ with_doubt code s) × (c_new ≡ c)
OutcomeApplies now (Hinted code) realm _ s c result new c_new = (result ≡ own) × (new ≡ with_hint now code s) × (c_new ≡ c)
OutcomeApplies now (Challenged is_signed code) realm nonce s c result new c_new =
    IsChallenged now is_signed code realm nonce s c result new c_new
OutcomeApplies now (Allocated since seconds allocation) realm _ s c result new c_new =
    (result ≡ own) × (new ≡ is_allocated now since seconds allocation s) × (c_new ≡ option_map forgotten c)
OutcomeApplies now (Refreshed since seconds) realm _ s c result new c_new = IsTaken (is_refreshed since seconds s) c result new c_new
OutcomeApplies now (Lasting since) realm _ s c result new c_new = (result ≡ dropped reasons.Unasked) × (new ≡ s) × (c_new ≡ c)
OutcomeApplies now (Redirected server) realm _ s c result new c_new =
    (result ≡ own) × Follows now server s new × (c_new ≡ kept_credentials new (option_map without_challenge c))
OutcomeApplies now (Failed code) realm _ s c result new c_new = IsTaken (has_failed now (Some code) s) c result new c_new

-- When a pair is due for its next check, and when it fails.
use Rattle.std.specs.Prelude.{[], ◌≡◌, ℕ, ◌<◌, ◌≤◌, ◌+◌, ◌-◌, ◌*◌, ◌==◌, ◌&&◌, ◌||◌, ◌⊎◌, Bool, true, false, not, nat_lt, nat_le, min, max, List, length, Option}
use Rattle.std.specs.Prelude.{Some, None, unwrap_or, option_map, if◌then◌else◌}
use Rattle.std.specs.Option.{option_map_or}
use Rattle.is_proto.specs.Lists.{Has, NonePass}
use Rattle.is_proto.specs.Times.{MAX, MILLISECOND, SECOND, later}
use Rattle.is_stun.specs.declared.timing.StunTiming.{StunTiming}
use Rattle.is_stun.specs.declared.timing.Consent.{Consent}
use Rattle.is_stun.specs.Timing.{consent_of, early_delay, is_modern, resend_delay, last_resend_delay, timeout_of}
use Rattle.is_pair.specs.declared.pair.states.NominationState.{NominationState}
use Rattle.is_pair.specs.declared.pair.states.NominationState.TheVariants.{None as Unnominated, Nominated, Attempt, Success}
use Rattle.is_pair.specs.Checks.{Check, last_check, last_round_trip, unanswered_count, first_unanswered}
use Rattle.is_pair.specs.States.{is_nominating, nominates_first}
use Rattle.is_pair.specs.Pairs.{PairRecord, is_nominated, is_valid, is_lite_alive}

-- ---- when it is due

-- 60 s before now, or now if that would be before the beginning
abbrev pub long_before : ℕ → ℕ
long_before now = if nat_lt now (60 * SECOND) then now else now - 60 * SECOND

-- for longer than half the longest RTO, no check had a response
abbrev pub is_silent : ℕ → StunTiming → List Check → Bool
is_silent now t checks = option_map_or (λ c. nat_lt t.max_rto.0 (2 * (now - c.sent))) (first_unanswered checks) false

-- the number of checks that the RTO depends on: so the checks come faster again when the peer falls silent
abbrev pub delaying_count : ℕ → StunTiming → List Check → ℕ
delaying_count now t checks = if is_silent now t checks then unanswered_count checks else length checks

-- the RTO after the last check
abbrev pub usual_delay : ℕ → StunTiming → List Check → ℕ
usual_delay now t checks = resend_delay t (delaying_count now t checks)

-- how long a pair is at its beginning
abbrev pub BEGINNING : ℕ
BEGINNING = 500 * MILLISECOND

-- its first check was sent less than that ago, or is still to be sent
abbrev pub is_beginning : ℕ → PairRecord → Bool
is_beginning now p = option_map_or (λ at. nat_lt now (later at BEGINNING)) p.first_sent true

-- the checks without a response: all, as long as there was none
abbrev pub silent_count : PairRecord → ℕ
silent_count p = if p.answers == 0 then p.checks_sent else unanswered_count p.checks

-- how long checks without a response are repeated early, at most as long as a whole series of checks takes
abbrev pub EARLY_TIME : ℕ
EARLY_TIME = 2150 * MILLISECOND

abbrev pub early_time : StunTiming → ℕ
early_time t = min EARLY_TIME (timeout_of t)

abbrev pub is_within : ℕ → ℕ → Option ℕ → Bool
is_within span now since = option_map_or (λ at. nat_lt now (later at span)) since false

-- the same for a pair whose first check followed a request, since whoever sees a request can replay it from any address
abbrev pub ASKED_TIME : ℕ
ASKED_TIME = 1200 * MILLISECOND

-- Its first check followed a request of the peer: so it is with each pair that a request brings.
abbrev pub is_asked_first : PairRecord → Bool
is_asked_first p = option_map_or (λ first. option_map_or (λ again. nat_le again first) p.first_after_request false) p.first_sent false

abbrev pub early_span : StunTiming → PairRecord → ℕ
early_span t p = if is_asked_first p then min ASKED_TIME (early_time t) else early_time t

-- Less than that has passed since the first check, or since the first one after a request of the peer.
abbrev pub is_early_on : ℕ → StunTiming → PairRecord → Bool
is_early_on now t p = is_within (early_span t p) now p.first_sent || is_within (early_span t p) now p.first_after_request

-- With the profile `Modern`, checks are repeated early for that time while no response arrived on the pair; and those that nominate a pair
-- with a response, until `max_retransmits` checks have none.
abbrev pub is_repeated_early : ℕ → StunTiming → PairRecord → Bool
is_repeated_early now t p =
    if p.answers == 0 then is_early_on now t p else is_nominating p.nomination && nat_lt (unanswered_count p.checks) t.max_retransmits

-- A valid nominated pair has checks without a response.
abbrev pub is_hushed : PairRecord → Bool
is_hushed p = is_valid p && is_nominated p && nat_lt 0 (unanswered_count p.checks)

-- how much later than the one before a response may come, or sooner
abbrev pub LATENESS : ℕ
LATENESS = 30 * MILLISECOND

-- how long it is checked quickly at least, from the time on at which the check after the last answered one was due at the latest
abbrev pub HUSHED_TIME : ℕ
HUSHED_TIME = 4500 * MILLISECOND

-- how often at most
abbrev pub SHORT_INTERVAL : ℕ
SHORT_INTERVAL = 70 * MILLISECOND

-- and after that
abbrev pub HUSHED_INTERVAL : ℕ
HUSHED_INTERVAL = 500 * MILLISECOND

abbrev pub hushed_interval : ℕ → StunTiming → PairRecord → ℕ
hushed_interval now t p =
    if nat_lt (unanswered_count p.checks) t.max_retransmits || is_within (later t.max_rto.0 HUSHED_TIME) now p.consented
    then SHORT_INTERVAL
    else HUSHED_INTERVAL

-- by the time that the last response took: the first check without one is repeated once its response is late, the others before it is due
abbrev pub response_wait : List Check → ℕ
response_wait checks =
    if unanswered_count checks == 1
    then later (unwrap_or (last_round_trip checks) 0) LATENESS
    else unwrap_or (last_round_trip checks) 0 - LATENESS

-- then the next check is sent
abbrev pub hushed_delay : ℕ → StunTiming → PairRecord → ℕ
hushed_delay now t p = max (hushed_interval now t p) (response_wait p.checks)

-- the delay after the last check: checks are repeated early, or after the RTO
abbrev pub repeated_delay : ℕ → StunTiming → PairRecord → ℕ
repeated_delay now t p = if is_repeated_early now t p then early_delay (silent_count p) else usual_delay now t p.checks

-- with the profile `Modern`
abbrev pub modern_delay : ℕ → StunTiming → PairRecord → ℕ
modern_delay now t p = if is_hushed p then min (hushed_delay now t p) (repeated_delay now t p) else repeated_delay now t p

-- the delay after the last check
abbrev pub delay_of : ℕ → StunTiming → PairRecord → ℕ
delay_of now t p = if is_modern t then modern_delay now t p else usual_delay now t p.checks

-- that long after the last check, or now if there was none
abbrev pub next_due_time : ℕ → StunTiming → PairRecord → ℕ
next_due_time now t p = option_map_or (λ c. later c.sent (delay_of now t p)) (last_check p.checks) now

-- a nominated pair without a check since its nomination is due before all others
abbrev pub computed_due_time : NominationState → ℕ → StunTiming → PairRecord → ℕ
computed_due_time Unnominated now t p = next_due_time now t p
computed_due_time Nominated now t p = long_before now
computed_due_time Attempt now t p = next_due_time now t p
computed_due_time Success now t p = next_due_time now t p

-- the due time: the fixed one, if any, otherwise the one that is computed now
abbrev pub due_time_of : ℕ → StunTiming → PairRecord → ℕ
due_time_of now t p = unwrap_or p.due (min (computed_due_time p.nomination now t p) (later now t.max_rto.0))

abbrev pub scheduled : ℕ → StunTiming → PairRecord → PairRecord
scheduled now t p = record p { due = Some (due_time_of now t p) }

-- Triggered checks (RFC 8445, section 7.3.1.4): the first request on the pair, which is not valid yet.
abbrev pub is_triggered : PairRecord → Bool
is_triggered p = not (is_valid p) && p.requests == 0

-- its due time, if it is fixed, is at most `at`
abbrev pub moved_up : ℕ → PairRecord → PairRecord
moved_up at p = record p { due = option_map (min at) p.due }

abbrev pub triggered : Bool → ℕ → PairRecord → PairRecord
triggered modern at p = if modern && is_triggered p then moved_up at p else p

-- A nominated pair comes before others while fewer checks than that have no response.
abbrev pub URGENT_CHECKS : ℕ
URGENT_CHECKS = 8

abbrev pub has_few_unanswered : PairRecord → Bool
has_few_unanswered p = nat_lt (unanswered_count p.checks) URGENT_CHECKS

-- The pair may be checked before pairs that are due earlier: a request arrived, and the pair is not valid yet, or it is nominated, no
-- response arrived to a check that nominates it, and few checks have none.
abbrev pub is_urgent : PairRecord → Bool
is_urgent p = (nat_lt 0 p.requests && not (is_valid p)) || nominates_first p.nomination (has_few_unanswered p)

-- It is urgent, and its due time, computed now if it is not fixed, is at most `by`.
abbrev pub is_urgent_by : ℕ → ℕ → StunTiming → PairRecord → Bool
is_urgent_by now by t p = is_urgent p && nat_le (due_time_of now t p) by

-- ---- when it fails

-- fewer than `max_retransmits` checks have no response
abbrev pub has_checks_left : StunTiming → PairRecord → Bool
has_checks_left t p = nat_lt (unanswered_count p.checks) t.max_retransmits

-- 15 s after the peer's last check, also if that is after `MAX`
abbrev pub request_end : PairRecord → ℕ
request_end p = option_map_or (λ at. at + 15 * SECOND) p.last_request 0

-- until then the response to the last check may come
abbrev pub response_end : StunTiming → List Check → ℕ
response_end t checks = option_map_or (λ c. later c.sent (last_resend_delay t)) (last_check checks) 0

-- when the checks without a response began: with the first check if there was no response, unless that check followed a request; otherwise
-- with the first one without
abbrev pub series_start : PairRecord → Option ℕ
series_start p =
    if p.answers == 0
    then (if is_asked_first p then None else p.first_sent)
    else option_map (λ c. c.sent) (first_unanswered p.checks)

-- With the profile `Modern` checks are repeated early. So their time counts, and not only their number: that of a whole series.
abbrev pub series_end : StunTiming → PairRecord → ℕ
series_end t p = if is_modern t then option_map_or (λ at. later at (timeout_of t)) (series_start p) 0 else 0

-- until then a pair is kept if no checks are left: the last of the three
abbrev pub possible_until : StunTiming → PairRecord → ℕ
possible_until t p = max (request_end p) (max (response_end t p.checks) (series_end t p))

abbrev pub is_possible : ℕ → StunTiming → PairRecord → Bool
is_possible now t p = has_checks_left t p || nat_lt now (possible_until t p)

-- ---- consent (RFC 7675, section 5.1)

-- the last check that got a response was sent recently enough; without a response, consent does not end
abbrev pub is_answered_lately : Consent → ℕ → PairRecord → Bool
is_answered_lately c now p = option_map_or (λ at. nat_lt now (later at c.timeout.0)) p.consented true

-- a check from the peer arrived less than 15 s ago
abbrev pub is_heard : ℕ → PairRecord → Bool
is_heard now p = nat_lt now (request_end p)

-- Unless consent is strict, the peer's checks keep it too.
abbrev pub has_consent : Option Consent → ℕ → PairRecord → Bool
has_consent None now p = true
has_consent (Some c) now p = is_answered_lately c now p || (not c.strict && is_heard now p)

-- Whether it was answered lately, where consent has a timeout: whatever checks the peer sends.
abbrev pub stays_answered : Option Consent → ℕ → PairRecord → Bool
stays_answered None now p = true
stays_answered (Some c) now p = is_answered_lately c now p

-- how long the peer's last check keeps consent
abbrev pub heard_until : Consent → PairRecord → ℕ
heard_until c p = if c.strict then 0 else min (request_end p) MAX

-- when consent ends if nothing arrives
abbrev pub consent_end : Consent → PairRecord → ℕ
consent_end c p = option_map_or (λ at. max (later at c.timeout.0) (heard_until c p)) p.consented MAX

-- when the pair needs a `handle_timeout` call: it is due, or consent ends
abbrev pub call_time_with : Option Consent → ℕ → StunTiming → PairRecord → ℕ
call_time_with None now t p = due_time_of now t p
call_time_with (Some c) now t p = min (due_time_of now t p) (consent_end c p)

abbrev pub call_time_of : ℕ → StunTiming → PairRecord → ℕ
call_time_of now t p = call_time_with (consent_of t) now t p

-- The path may still work, and consent has not ended. For an ICE-lite agent, the peer's checks have not stopped.
abbrev pub stays : Bool → ℕ → StunTiming → PairRecord → Bool
stays lite now t p = if lite then is_lite_alive now t p else has_consent (consent_of t) now p && is_possible now t p

abbrev pub is_pair_expired : Bool → ℕ → StunTiming → PairRecord → Bool
is_pair_expired lite now t p = not (stays lite now t p)

-- ---- which pair is checked next (RFC 8445, section 6.1.4.2)

abbrev pub is_due : ℕ → StunTiming → PairRecord → Bool
is_due now t p = nat_le (due_time_of now t p) now

-- due earlier, or at the same time with no smaller priority
abbrev pub GoesBefore : ℕ → StunTiming → PairRecord → PairRecord → Type 0
GoesBefore now t p q =
    (due_time_of now t p < due_time_of now t q) ⊎ ((due_time_of now t p ≡ due_time_of now t q) × (q.priority ≤ p.priority))

-- the pair that is due before all others, or none if there is none; ties may be broken in any way
abbrev pub IsEarliest : ℕ → StunTiming → List PairRecord → Option PairRecord → Type 0
IsEarliest now t pairs None = pairs ≡ []
IsEarliest now t pairs (Some p) = Has pairs p × ((q : PairRecord) → Has pairs q → GoesBefore now t p q)

-- that pair, if it is due
abbrev pub IsNextDue : ℕ → StunTiming → List PairRecord → Option PairRecord → Type 0
IsNextDue now t pairs None = NonePass (is_due now t) pairs
IsNextDue now t pairs (Some p) = IsEarliest now t pairs (Some p) × (is_due now t p ≡ true)

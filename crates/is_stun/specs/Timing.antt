-- The retransmission timing of checks (RFC 8489, section 6.2.1; RFC 8445, section 14.3). Durations are in nanoseconds.
use Rattle.std.specs.Prelude.{ℕ, ◌+◌, ◌-◌, ◌*◌, ◌/◌, ◌^◌, ◌==◌, min, Bool, true, false, Option, Some, None, sum_by, if◌then◌else◌}
use Rattle.std.specs.List.{range_with_len}
use Rattle.std.specs.Option.{option_map_or}
use Rattle.is_proto.specs.Times.{MAX, MILLISECOND, later}
use Rattle.is_stun.specs.declared.timing.StunTiming.{StunTiming}
use Rattle.is_stun.specs.declared.timing.Consent.{Consent}
use Rattle.is_stun.specs.declared.timing.Profile.{Profile}
use Rattle.is_stun.specs.declared.timing.Profile.TheVariants.{Original, Modern}

-- the delay after the last of n checks, in whole milliseconds: it doubles with each check, up to a bound
unfoldable pub delay_millis : StunTiming → ℕ → ℕ
delay_millis t n =
    min (t.initial_rto.0 / MILLISECOND * 2 ^ min (n - 1) t.max_retransmits) (t.max_rto.0 / MILLISECOND)

-- the delay after the last of n checks in nanoseconds, and zero before the first check
abbrev pub resend_delay : StunTiming → ℕ → ℕ
resend_delay t n = if n == 0 then 0 else delay_millis t n * MILLISECOND

abbrev pub last_resend_delay : StunTiming → ℕ
last_resend_delay t = resend_delay t t.max_retransmits

-- how long a full series of checks without a response takes: the delays after the second to the last, and the last one
-- once more
unfoldable pub timeout_of : StunTiming → ℕ
timeout_of t = min (sum_by (resend_delay t) (range_with_len 2 (t.max_retransmits - 1)) + last_resend_delay t) MAX

-- ---- what the profile `Modern` brings

abbrev pub is_modern_profile : Profile → Bool
is_modern_profile Original = false
is_modern_profile Modern = true

abbrev pub is_modern : StunTiming → Bool
is_modern t = is_modern_profile t.profile

-- how many early retransmissions there are, the delay before each, and the longest delay after them
abbrev pub EARLY_RETRANSMITS : ℕ
EARLY_RETRANSMITS = 2

abbrev pub EARLY_INTERVAL : ℕ
EARLY_INTERVAL = 100 * MILLISECOND

abbrev pub EARLY_CAP : ℕ
EARLY_CAP = 350 * MILLISECOND

-- the delay after the last of n checks that are repeated early: it doubles with each check after the early retransmissions
abbrev pub early_delay : ℕ → ℕ
early_delay n = min (EARLY_INTERVAL * 2 ^ (n - EARLY_RETRANSMITS)) EARLY_CAP

-- ---- consent (RFC 7675)

-- how long the response to a check keeps a pair: the time that is set, or the longest RTO and a whole series of checks after it
abbrev pub consent_timeout : StunTiming → ℕ
consent_timeout t = option_map_or (λ d. d.0) t.consent.timeout (later t.max_rto.0 (timeout_of t))

-- With `Original` consent does not end by the clock.
abbrev pub consent_of : StunTiming → Option Consent
consent_of t = if is_modern t then Some (record { timeout = record { 0 = consent_timeout t }; strict = t.consent.strict }) else None

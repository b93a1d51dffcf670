-- The times of retransmissions for settings that no agent has.
use Rattle.std.specs.Prelude.{◌≡◌, ℕ, ◌==◌, MatchBool, ℤ}
use Rattle.is_stun.specs.declared.timing.StunTiming.{StunTiming}
use Rattle.is_stun.specs.Timing.{resend_delay, timeout_of}
use Rattle.is_rules.specs.Agent.{default_timing}
use Rattle.is_c_calls.specs.Codes.{OK, BAD_LIMIT}

-- a timing with these three settings
abbrev pub timing_of : ℕ → ℕ → ℕ → StunTiming
timing_of initial_rto max_rto limit =
    record default_timing { initial_rto = record { 0 = initial_rto }; max_retransmits = limit; max_rto = record { 0 = max_rto } }

-- `is_ice_retransmit_timeout`
abbrev pub PutsTimeout : StunTiming → ℕ → ℤ → ℕ → Type 0
PutsTimeout timing before code after =
    MatchBool (timing.max_retransmits == 0)
    ((code ≡ BAD_LIMIT) × (after ≡ before))
    ((code ≡ OK) × (after ≡ timeout_of timing))

-- `is_ice_retransmit_delay`
abbrev pub PutsDelay : StunTiming → ℕ → ℤ → ℕ → Type 0
PutsDelay timing sent code after = (code ≡ OK) × (after ≡ resend_delay timing sent)

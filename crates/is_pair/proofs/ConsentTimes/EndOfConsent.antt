-- A pair has consent until the end of consent, and is kept no longer.
use Rattle.is_stun.specs.declared.timing.Consent.{Consent}
use Rattle.is_stun.specs.Timing.{consent_of}
use Rattle.is_pair.proofs.Common.{◌-◌, ◌≤◌, arith, call_time_of, call_time_with, consent_end, due_time_of, None, Option, PairRecord, Some}
use Rattle.is_pair.proofs.Common.{StunTiming, ℕ}

-- ---- when it needs a call

pub calls-when-due : (now : ℕ) (t : StunTiming) (p : PairRecord) → call_time_of now t p ≤ due_time_of now t p
calls-when-due now t p = of (consent_of t) where
  of : (o : Option Consent) → call_time_with o now t p ≤ due_time_of now t p
  of None = omega arith
  of (Some c) = omega arith

pub calls-at-end : (c : Consent) (now : ℕ) (t : StunTiming) (p : PairRecord) → call_time_with (Some c) now t p ≤ consent_end c p
calls-at-end c now t p = omega arith

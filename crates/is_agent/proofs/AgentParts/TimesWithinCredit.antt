-- The times of `next_call` and `next_call_soon` are within the credit for checks: they come forward only with credit.
use Rattle.std.proofs.Common.{◌≡◌, ℕ, ◌*◌, ◌≤◌, Bool, true, false, min, max, Option, Some, None, IfSome, is_some, option_map, inl, inr, refl, subst, arith}
use Rattle.std.proofs.Common.{if◌then◌else◌}
use Rattle.std.proofs.lemmas.Bool.Decides.{nat_tests}
use Rattle.std.specs.Option.{option_and_then}
use Rattle.is_proto.specs.Times.{SECOND, later}
use Rattle.is_stun.specs.Timing.{is_modern}
use Rattle.is_rules.specs.Agent.{AgentRecord}
use Rattle.is_rules.specs.Charging.{CHARGE, URGENT_CREDIT, has_credit}
use Rattle.is_rules.specs.Polls.{LEAST_TA, earliest_call, is_idle, soon}
use Rattle.is_rules.specs.TimeoutTimes.{IsWithinCredit, KeepsCredit}
use Rattle.is_rules.proofs.PollsAndResponses.TimesWithinCredit.{Within, soonest-within, within-credit}
use Rattle.is_agent.specs.Polls.{KeepsPacing, call_at, next_call, next_call_soon, presses, sooner}

module _ {H P : Type 0} where
  -- with credit a time may come forward
  forward : (last at : ℕ) (a : AgentRecord H P) → a.charged_until ≤ later last URGENT_CREDIT → Within last a.charged_until at
      → Within last a.charged_until (min at (later last LEAST_TA))
  forward last at a ahead (inl gone) = inr (omega (arith, gone), omega (arith, ahead, gone))
  forward last at a ahead (inr (paced, charged)) = inr (omega (arith, paced), omega (arith, ahead, paced))

  pub sooner-within : (last at : ℕ) (a : AgentRecord H P) → is_modern a.timing ≡ true → Within last a.charged_until at
      → Within last a.charged_until (sooner (has_credit last a) last at)
  sooner-within last at a modern within = by (has_credit last a) refl where
    by : (credit : Bool) → has_credit last a ≡ credit → Within last a.charged_until (sooner credit last at)
    by true credit = forward last at a (grind (arith, nat_tests, modern, credit)) within
    by false credit = within

  call-paced : (last : ℕ) (a : AgentRecord H P) → min (soon a last) (later last (3 * SECOND)) ≤ call_at a last
  call-paced last a = by (presses a) (is_idle a) where
    by : (presses idle : Bool)
        → min (soon a last) (later last (3 * SECOND)) ≤ (if presses then soon a last else if idle then later last (3 * SECOND) else max (earliest_call a last) (soon a last))
    by true idle = omega arith
    by false true = omega arith
    by false false = omega arith

  pub call-within : (last : ℕ) (a : AgentRecord H P) → CHARGE ≤ a.timing_advance → Within last a.charged_until (call_at a last)
  call-within last a slow = soonest-within last (call_at a last) a slow (call-paced last a)

  pub next-keeps : (a : AgentRecord H P) → KeepsCredit a (next_call a)
  next-keeps a slow = by (is_some a.remote_creds) a.last_time refl where
    by : (known : Bool) (o : Option ℕ) → a.last_time ≡ o → IfSome (if known then option_map (call_at a) o else None) (λ at. IsWithinCredit a at)
    by true (Some last) is = within-credit last (call_at a last) a is (call-within last a slow)
    by true None is = tt
    by false o is = tt

  pub next-soon-keeps : (a : AgentRecord H P) → is_modern a.timing ≡ true → KeepsCredit a (next_call_soon a)
  next-soon-keeps a modern slow = by a.last_time (next_call a) refl (next-keeps a slow) where
    by : (o d : Option ℕ) → a.last_time ≡ o → IfSome d (λ at. IsWithinCredit a at)
        → IfSome (option_and_then (λ last. option_map (sooner (has_credit last a) last) d) o) (λ at. IsWithinCredit a at)
    by (Some last) (Some at) is within = within-credit last (sooner (has_credit last a) last at) a is (sooner-within last at a modern (within last is))
    by (Some last) None is within = tt
    by None d is within = tt

  -- with credit it is the least interval after the last call, and no sooner
  pub next-soon-paced : (a : AgentRecord H P) → KeepsPacing a (next_call_soon a)
  next-soon-paced a = by (is_some a.remote_creds) a.last_time refl where
    sooner-paced : (last : ℕ) (credit : Bool) → min (soon a last) (later last LEAST_TA) ≤ sooner credit last (call_at a last)
    sooner-paced last true = omega (arith, call-paced last a)
    sooner-paced last false = omega (arith, call-paced last a)

    by : (known : Bool) (o : Option ℕ) → a.last_time ≡ o → KeepsPacing a (option_and_then (λ last. option_map (sooner (has_credit last a) last)
        (if known then option_map (call_at a) o else None)) o)
    by true (Some last) is = λ l l_is. let same : last ≡ l = cc in
        subst (λ (k : ℕ). min (soon a k) (later k LEAST_TA) ≤ sooner (has_credit last a) last (call_at a last)) same (sooner-paced last (has_credit last a))
    by false (Some last) is = tt
    by known None is = tt

-- The time that `poll_timeout` returns is within the credit for checks: with credit the charges are not far ahead of the last call, and without it
-- the pacing interval is not short. What mutants/specifications changes is read by tactics.
use Rattle.std.proofs.Common.{◌≡◌, ℕ, ◌*◌, ◌≤◌, ◌⊎◌, Bool, true, false, min, Some, None, cond, inl, inr, refl, sym, ◌∙◌, subst, arith}
use Rattle.std.proofs.lemmas.Bool.Decides.{nat_tests}
use Rattle.is_proto.specs.Times.{SECOND, later}
use Rattle.is_rules.specs.Agent.{AgentRecord}
use Rattle.is_rules.specs.Charging.{CHARGE, EARLY_TA, URGENT_CREDIT, has_credit}
use Rattle.is_rules.specs.Polls.{LEAST_TA, is_early, is_idle, pacing_of, soon}
use Rattle.is_rules.specs.TimeoutTimes.{IsWithinCredit, TimeoutKeepsCredit, soonest}
use Rattle.is_rules.proofs.PollsAndResponses.NextTimeout.{paced, timeouts-from}

-- `IsWithinCredit` of a last call and charges
abbrev pub Within : (last charged now : ℕ) → Type 0
Within last charged now = (later last CHARGE ≤ now) ⊎ ((later last LEAST_TA ≤ now) × (charged ≤ later now URGENT_CREDIT))

-- and so is any later time
pub within-later : (last charged at now : ℕ) → at ≤ now → Within last charged at → Within last charged now
within-later last charged at now le (inl gone) = inl (omega (arith, le, gone))
within-later last charged at now le (inr (paced_, ahead)) = inr (omega (arith, le, paced_), omega (arith, le, ahead))

some-is : (n m : ℕ) → Some n ≡ Some m → n ≡ m
some-is n m h = cc

module _ {H P : Type 0} where
  pub within-credit : (last at : ℕ) (a : AgentRecord H P) → a.last_time ≡ Some last → Within last a.charged_until at → IsWithinCredit a at
  within-credit last at a is within = λ l l_is. subst (λ (k : ℕ). Within k a.charged_until at) (some-is last l (sym is ∙ l_is)) within

  pub pacing-charged : (last : ℕ) (a : AgentRecord H P) → CHARGE ≤ a.timing_advance
      → (CHARGE ≤ pacing_of last a) ⊎ ((EARLY_TA ≤ pacing_of last a) × (a.charged_until ≤ later last URGENT_CREDIT))
  pacing-charged last a slow = by (is_early last a) (has_credit last a) refl refl where
    by : (early credit : Bool) → is_early last a ≡ early → has_credit last a ≡ credit
        → (CHARGE ≤ pacing_of last a) ⊎ ((EARLY_TA ≤ pacing_of last a) × (a.charged_until ≤ later last URGENT_CREDIT))
    by true true early credit = inr (grind (arith, slow, early, credit), grind (arith, nat_tests, early, credit))
    by true false early credit = inl (grind (arith, slow, early, credit))
    by false some early credit = inl (grind (arith, slow, early))

  -- one pacing interval after the last call, or 3 s
  pub soonest-within : (last at : ℕ) (a : AgentRecord H P) → CHARGE ≤ a.timing_advance → min (soon a last) (later last (3 * SECOND)) ≤ at → Within last a.charged_until at
  soonest-within last at a slow le = elim (pacing-charged last a slow) [
    | inl long ↦ inl (omega (arith, long, le))
    | inr charged ↦ let short = charged.0 in let ahead = charged.1 in inr (omega (arith, short, le), omega (arith, short, ahead, le))
  ]

  least : (last at : ℕ) (a : AgentRecord H P) → soonest a last ≤ at → min (soon a last) (later last (3 * SECOND)) ≤ at
  least last at a = by (is_idle a) where
    by : (b : Bool) → cond b (min (soon a last) (later last (3 * SECOND))) (soon a last) ≤ at → min (soon a last) (later last (3 * SECOND)) ≤ at
    by true le = le
    by false le = omega (arith, le)

  pub timeouts-within : TimeoutKeepsCredit H P
  timeouts-within old new None h slow = tt
  timeouts-within old new (Some at) h slow =
      λ last is. search (soonest-within last at old (search slow) (least last at old (paced old new last at (timeouts-from old new last at is h))))

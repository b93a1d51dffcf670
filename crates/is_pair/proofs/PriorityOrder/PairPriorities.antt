-- What the priority of a pair implies for its candidates.
use Rattle.is_pair.specs.Priorities.{combined}
use Rattle.is_pair.proofs.Common.{◌*◌, ◌+◌, ◌<◌, ◌^◌, ◌≡◌, ◌≤◌, ◌⊎◌, arith, cases_lt, inl, inr, nat_tests, ℕ}

-- the formula, with its last bit written out
pub combined_cases : (g d : ℕ) → ((d < g) × (combined g d ≡ 2 ^ 32 * d + 2 * g + 1)) ⊎ ((g ≤ d) × (combined g d ≡ 2 ^ 32 * g + 2 * d))
combined_cases g d =
    elim (cases_lt d g) [
      | inl greater ↦ inl (greater, greater_first greater)
      | inr lesser ↦ inr (lesser, lesser_first lesser)
    ]
  where
    greater_first : d < g → combined g d ≡ 2 ^ 32 * d + 2 * g + 1
    greater_first h = grind (arith, nat_tests)

    lesser_first : g ≤ d → combined g d ≡ 2 ^ 32 * g + 2 * d
    lesser_first h = grind (arith, nat_tests)

pub combined_returns : (g d g2 d2 : ℕ) → g < 2 ^ 31 → d < 2 ^ 31 → g2 < 2 ^ 31 → d2 < 2 ^ 31 → combined g d ≡ combined g2 d2 → (g ≡ g2) × (d ≡ d2)
combined_returns g d g2 d2 gs ds gs2 ds2 same =
    elim (combined_cases g d) [
      | inl one ↦ (elim (combined_cases g2 d2) [
        | inl two ↦ (omega arith, omega arith)
        | inr two ↦ absurd (omega arith)
      ])
      | inr one ↦ (elim (combined_cases g2 d2) [
        | inl two ↦ absurd (omega arith)
        | inr two ↦ (omega arith, omega arith)
      ])
    ]

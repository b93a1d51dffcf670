-- The best index so far and one more index.
use Rattle.is_rules.proofs.Common.{◌+◌, ◌<◌, ◌≡◌, ◌≤◌, arith, below_more, Bool, candidate_at, candidate_priority, CandidateRecord, false}
use Rattle.is_rules.proofs.Common.{IsGreatestBelow, List, None, Option, Some, true, ℕ}

true-is-false : {A : Type 0} (b : Bool) → b ≡ true → b ≡ false → A
true-is-false b passes fails = absurd (cc)

-- the next index does not pass
pub passed_over : (n : ℕ) (test : CandidateRecord → Bool) (cs : List CandidateRecord) (best : Option ℕ)
    → IsGreatestBelow n test cs best → test (candidate_at cs n) ≡ false → IsGreatestBelow (n + 1) test cs best
passed_over n test cs None h fails = below_more (λ k. test (candidate_at cs k) ≡ false) n h fails
passed_over n test cs (Some top) h fails = (
  omega (arith, h.0),
  h.1,
  below_more (λ k. test (candidate_at cs k) ≡ true → candidate_priority (candidate_at cs k) ≤ candidate_priority (candidate_at cs top)) n h.2
      (λ passes. true-is-false (test (candidate_at cs n)) passes fails),
)

-- the next index passes, and is no worse than the best so far
pub overtaken : (n top : ℕ) (test : CandidateRecord → Bool) (cs : List CandidateRecord)
    → IsGreatestBelow n test cs (Some top) → test (candidate_at cs n) ≡ true
    → candidate_priority (candidate_at cs top) < candidate_priority (candidate_at cs n) → IsGreatestBelow (n + 1) test cs (Some n)
overtaken n top test cs h passes above =
    let priority : ℕ → ℕ = λ k. candidate_priority (candidate_at cs k) in (
      omega arith,
      passes,
      below_more (λ k. test (candidate_at cs k) ≡ true → priority k ≤ priority n) n
          (λ k below its. let low : priority k ≤ priority top = h.2 k below its in let over : priority top < priority n = above in omega (arith, low, over))
          (λ its. let same : priority n ≤ priority n = omega arith in same),
    )

-- the next index passes, and is no better than the best so far
pub kept : (n top : ℕ) (test : CandidateRecord → Bool) (cs : List CandidateRecord)
    → IsGreatestBelow n test cs (Some top)
    → candidate_priority (candidate_at cs n) ≤ candidate_priority (candidate_at cs top) → IsGreatestBelow (n + 1) test cs (Some top)
kept n top test cs h low = (
  omega (arith, h.0),
  h.1,
  below_more (λ k. test (candidate_at cs k) ≡ true → candidate_priority (candidate_at cs k) ≤ candidate_priority (candidate_at cs top)) n h.2
      (λ its. low),
)

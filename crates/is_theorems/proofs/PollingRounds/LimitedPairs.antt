-- With limits on pairs and on what packets bring, a bound on the rounds before a pair that is due is checked.
use Rattle.is_theorems.specs.BoundedRounds.{LimitsReach}
use Rattle.is_theorems.proofs.Common.{◌*◌, ◌++◌, ◌+◌, ◌∙◌, ◌≡◌, ◌≤◌, append_assoc, arith, CandidateRecord, entries_of, gathered_count}
use Rattle.is_theorems.proofs.Common.{is_modern, length, List, nominations_ahead, pair_bound, PairsAreReached, selection_count}
use Rattle.is_theorems.proofs.Common.{signal_count, sym, ℕ}
use Rattle.is_theorems.proofs.DuePairs.ChecksAhead.{times, times-kept}
use Rattle.is_theorems.proofs.StorageBounds.NumberOfPairs.{pairs_within}
use Rattle.is_theorems.proofs.ExecutionLogs.PointsOfSegments.{deeper}

module _ {H P : Type 0} (mac : H → List ℕ → List ℕ → List ℕ) (answers : P → CandidateRecord → ℕ → ℕ → Type 0) where
  pub limits_reach : PairsAreReached {H = H} mac answers → LimitsReach {H = H} mac answers
  limits_reach reached first s log is_fresh most limit limited few before start last rounds p by part enough =
      let split : log ≡ (part.rest ++ entries_of rounds) ++ before = part.split ∙ sym (append_assoc part.rest (entries_of rounds) before) in
      let pairs : length start.pairs ≤ pair_bound limit most (gathered_count before) (signal_count before) =
      pairs_within mac answers most limit first s before start part.at is_fresh
      (λ b m a y k. limited b m a y (deeper mac answers first s log before (part.rest ++ entries_of rounds) b m y a split k))
      (λ b m a y k. few b m a y (deeper mac answers first s log before (part.rest ++ entries_of rounds) b m y a split k)) part.led in
      reached first s log is_fresh before start last rounds p by part (record {
        at = enough.at;
        began = enough.began;
        line = enough.line;
        passing = enough.passing;
        lasting = enough.lasting;
        enough = (let all = enough.enough in
            let ahead : ℕ = nominations_ahead start (selection_count (entries_of rounds)) in
            let needed : times (is_modern start.timing) (2 * pair_bound limit most (gathered_count before) (signal_count before) + last.next_number + ahead)
            ≤ length rounds + 1 + times (is_modern start.timing) start.next_number = omega (arith, all) in
            let fewer = times-kept (is_modern start.timing) (2 * pair_bound limit most (gathered_count before) (signal_count before) + last.next_number + ahead)
            (2 * length start.pairs + last.next_number + ahead) (length rounds + 1 + times (is_modern start.timing) start.next_number) (omega (arith, pairs)) needed in
            omega (arith, fewer));
      })

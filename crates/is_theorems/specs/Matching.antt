-- More on two agents that send on the same path by their priorities (`SelectedPairsMatch`): the theorem of two executions with NATs,
-- and that its preconditions can hold at once.
use Rattle.std.specs.Prelude.{◌≡◌, ℕ, List, Option, Some}
use Rattle.is_candidate.specs.Candidates.{CandidateRecord}
use Rattle.is_pair.specs.Pairs.{PairRecord}
use Rattle.is_rules.specs.declared.emitted.Path.{Path}
use Rattle.is_rules.specs.Agent.{AgentRecord}
use Rattle.is_theorems.specs.Logs.{Logged, last_selected}
use Rattle.is_theorems.specs.SamePath.{reverse_of, AreCounterparts, HasEligible, HasLastSelected, IsAtNomination, NoneFollows, RankAlike}
use Rattle.is_rules.specs.Sending.{path_of}

module _ {H P : Type 0} (mac : H → List ℕ → List ℕ → List ℕ) (answers : P → CandidateRecord → ℕ → ℕ → Type 0) where
  -- As `SelectedPathsAreReversed`, through any NATs: d's last path is what d sees of g's.
  abbrev pub SelectedPathsAreSeen : Type 0
  SelectedPathsAreSeen =
      (seen : Path → Option Path) (g d : AgentRecord H P) (near far : List (Logged P)) (x y : Path) (q p2 : PairRecord) → NoneFollows g d → RankAlike seen g d
      → IsAtNomination mac answers near g → IsAtNomination mac answers far d
      → last_selected near ≡ Some x → last_selected far ≡ Some y
      → HasEligible d p2 → seen x ≡ Some (path_of d p2) → HasEligible g q → seen (path_of g q) ≡ Some y
      → seen x ≡ Some y

module _ (H P : Type 0) where
  -- Two agents and their pairs meet all preconditions of `SelectedPairsMatch`.
  abbrev pub PairsMayMatch : Type 0
  PairsMayMatch =
      H → (g d : AgentRecord H P) × (p q p2 q2 : PairRecord) × NoneFollows g d × RankAlike reverse_of g d
      × HasLastSelected g p × HasLastSelected d q2 × AreCounterparts reverse_of g d p p2 × AreCounterparts reverse_of g d q q2

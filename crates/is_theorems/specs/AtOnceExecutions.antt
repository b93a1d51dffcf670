-- Selection at once over an execution: a controlled agent selects a path in the call in which the second of two things arrives, the
-- peer's nomination of the path and a success response on it.
use Rattle.std.specs.Prelude.{◌≡◌, ℕ, ◌⊎◌, true, false, List, [], ◌∷◌, ◌++◌, None}
use Rattle.rand_core.specs.Stream.{Stream}
use Rattle.is_stun.specs.Timing.{is_modern}
use Rattle.is_candidate.specs.Candidates.{CandidateRecord}
use Rattle.is_rules.specs.Agent.{AgentRecord}
use Rattle.is_rules.specs.declared.emitted.Path.{Path}
use Rattle.is_rules.specs.Points.{HasSelected}
use Rattle.is_rules.specs.Sound.{GivesBased}
use Rattle.is_rules.specs.Steps.{Call, Entry, Step}
use Rattle.is_theorems.specs.Asked.{IsOnlyPair}
use Rattle.is_theorems.specs.AskedExecutions.{AcceptsNominationAlong, AcceptsSuccessOn, Ends, EndsAlong, IsAnsweredAlong, selected_along}
use Rattle.is_theorems.specs.Asking.{AcceptsNomination}
use Rattle.is_theorems.specs.Exchange.{Execution}
use Rattle.is_theorems.specs.Runs.{IsFresh}

module _ {H P : Type 0} (mac : H → List ℕ → List ℕ → List ℕ) (answers : P → CandidateRecord → ℕ → ℕ → Type 0) where
  -- After these calls a call makes the nomination of the path complete. With selection at once it accepts the nomination, and a success
  -- response was received on the path before. Or it accepts a success response on the path, and the nomination was accepted before.
  pub record CompletesNomination (start near last : AgentRecord H P) (xs : List (Call P × Entry)) (call : Call P) (e : Entry)
      (path : Path) : Type 0 where
    pub execution : Execution mac answers xs start near
    pub given : GivesBased call
    pub drawn : Stream
    pub left : Stream
    pub step : Step mac answers near drawn call e last left
    pub arrives :
        ((is_modern near.timing ≡ true) × IsAnsweredAlong xs path × AcceptsNomination near call e path)
        ⊎ (AcceptsNominationAlong mac answers xs start near execution path × AcceptsSuccessOn call e path)
    pub controlled : last.controlling ≡ false
    pub only_pair : IsOnlyPair last path

  -- Right after a call that makes the nomination of a path complete, the path that was selected last is that of an eligible pair with the
  -- greatest stored priority. The exception is that a pair that uses the path's addresses may have been removed.
  abbrev pub CompletedNominationsAreSelected : Type 0
  CompletedNominationsAreSelected =
      (first start near last : AgentRecord H P) (before xs : List (Call P × Entry)) (call : Call P) (e : Entry) (path : Path)
      → IsFresh first → Execution mac answers before first start → (c : CompletesNomination start near last xs call e path)
      → HasSelected (selected_along None (before ++ (xs ++ (call, e) ∷ []))) last
      ⊎ (EndsAlong mac answers xs start near c.execution path ⊎ Ends answers near call e path)

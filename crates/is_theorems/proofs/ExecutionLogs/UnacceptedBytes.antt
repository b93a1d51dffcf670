-- Bytes that are not accepted change nothing.
use Rattle.is_theorems.proofs.Common.{CandidateRecord, List, UnacceptedChangeNothing, ℕ}
use Rattle.is_theorems.proofs.CallEffects.ReceivedAndOwed.{leaves_unaccepted}

module _ {H P : Type 0} (mac : H → List ℕ → List ℕ → List ℕ) (answers : P → CandidateRecord → ℕ → ℕ → Type 0) where
  pub unaccepted_quiet : UnacceptedChangeNothing mac answers
  unaccepted_quiet old new s t call e h down = leaves_unaccepted mac answers old new s t e call h down

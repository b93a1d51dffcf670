-- Candidates by their indices.
use Rattle.is_rules.proofs.PairLists.CombinationsInLists.{Has-at}
use Rattle.is_theorems.proofs.Common.{[], ◌++◌, ◌<◌, ◌∷◌, ◌≡◌, Bool, candidate_at, CandidateRecord, get_or-append_seam, get_or_append_left}
use Rattle.is_theorems.proofs.Common.{Has, length, List, nowhere, position, position-Some, Some, true, ℕ}

pub is-listed : (cs : List CandidateRecord) (k : ℕ) → k < length cs → Has cs (candidate_at cs k)
is-listed cs k lt = Has-at cs k nowhere lt

-- the first one that passes
pub found-at : (test : CandidateRecord → Bool) (cs : List CandidateRecord) (k : ℕ) → position test cs ≡ Some k → (k < length cs) × (test (candidate_at cs k) ≡ true)
found-at test cs k found = let at = position-Some test cs k nowhere found in (at.0, at.1)

-- candidates are appended
pub at-append : (cs others : List CandidateRecord) (k : ℕ) → k < length cs → candidate_at (cs ++ others) k ≡ candidate_at cs k
at-append cs others k lt = get_or_append_left cs others nowhere k lt

pub at-end : (cs : List CandidateRecord) (c : CandidateRecord) → candidate_at (cs ++ c ∷ []) (length cs) ≡ c
at-end cs c = get_or-append_seam cs c [] nowhere

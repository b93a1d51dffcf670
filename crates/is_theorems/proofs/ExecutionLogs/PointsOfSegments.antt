-- A point of a part of a log is a point of the log.
use Rattle.is_theorems.proofs.Common.{◌++◌, ◌∙◌, ◌∷◌, ◌≡◌, AgentRecord, ap, append_assoc, CandidateRecord, List, Logged, Point, Stream, sym}
use Rattle.is_theorems.proofs.Common.{ℕ}

module _ {H P : Type 0} (mac : H → List ℕ → List ℕ → List ℕ) (answers : P → CandidateRecord → ℕ → ℕ → Type 0) where
  -- a point of the log before the last entry
  pub later_point : (first : AgentRecord H P) (s : Stream) (y : Logged P) (log before : List (Logged P)) (mid : AgentRecord H P) (x : Logged P) (after : AgentRecord H P)
      → Point mac answers first s log before mid x after → Point mac answers first s (y ∷ log) before mid x after
  later_point first s y log before mid x after p = record {
    rest = y ∷ p.rest;
    split = ap (λ (xs : List (Logged P)). y ∷ xs) p.split;
    at = p.at;
    led = p.led;
    number = p.number;
    given = p.given;
    following = p.following;
    step = p.step;
  }

  -- a point of a part of the log
  pub deeper : (first : AgentRecord H P) (s : Stream) (log part rest before : List (Logged P)) (mid : AgentRecord H P) (x : Logged P) (after : AgentRecord H P) → log ≡ rest ++ part
      → Point mac answers first s part before mid x after → Point mac answers first s log before mid x after
  deeper first s log part rest before mid x after split p = record {
    rest = rest ++ p.rest;
    split = split ∙ (ap (λ (xs : List (Logged P)). rest ++ xs) p.split ∙ sym (append_assoc rest p.rest (x ∷ before)));
    at = p.at;
    led = p.led;
    number = p.number;
    given = p.given;
    following = p.following;
    step = p.step;
  }

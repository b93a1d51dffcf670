-- The texts of words, as a list of them grows at its end.
use Rattle.is_candidate.proofs.Common.{[], ◌++◌, ◌∷◌, ◌≡◌, ap, Bor, List, refl, texts, ℕ}

pub texts-push : (xs : List (Bor (List ℕ))) (w : Bor (List ℕ)) (ws : List (List ℕ)) → texts xs ++ (w.now ∷ ws) ≡ texts (xs ++ w ∷ []) ++ ws
texts-push [] w ws = refl
texts-push (x ∷ xs) w ws = ap (λ r. x.now ∷ r) (texts-push xs w ws)

pub texts-end : (xs : List (Bor (List ℕ))) → texts xs ++ [] ≡ texts xs
texts-end [] = refl
texts-end (x ∷ xs) = ap (λ r. x.now ∷ r) (texts-end xs)

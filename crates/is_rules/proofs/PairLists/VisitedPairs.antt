-- The pairs that are left while all are visited in turn.
use Rattle.is_rules.proofs.Common.{◌+◌, ◌<◌, ◌∙◌, ◌∷◌, ◌≡◌, ap, drop, drop_more, get_or, length, List, PairRecord, sym, ℕ}

pub left-more : (ps : List PairRecord) (i : ℕ) (p : PairRecord) → i < length ps → p ≡ get_or ps i p → drop i ps ≡ p ∷ drop (i + 1) ps
left-more ps i p within is = drop_more ps i p within ∙ ap (λ q. q ∷ drop (i + 1) ps) (sym is)

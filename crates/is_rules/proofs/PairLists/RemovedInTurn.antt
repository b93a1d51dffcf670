-- Pairs that are removed one after another until a limit holds, by whatever rule they are chosen.
use Rattle.is_rules.proofs.Common.{[], ◌<◌, ◌∷◌, ◌≡◌, ◌≤◌, ap, arith, Bool, count_by-le-length, eq-eqb, Evicts, EvictsFor, EvictsInTurn}
use Rattle.is_rules.proofs.Common.{EvictsOfMost, EvictsOfMostInTurn, false, Has, if◌then◌else◌, inl, inr, is_numbered, kind_of, length}
use Rattle.is_rules.proofs.Common.{length-filter, List, MatchBool, not, PairRecord, SidesRecord, suc, true, without, ℕ}

-- each is one of the pairs, and the list is over the limit until then
abbrev pub RemovesInTurn : ℕ → List PairRecord → List PairRecord → List PairRecord → Type 0
RemovesInTurn limit [] old new = (length old ≤ limit) × (new ≡ old)
RemovesInTurn limit (p ∷ gone) old new = (limit < length old) × Has old p × RemovesInTurn limit gone (without (is_numbered p.number) old) new

abbrev pub Removes : ℕ → List PairRecord → List PairRecord → Type 0
Removes limit old new = (gone : List PairRecord) × RemovesInTurn limit gone old new

lowest : (limit : ℕ) (gone old new : List PairRecord) → EvictsInTurn limit gone old new → RemovesInTurn limit gone old new
lowest limit [] old new h = h
lowest limit (p ∷ gone) old new (over, least, rest) = (over, least.0, lowest limit gone (without (is_numbered p.number) old) new rest)

of-most : (kind : PairRecord → ℕ) (limit : ℕ) (gone old new : List PairRecord) → EvictsOfMostInTurn kind limit gone old new → RemovesInTurn limit gone old new
of-most kind limit [] old new h = h
of-most kind limit (p ∷ gone) old new (over, least, rest) = (over, least.1.0, of-most kind limit gone (without (is_numbered p.number) old) new rest)

-- the list gets shorter
pub shorter : (ps : List PairRecord) (p : PairRecord) → Has ps p → length (without (is_numbered p.number) ps) < length ps
shorter [] p has = absurd has
shorter (x ∷ ps) p (inl e) =
    let its : is_numbered p.number x ≡ true = eq-eqb x.number p.number (ap (λ (q : PairRecord). q.number) e) in
    let less = length-filter (λ q. not (is_numbered p.number q)) ps in
    let most = count_by-le-length (λ q. not (is_numbered p.number q)) ps in
    rw (its) (omega (arith, less, most))
shorter (x ∷ ps) p (inr has) =
    let less = shorter ps p has in
    elim (is_numbered p.number x) as (λ b. length (if not b then x ∷ without (is_numbered p.number) ps else without (is_numbered p.number) ps) < suc (length ps)) [
      | true ↦ omega (arith, less)
      | false ↦ omega (arith, less)
    ]

-- with and without kinds in turn
pub removes : (s : SidesRecord) (limit : ℕ) (old new : List PairRecord) → EvictsFor s limit old new → Removes limit old new
removes s limit old new h = by s.modern h where
  by : (b : Bool) → MatchBool b (EvictsOfMost (kind_of s.local s.remote) limit old new) (Evicts limit old new) → Removes limit old new
  by true (gone, k) = (gone, of-most (kind_of s.local s.remote) limit gone old new k)
  by false (gone, k) = (gone, lowest limit gone old new k)

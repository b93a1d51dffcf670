-- What it means to parse a text.
use Rattle.std.specs.Prelude.{ℕ, List, Option, MatchOption}

-- the result is a value that the text spells, or none if it spells none
abbrev pub Reads : {A : Type 0} → (List ℕ → A → Type 0) → List ℕ → Option A → Type 0
Reads {A} Spells text r = MatchOption r ((a : A) → ¬ Spells text a) (λ a. Spells text a)

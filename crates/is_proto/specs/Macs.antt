-- The text that a message authentication code is computed over.
use Rattle.std.specs.Prelude.{ℕ, List, map}
use Rattle.std.specs.List.{concat}
use Rattle.std.specs.Borrow.{Bor}

-- the payloads, one after another
abbrev pub joined : List (Bor (List ℕ)) → List ℕ
joined payloads = concat (map (λ payload. payload.now) payloads)

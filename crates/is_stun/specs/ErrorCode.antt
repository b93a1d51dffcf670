-- The value of ERROR-CODE (RFC 8489, section 14.8): two zero bytes, class, number, reason.
use Rattle.std.specs.Prelude.{ℕ, ◌/◌, ◌%◌, List, ◌∷◌}

-- the encoded value of a code and its reason
abbrev pub error_value : ℕ × List ℕ → List ℕ
error_value e = 0 ∷ 0 ∷ (e.0 / 100) ∷ (e.0 % 100) ∷ e.1

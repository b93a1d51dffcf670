-- Which agent is controlling at first (RFC 8445, section 6.1.1).
use Rattle.std.specs.Prelude.{Bool, true, false}

-- A full agent is controlling if the other one is lite. Else the one that made the offer is.
abbrev pub is_controlling : Bool → Bool → Bool → Bool
is_controlling made_offer true false = false
is_controlling made_offer false true = true
is_controlling made_offer true true = made_offer
is_controlling made_offer false false = made_offer

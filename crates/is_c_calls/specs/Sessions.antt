-- C's calls on one agent, from `is_ice_agent_new` on, and what C sees of them.
use Rattle.std.specs.Prelude.{◌≡◌, ◌==◌, Bool, false, List, [], ◌∷◌, ℤ, pos, negsuc}
use Rattle.is_c_calls.specs.Held.{HeldRecord}
use Rattle.is_c_calls.specs.Uses.{Use, Does}

-- one call, and the code that it returned
pub record Used : Type 0 where
  pub export : Use
  pub code : ℤ

-- C's calls lead from the first state of what the slot holds to the last, newest call first.
abbrev pub Session : HeldRecord → List Used → HeldRecord → Type 0
Session first [] last = last ≡ first
Session first (u ∷ before) last = (mid : HeldRecord) × Session first before mid × Does u.export mid u.code last

-- the code is OK
abbrev pub is_ok : ℤ → Bool
is_ok (pos n) = n == 0
is_ok (negsuc n) = false

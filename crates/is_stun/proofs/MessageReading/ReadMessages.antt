-- The parts of what a message's bytes encode.
use Rattle.is_stun.proofs.Common.{◌≡◌, attributes_fault, body_of, Bool, cond, demand_fault, false, fault_of, header_fault, List, message_of}
use Rattle.is_stun.proofs.Common.{None, not, Option, option_or, ParseFault, refl, Some, tlvs_of, true, ℕ}

-- the first fault, by those of the three parts
pub fault_of-parts : (bytes : List ℕ) (header attributes demand : Option ParseFault) → header ≡ header_fault bytes → attributes ≡ attributes_fault (tlvs_of (body_of bytes)) → demand ≡ demand_fault (message_of bytes)
    → fault_of bytes ≡ option_or header (option_or attributes demand)
unfolding fault_of
fault_of-parts bytes header attributes demand h a d = rw (h, a, d) refl

-- what fails neither in a test nor after it
pub rejected_or : {A : Type 0} (b : Bool) (x : A) (o : Option A) → cond b (Some x) o ≡ None → (b ≡ false) × (o ≡ None)
rejected_or true x o e = absurd (cc)
rejected_or false x o e = (refl, e)

pub not_false : (b : Bool) → not b ≡ false → b ≡ true
not_false true e = refl
not_false false e = absurd (cc)

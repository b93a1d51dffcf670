-- The parts of the fault of bytes that encode no message.
use Rattle.is_stun.specs.Form.{form_fault}
use Rattle.is_stun.proofs.Common.{◌≡◌, attributes_fault, body_of, demand_fault, fault_of, header_fault, List, message_of, None, Option}
use Rattle.is_stun.proofs.Common.{option_or, ParseFault, refl, Some, tlvs_of, ℕ}

pub form_fault-parts : (bytes : List ℕ) (header attributes : Option ParseFault) → header ≡ header_fault bytes → attributes ≡ attributes_fault (tlvs_of (body_of bytes))
    → form_fault bytes ≡ option_or header attributes
unfolding form_fault
form_fault-parts bytes header attributes h a = rw (h, a) refl

-- a first fault of three is the first of two, or else the third
or_of_three : {A : Type 0} (a b c : Option A) → option_or a (option_or b c) ≡ option_or (option_or a b) c
or_of_three None b c = refl
or_of_three (Some x) b c = refl

-- the first fault, by that of the form and that of what the message requires
pub fault_of-form : (bytes : List ℕ) (form demand : Option ParseFault) → form ≡ form_fault bytes → demand ≡ demand_fault (message_of bytes)
    → fault_of bytes ≡ option_or form demand
unfolding fault_of form_fault
fault_of-form bytes form demand f d = rw (f, d) (or_of_three (header_fault bytes) (attributes_fault (tlvs_of (body_of bytes))) (demand_fault (message_of bytes)))

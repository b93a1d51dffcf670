-- One step of a walk over the attributes: l is what was left, and c its first.
use Rattle.is_stun.proofs.Common.{[], ◌||◌, ◌∙◌, ◌∷◌, ◌≡◌, after_integrity, ap, AttributeLength, attributes_fault, before_integrity, Bool}
use Rattle.is_stun.proofs.Common.{cond, eq-eqb, eqb, eqb-true, Err, false, fault_at, fault_in, first_fault, first_integrity, inl, inr}
use Rattle.is_stun.proofs.Common.{IntegrityLength, is_integrity, length, List, ltb, ne_eqb, None, Ok, Option, option_or, ParseFault, refl}
use Rattle.is_stun.proofs.Common.{Some, subst, sym, Tlv, true, up_to_integrity, value_fault, ℕ}
use Rattle.is_stun.proofs.MessageReading.AttributeSequence.{cond_cases}

is_integrity_at : (c : Tlv) → c.code ≡ 8 → is_integrity c ≡ true
is_integrity_at c e = eq-eqb c.code 8 e

not_integrity_at : (c : Tlv) → (c.code ≡ 8 → ⊥) → is_integrity c ≡ false
not_integrity_at c ne = ne_eqb c.code 8 ne

-- ---- the first integrity

pub first_integrity-here : (l cs : List Tlv) (c : Tlv) → l ≡ c ∷ cs → c.code ≡ 8 → first_integrity l ≡ Some c
unfolding first_integrity
first_integrity-here l cs c e here = ap first_integrity e ∙ rw (is_integrity_at c here) refl

pub first_integrity-past : (l cs : List Tlv) (c : Tlv) → l ≡ c ∷ cs → (c.code ≡ 8 → ⊥) → first_integrity l ≡ first_integrity cs
unfolding first_integrity
first_integrity-past l cs c e past = ap first_integrity e ∙ rw (not_integrity_at c past) refl

-- ---- those before the integrity

pub before_integrity-here : (l cs : List Tlv) (c : Tlv) → l ≡ c ∷ cs → c.code ≡ 8 → before_integrity l ≡ []
unfolding before_integrity
before_integrity-here l cs c e here = ap before_integrity e ∙ rw (is_integrity_at c here) refl

pub before_integrity-past : (l cs : List Tlv) (c : Tlv) → l ≡ c ∷ cs → (c.code ≡ 8 → ⊥) → before_integrity l ≡ c ∷ before_integrity cs
unfolding before_integrity
before_integrity-past l cs c e past = ap before_integrity e ∙ rw (not_integrity_at c past) refl

pub option_or-assoc : {A : Type 0} (x y z : Option A) → option_or (option_or x y) z ≡ option_or x (option_or y z)
option_or-assoc None y z = refl
option_or-assoc (Some x) y z = refl

-- ---- the first fault

-- the first fault of what is left, which may be after the integrity
abbrev pub fault_left : Bool → List Tlv → Option ParseFault
fault_left is_after cs = cond is_after (first_fault true cs) (attributes_fault cs)

pub option_or-none : {A : Type 0} (x : Option A) → option_or x None ≡ x
option_or-none None = refl
option_or-none (Some x) = refl

pub attributes_fault-cons : (b : Bool) (cs : List Tlv) (c : Tlv) → is_integrity c ≡ b → attributes_fault (c ∷ cs) ≡ option_or (fault_at false c) (fault_left b cs)
unfolding attributes_fault up_to_integrity after_integrity first_fault
attributes_fault-cons true cs c e = rw (e) (ap (λ (x : Option ParseFault). option_or x (first_fault true cs)) (option_or-none (fault_at false c)))
attributes_fault-cons false cs c e = rw (e) (option_or-assoc (fault_at false c) (first_fault false (up_to_integrity cs)) (first_fault true (after_integrity cs)))

fault_left-cons : (b d : Bool) (cs : List Tlv) (c : Tlv) → is_integrity c ≡ d → fault_left b (c ∷ cs) ≡ option_or (fault_at b c) (fault_left (b || d) cs)
unfolding first_fault
fault_left-cons true d cs c e = refl
fault_left-cons false d cs c e = attributes_fault-cons d cs c e

-- an attribute without a fault is passed
pub fault_left-past : (b d : Bool) (l cs : List Tlv) (c : Tlv) (all : Option ParseFault) → l ≡ c ∷ cs → is_integrity c ≡ d → fault_at b c ≡ None → fault_left b l ≡ all → fault_left (b || d) cs ≡ all
fault_left-past b d l cs c all e is none h =
    sym (ap (λ (x : Option ParseFault). option_or x (fault_left (b || d) cs)) none) ∙ sym (fault_left-cons b d cs c is) ∙ sym (ap (fault_left b) e) ∙ h

-- a fault is the first
pub fault_left-found : (b : Bool) (l cs : List Tlv) (c : Tlv) (f : ParseFault) (all : Option ParseFault) → l ≡ c ∷ cs → fault_at b c ≡ Some f → fault_left b l ≡ all → Some f ≡ all
fault_left-found b l cs c f all e some h =
    sym (ap (λ (x : Option ParseFault). option_or x (fault_left (b || is_integrity c) cs)) some) ∙ sym (fault_left-cons b (is_integrity c) cs c refl) ∙ sym (ap (fault_left b) e) ∙ h

pub fault_left-nil : (b : Bool) (l : List Tlv) (all : Option ParseFault) → l ≡ [] → fault_left b l ≡ all → None ≡ all
unfolding attributes_fault first_fault up_to_integrity after_integrity
fault_left-nil true l all e h = sym (ap (fault_left true) e) ∙ h
fault_left-nil false l all e h = sym (ap (fault_left false) e) ∙ h

-- ---- the integrity of attributes without fault

pub none_parts : {A : Type 0} (x y : Option A) → option_or x y ≡ None → (x ≡ None) × (y ≡ None)
none_parts None y e = (refl, e)
none_parts (Some x) y e = absurd (cc)

integrity_value : (value : List ℕ) (b : Bool) → eqb (length value) 20 ≡ b → value_fault 8 value ≡ None → length value ≡ 20
unfolding value_fault
integrity_value value true is e = eqb-true _ _ is
integrity_value value false is e =
    let fault : Some IntegrityLength ≡ None = sym (ap (λ (t : Bool). fault_in (cond t (Ok value) (Err IntegrityLength))) is) ∙ e in
    absurd (cc fault)

integrity_at : (c : Tlv) (b : Bool) → ltb (length c.value) c.len ≡ b → c.code ≡ 8 → fault_at false c ≡ None → length c.value ≡ 20
integrity_at c true is code e =
    let fault : Some AttributeLength ≡ None = sym (ap (λ (t : Bool). cond t (Some AttributeLength) (value_fault c.code c.value)) is) ∙ e in
    absurd (cc fault)
integrity_at c false is code e =
    let no_fault : value_fault c.code c.value ≡ None = sym (ap (λ (t : Bool). cond t (Some AttributeLength) (value_fault c.code c.value)) is) ∙ e in
    integrity_value c.value (eqb (length c.value) 20) refl (sym (ap (λ (k : ℕ). value_fault k c.value) code) ∙ no_fault)

pub faultless-integrity : (cs : List Tlv) (c : Tlv) → attributes_fault cs ≡ None → first_integrity cs ≡ Some c → length c.value ≡ 20
unfolding first_integrity
faultless-integrity [] c none e = absurd (cc)
faultless-integrity (c0 ∷ cs) c none e =
    elim (cond_cases (is_integrity c0) (Some c0) (first_integrity cs) (Some c) e) [
      | inl here ↦
          let c-is : c0 ≡ c = cc (here.1) in
          let parts = none_parts (fault_at false c0) (fault_left true cs) (sym (attributes_fault-cons true cs c0 here.0) ∙ none) in
          subst (λ (x : Tlv). length x.value ≡ 20) c-is (integrity_at c0 (ltb (length c0.value) c0.len) refl (eqb-true _ _ here.0) parts.0)
      | inr past ↦
          let parts = none_parts (fault_at false c0) (fault_left false cs) (sym (attributes_fault-cons false cs c0 past.0) ∙ none) in
          faultless-integrity cs c parts.1 past.1
    ]

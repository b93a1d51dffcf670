-- One pass: what is left, read over what was read so far, is what all attributes say.
use Rattle.is_stun.specs.Pass.{kept, kept_after, kept_at, integrity_with}
use Rattle.is_stun.proofs.Common.{[], ◌+◌, ◌||◌, ◌∙◌, ◌∷◌, ◌≡◌, ◌≤◌, address_in, ap, arith, attributes_fault, attributes_of}
use Rattle.is_stun.proofs.Common.{AttributesRecord, before_integrity, Bool, bytes_of_len, CHANNEL_NUMBER, channel_number, cond}
use Rattle.is_stun.proofs.Common.{ControlledLength, ControllingLength, counts, DATA, eqb, eqb-true, ERROR_CODE, error_code, false, fault_at}
use Rattle.is_stun.proofs.Common.{FINGERPRINT, FingerprintLength, first_integrity, ICE_CONTROLLED, ICE_CONTROLLING, IfSome, is_integrity}
use Rattle.is_stun.proofs.Common.{is_some, last_of, length, LIFETIME, LifetimeLength, List, NETWORK_COST, network_cost, no_attributes}
use Rattle.is_stun.proofs.Common.{NOMINATION, nomination, NONCE, None, number, Option, option_and_then, option_map, option_or, ParseFault}
use Rattle.is_stun.proofs.Common.{PRIORITY, PriorityLength, REALM, refl, Result, result_ok, SOFTWARE, Some, sym, text, TEXT_LIMIT, Tlv}
use Rattle.is_stun.proofs.Common.{tlvs_of, true, USE_CANDIDATE, UseCandidateLength, USERNAME, USERNAME_LIMIT, value_in, w32, w64}
use Rattle.is_stun.proofs.Common.{XOR_MAPPED_ADDRESS, XOR_PEER_ADDRESS, XOR_RELAYED_ADDRESS, ℕ}
use Rattle.is_stun.proofs.MessageReading.AttributeSequence.{first_integrity-ends}
use Rattle.is_stun.proofs.MessageReading.FirstAttribute.{fault_left, fault_left-past, fault_left-found, fault_left-nil, faultless-integrity}
use Rattle.is_stun.proofs.MessageReading.FirstAttribute.{option_or-none}

-- ---- one field

-- the last value, read, or else what was read so far
abbrev pub over : {A : Type 0} → (List ℕ → A) → Option (List ℕ) → A → A
over read None so_far = so_far
over read (Some value) so_far = read value

over-or : {A : Type 0} (read : List ℕ → A) (o : Option (List ℕ)) (b : Bool) (v : List ℕ) (x : A) → over read (option_or o (cond b (Some v) None)) x ≡ over read o (cond b (read v) x)
over-or read (Some y) b v x = refl
over-or read None true v x = refl
over-or read None false v x = refl

-- the next one of the type takes the place of the earlier ones
over-cons : {A : Type 0} (read : List ℕ → A) (code : ℕ) (cs : List Tlv) (c : Tlv) (x : A) → over read (last_of code (c ∷ cs)) x ≡ over read (last_of code cs) (cond (counts code c) (read c.value) x)
unfolding last_of
over-cons read code cs c x = over-or read (last_of code cs) (counts code c) c.value x

-- ---- all fields

-- what is left, read over what was read so far
abbrev pub all_over : List ℕ → List Tlv → List Tlv → AttributesRecord → AttributesRecord
all_over id first cs a =
    record {
      username = over (λ v. result_ok (text USERNAME_LIMIT v)) (last_of USERNAME first) a.username;
      error_code = over (λ v. result_ok (error_code v)) (last_of ERROR_CODE first) a.error_code;
      channel_number = over (λ v. result_ok (channel_number v)) (last_of CHANNEL_NUMBER first) a.channel_number;
      lifetime = over (λ v. result_ok (number w32 LifetimeLength v)) (last_of LIFETIME first) a.lifetime;
      xor_peer_address = over (λ v. result_ok (address_in id v)) (last_of XOR_PEER_ADDRESS first) a.xor_peer_address;
      «data» = over (λ v. Some v) (last_of DATA first) a.«data»;
      realm = over (λ v. result_ok (text TEXT_LIMIT v)) (last_of REALM first) a.realm;
      nonce = over (λ v. result_ok (text TEXT_LIMIT v)) (last_of NONCE first) a.nonce;
      xor_relayed_address = over (λ v. result_ok (address_in id v)) (last_of XOR_RELAYED_ADDRESS first) a.xor_relayed_address;
      xor_mapped_address = over (λ v. result_ok (address_in id v)) (last_of XOR_MAPPED_ADDRESS first) a.xor_mapped_address;
      software = over (λ v. result_ok (text TEXT_LIMIT v)) (last_of SOFTWARE first) a.software;
      priority = over (λ v. result_ok (number w32 PriorityLength v)) (last_of PRIORITY first) a.priority;
      use_candidate = over (λ v. is_some (result_ok (bytes_of_len 0 UseCandidateLength v))) (last_of USE_CANDIDATE first) a.use_candidate;
      ice_controlled = over (λ v. result_ok (number w64 ControlledLength v)) (last_of ICE_CONTROLLED first) a.ice_controlled;
      ice_controlling = over (λ v. result_ok (number w64 ControllingLength v)) (last_of ICE_CONTROLLING first) a.ice_controlling;
      network_cost = over network_cost (last_of NETWORK_COST first) a.network_cost;
      nomination = over nomination (last_of NOMINATION first) a.nomination;
      fingerprint = over (λ v. result_ok (number w32 FingerprintLength v)) (last_of FINGERPRINT cs) a.fingerprint;
    }

abbrev pub merged : Bool → List ℕ → List Tlv → AttributesRecord → AttributesRecord
merged is_after id cs a = all_over id (cond is_after [] (before_integrity cs)) cs a

all_over-cons : (id : List ℕ) (first cs : List Tlv) (c : Tlv) (a : AttributesRecord) → all_over id (c ∷ first) (c ∷ cs) a ≡ all_over id first cs (kept id c a)
unfolding kept
all_over-cons id first cs c a =
    rw (
      over-cons (λ v. result_ok (text USERNAME_LIMIT v)) USERNAME first c a.username,
      over-cons (λ v. result_ok (error_code v)) ERROR_CODE first c a.error_code,
      over-cons (λ v. result_ok (channel_number v)) CHANNEL_NUMBER first c a.channel_number,
      over-cons (λ v. result_ok (number w32 LifetimeLength v)) LIFETIME first c a.lifetime,
      over-cons (λ v. result_ok (address_in id v)) XOR_PEER_ADDRESS first c a.xor_peer_address,
      over-cons (λ v. Some v) DATA first c a.«data»,
      over-cons (λ v. result_ok (text TEXT_LIMIT v)) REALM first c a.realm,
      over-cons (λ v. result_ok (text TEXT_LIMIT v)) NONCE first c a.nonce,
      over-cons (λ v. result_ok (address_in id v)) XOR_RELAYED_ADDRESS first c a.xor_relayed_address,
      over-cons (λ v. result_ok (address_in id v)) XOR_MAPPED_ADDRESS first c a.xor_mapped_address,
      over-cons (λ v. result_ok (text TEXT_LIMIT v)) SOFTWARE first c a.software,
      over-cons (λ v. result_ok (number w32 PriorityLength v)) PRIORITY first c a.priority,
      over-cons (λ v. is_some (result_ok (bytes_of_len 0 UseCandidateLength v))) USE_CANDIDATE first c a.use_candidate,
      over-cons (λ v. result_ok (number w64 ControlledLength v)) ICE_CONTROLLED first c a.ice_controlled,
      over-cons (λ v. result_ok (number w64 ControllingLength v)) ICE_CONTROLLING first c a.ice_controlling,
      over-cons network_cost NETWORK_COST first c a.network_cost,
      over-cons nomination NOMINATION first c a.nomination,
      over-cons (λ v. result_ok (number w32 FingerprintLength v)) FINGERPRINT cs c a.fingerprint,
    ) refl

-- after the integrity
merged-following : (id : List ℕ) (cs : List Tlv) (c : Tlv) (a : AttributesRecord) → merged true id (c ∷ cs) a ≡ merged true id cs (kept_after c a)
unfolding kept_after last_of
merged-following id cs c a = rw (over-cons (λ v. result_ok (number w32 FingerprintLength v)) FINGERPRINT cs c a.fingerprint) refl

-- at the integrity, which no field is read from
merged-here : (id : List ℕ) (cs : List Tlv) (c : Tlv) (a : AttributesRecord) → is_integrity c ≡ true → merged false id (c ∷ cs) a ≡ merged true id cs a
unfolding before_integrity last_of
merged-here id cs c a is =
    let code : c.code ≡ 8 = eqb-true _ _ is in
    rw (is, over-cons (λ v. result_ok (number w32 FingerprintLength v)) FINGERPRINT cs c a.fingerprint, code) refl

-- before it
merged-before : (id : List ℕ) (cs : List Tlv) (c : Tlv) (a : AttributesRecord) → is_integrity c ≡ false → merged false id (c ∷ cs) a ≡ merged false id cs (kept id c a)
unfolding before_integrity
merged-before id cs c a past = rw past (all_over-cons id (before_integrity cs) cs c a)

merged-by : (b d : Bool) (id : List ℕ) (cs : List Tlv) (c : Tlv) (a : AttributesRecord) → is_integrity c ≡ d → merged b id (c ∷ cs) a ≡ merged (b || d) id cs (kept_at b id c a)
unfolding kept_at
merged-by true d id cs c a e = merged-following id cs c a
merged-by false true id cs c a e = rw e (merged-here id cs c a e)
merged-by false false id cs c a e = rw e (merged-before id cs c a e)

merged-nil : (b : Bool) (id : List ℕ) (a : AttributesRecord) → merged b id [] a ≡ a
unfolding before_integrity last_of
merged-nil true id a = refl
merged-nil false id a = refl

-- ---- the end: over nothing

over-none : {A : Type 0} (read : List ℕ → Result A ParseFault) (o : Option (List ℕ)) → over (λ v. result_ok (read v)) o None ≡ value_in read o
over-none read None = refl
over-none read (Some v) = refl

over-data : (o : Option (List ℕ)) → over (λ v. Some v) o None ≡ o
over-data None = refl
over-data (Some v) = refl

over-flag : (read : List ℕ → Result (List ℕ) ParseFault) (o : Option (List ℕ)) → over (λ v. is_some (result_ok (read v))) o false ≡ is_some (value_in read o)
over-flag read None = refl
over-flag read (Some v) = refl

over-option : {A : Type 0} (read : List ℕ → Option A) (o : Option (List ℕ)) → over read o None ≡ option_and_then read o
over-option read None = refl
over-option read (Some v) = refl

pub merged-all : (id : List ℕ) (cs : List Tlv) → merged false id cs no_attributes ≡ attributes_of id cs
unfolding attributes_of
merged-all id cs =
    let first : List Tlv = before_integrity cs in
    rw (
      over-none (text USERNAME_LIMIT) (last_of USERNAME first),
      over-none error_code (last_of ERROR_CODE first),
      over-none channel_number (last_of CHANNEL_NUMBER first),
      over-none (number w32 LifetimeLength) (last_of LIFETIME first),
      over-none (address_in id) (last_of XOR_PEER_ADDRESS first),
      over-data (last_of DATA first),
      over-none (text TEXT_LIMIT) (last_of REALM first),
      over-none (text TEXT_LIMIT) (last_of NONCE first),
      over-none (address_in id) (last_of XOR_RELAYED_ADDRESS first),
      over-none (address_in id) (last_of XOR_MAPPED_ADDRESS first),
      over-none (text TEXT_LIMIT) (last_of SOFTWARE first),
      over-none (number w32 PriorityLength) (last_of PRIORITY first),
      over-flag (bytes_of_len 0 UseCandidateLength) (last_of USE_CANDIDATE first),
      over-none (number w64 ControlledLength) (last_of ICE_CONTROLLED first),
      over-none (number w64 ControllingLength) (last_of ICE_CONTROLLING first),
      over-option network_cost (last_of NETWORK_COST first),
      over-option nomination (last_of NOMINATION first),
      over-none (number w32 FingerprintLength) (last_of FINGERPRINT cs),
    ) refl

-- ---- the loop

-- what was met so far, and what is left, make up what all attributes say
pub record Passes (id : List ℕ) (all left : List Tlv) (first : Option Tlv) (a : AttributesRecord) : Type 0 where
  pub fault : fault_left (is_some first) left ≡ attributes_fault all
  pub met : option_or first (first_integrity left) ≡ first_integrity all
  pub fields : merged (is_some first) id left a ≡ attributes_of id all

pub starts : (id : List ℕ) (all : List Tlv) → Passes id all all None no_attributes
starts id all = record { fault = refl; met = refl; fields = merged-all id all }

some_with : (first : Option Tlv) (c : Tlv) (d : Bool) → is_integrity c ≡ d → is_some (integrity_with first c) ≡ (is_some first || d)
unfolding integrity_with
some_with (Some x) c d e = refl
some_with None c true e = rw e refl
some_with None c false e = rw e refl

first_with : (first : Option Tlv) (c : Tlv) (cs : List Tlv) (d : Bool) → is_integrity c ≡ d → option_or first (first_integrity (c ∷ cs)) ≡ option_or (integrity_with first c) (first_integrity cs)
unfolding integrity_with first_integrity
first_with (Some x) c cs d e = refl
first_with None c cs true e = rw e refl
first_with None c cs false e = rw e refl

-- one attribute without a fault
pub passes : (id : List ℕ) (all left cs : List Tlv) (c : Tlv) (first : Option Tlv) (a : AttributesRecord) → left ≡ c ∷ cs → fault_at (is_some first) c ≡ None → Passes id all left first a
    → Passes id all cs (integrity_with first c) (kept_at (is_some first) id c a)
passes id all left cs c first a e none p =
    let some : is_some (integrity_with first c) ≡ (is_some first || is_integrity c) = some_with first c (is_integrity c) refl in
    record {
      fault = ap (λ (b : Bool). fault_left b cs) some ∙ fault_left-past (is_some first) (is_integrity c) left cs c (attributes_fault all) e refl none p.fault;
      met = sym (first_with first c cs (is_integrity c) refl) ∙ sym (ap (λ (l : List Tlv). option_or first (first_integrity l)) e) ∙ p.met;
      fields =
          ap (λ (b : Bool). merged b id cs (kept_at (is_some first) id c a)) some
          ∙ sym (merged-by (is_some first) (is_integrity c) id cs c a refl)
          ∙ sym (ap (λ (l : List Tlv). merged (is_some first) id l a) e)
          ∙ p.fields;
    }

-- the end
pub passes_end : (id : List ℕ) (all left : List Tlv) (first : Option Tlv) (a : AttributesRecord) → left ≡ [] → Passes id all left first a → a ≡ attributes_of id all
passes_end id all left first a e p = sym (merged-nil (is_some first) id a) ∙ sym (ap (λ (l : List Tlv). merged (is_some first) id l a) e) ∙ p.fields

pub passes_first : (id : List ℕ) (all left : List Tlv) (first : Option Tlv) (a : AttributesRecord) → left ≡ [] → Passes id all left first a → first ≡ first_integrity all
unfolding first_integrity
passes_first id all left first a e p = sym (option_or-none first) ∙ sym (ap (λ (l : List Tlv). option_or first (first_integrity l)) e) ∙ p.met

-- ---- by what is in memory

some_view : {A B : Type 0} (view : A → B) (o : Option A) → is_some (option_map view o) ≡ is_some o
some_view view None = refl
some_view view (Some x) = refl

pub passes_on : {A : Type 0} (view : A → Tlv) (id : List ℕ) (all left cs : List Tlv) (c : Tlv) (old new : Option A) (a b : AttributesRecord)
    → left ≡ c ∷ cs → fault_at (is_some old) c ≡ None → b ≡ kept_at (is_some old) id c a → option_map view new ≡ integrity_with (option_map view old) c
    → Passes id all left (option_map view old) a → Passes id all cs (option_map view new) b
passes_on view id all left cs c old new a b e none fields met p =
    let some : is_some (option_map view old) ≡ is_some old = some_view view old in
    rw (met, fields, sym some) (passes id all left cs c (option_map view old) a e (ap (λ (x : Bool). fault_at x c) some ∙ none) p)

pub passes_fault : {A : Type 0} (view : A → Tlv) (id : List ℕ) (all left cs : List Tlv) (c : Tlv) (old : Option A) (a : AttributesRecord) (f : ParseFault)
    → left ≡ c ∷ cs → fault_at (is_some old) c ≡ Some f → Passes id all left (option_map view old) a → attributes_fault all ≡ Some f
passes_fault view id all left cs c old a f e some p =
    sym (fault_left-found (is_some (option_map view old)) left cs c f (attributes_fault all) e (ap (λ (x : Bool). fault_at x c) (some_view view old) ∙ some) p.fault)

pub passes_none : (id : List ℕ) (all left : List Tlv) (first : Option Tlv) (a : AttributesRecord) → left ≡ [] → Passes id all left first a → attributes_fault all ≡ None
passes_none id all left first a e p = sym (fault_left-nil (is_some first) left (attributes_fault all) e p.fault)

within_first : {A : Type 0} (view : A → Tlv) (body : List ℕ) (met : Option A) → option_map view met ≡ first_integrity (tlvs_of body) → attributes_fault (tlvs_of body) ≡ None
    → IfSome met (λ c. (view c).place + 24 ≤ length body)
within_first view body None e none = tt
within_first view body (Some c) e none =
    let ends = (first_integrity-ends body (view c) (sym e)).ends in
    let len = faultless-integrity (tlvs_of body) (view c) none (sym e) in
    omega (arith, len, ends)

-- the integrity is within the body
pub passes_within : {A : Type 0} (view : A → Tlv) (id body : List ℕ) (left : List Tlv) (met : Option A) (a : AttributesRecord) → left ≡ [] → Passes id (tlvs_of body) left (option_map view met) a
    → IfSome met (λ c. (view c).place + 24 ≤ length body)
passes_within view id body left met a e p =
    within_first view body met (passes_first id (tlvs_of body) left (option_map view met) a e p) (passes_none id (tlvs_of body) left (option_map view met) a e p)

-- ---- a network cost, or a nomination, of another length leaves what was read

cost_by : (id : List ℕ) (c : Tlv) (a : AttributesRecord) (o : Option (ℕ × ℕ)) (b : Bool) → eqb (length c.value) 4 ≡ b → c.code ≡ 0xC057 → o ≡ network_cost c.value → record a { network_cost = option_or o a.network_cost } ≡ kept id c a
unfolding kept network_cost
cost_by id c a o true is code e = rw (e, code, is) refl
cost_by id c a o false is code e = rw (e, code, is) refl

pub kept-cost : (id : List ℕ) (c : Tlv) (a : AttributesRecord) (o : Option (ℕ × ℕ)) → c.code ≡ 0xC057 → o ≡ network_cost c.value → record a { network_cost = option_or o a.network_cost } ≡ kept id c a
kept-cost id c a o code e = cost_by id c a o (eqb (length c.value) 4) refl code e

nomination_by : (id : List ℕ) (c : Tlv) (a : AttributesRecord) (o : Option ℕ) (b : Bool) → eqb (length c.value) 4 ≡ b → c.code ≡ 0xC001 → o ≡ nomination c.value → record a { nomination = option_or o a.nomination } ≡ kept id c a
unfolding kept nomination
nomination_by id c a o true is code e = rw (e, code, is) refl
nomination_by id c a o false is code e = rw (e, code, is) refl

pub kept-nomination : (id : List ℕ) (c : Tlv) (a : AttributesRecord) (o : Option ℕ) → c.code ≡ 0xC001 → o ≡ nomination c.value → record a { nomination = option_or o a.nomination } ≡ kept id c a
kept-nomination id c a o code e = nomination_by id c a o (eqb (length c.value) 4) refl code e

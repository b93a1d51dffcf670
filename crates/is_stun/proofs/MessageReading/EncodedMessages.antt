-- What is read is what the bytes encode.
use Rattle.is_stun.specs.declared.header.Class.TheVariants as classes
use Rattle.is_stun.specs.declared.header.Method.TheVariants as methods
use Rattle.is_stun.proofs.Common.{[], ◌%◌, ◌&&◌, ◌+◌, ◌∙◌, ◌∷◌, ◌≡◌, address_in, after_integrity, AllByRecursion, ap, AreSpelled}
use Rattle.is_stun.proofs.Common.{AttributeLength, attributes_fault, attributes_of, AttributesRecord, before_integrity, body_of, Bool}
use Rattle.is_stun.proofs.Common.{bytes_of_len, CHANNEL_NUMBER, channel_number, Class, cond, ControlledLength, ControllingLength, counts}
use Rattle.is_stun.proofs.Common.{demand_fault, demand_fault_of, eq-eqb, eqb, eqb-true, Err, ERROR_CODE, error_code, false, fault_at}
use Rattle.is_stun.proofs.Common.{fault_in, fault_of, FINGERPRINT, FingerprintLength, first_fault, HasDemanded, HasHeader, header_fault}
use Rattle.is_stun.proofs.Common.{HEADER_LEN, ICE_CONTROLLED, ICE_CONTROLLING, id_of, is_integrity, is_none, is_skipped, is_some, IsReading}
use Rattle.is_stun.proofs.Common.{IsSome, IsWellFormed, last_of, le-ltb, length, length_field, LIFETIME, LifetimeLength, List, ltb-false}
use Rattle.is_stun.proofs.Common.{MAGIC, magic_of, MatchOption, Message, message_of, Method, NONCE, None, not, number, Ok, Option}
use Rattle.is_stun.proofs.Common.{option_or, ParseFault, PRIORITY, PriorityLength, Reads, REALM, refl, Result, result_ok, SOFTWARE, Some}
use Rattle.is_stun.proofs.Common.{Spells, split_username, subst, sym, text, TEXT_LIMIT, Tlv, tlvs_of, true, up_to_integrity, USE_CANDIDATE}
use Rattle.is_stun.proofs.Common.{UseCandidateLength, USERNAME, USERNAME_LIMIT, value_fault, value_in, w32, w64, XOR_MAPPED_ADDRESS}
use Rattle.is_stun.proofs.Common.{XOR_PEER_ADDRESS, XOR_RELAYED_ADDRESS, ℕ}
use Rattle.is_stun.proofs.MessageReading.FirstAttribute.{none_parts}
use Rattle.is_stun.proofs.MessageReading.ReadMessages.{fault_of-parts, rejected_or, not_false}
use Rattle.is_stun.proofs.RoundTrips.Attributes.{address_fault-is}

-- ---- the header

header_spelled : (bytes : List ℕ) → header_fault bytes ≡ None → HasHeader bytes
unfolding header_fault
header_spelled bytes e =
    let short = rejected_or _ _ _ e in
    let even = rejected_or _ _ _ short.1 in
    let whole = rejected_or _ _ _ even.1 in
    let magic = rejected_or _ _ _ whole.1 in
    record {
      type_and_length = ltb-false (length bytes) 4 short.0;
      even = eqb-true _ _ (not_false _ even.0);
      whole = eqb-true _ _ (not_false _ whole.0);
      magic = eqb-true _ _ (not_false _ magic.0);
    }

header_read : (bytes : List ℕ) → HasHeader bytes → header_fault bytes ≡ None
unfolding header_fault
header_read bytes h =
    rw (le-ltb (length bytes) 4 h.type_and_length, eq-eqb (length_field bytes % 4) 0 h.even, eq-eqb (length_field bytes + HEADER_LEN) (length bytes) h.whole, eq-eqb (magic_of bytes) MAGIC h.magic) refl

-- ---- each attribute

value_by : (b same : Bool) (x : Option ParseFault) → cond (b && not same) None x ≡ None → (b ≡ true → same ≡ true) → x ≡ None
value_by false same x e read = e
value_by true true x e read = e
value_by true false x e read = let h : false ≡ true = read refl in absurd (cc)

by_value : (b same : Bool) (x : Option ParseFault) → ((b ≡ true → same ≡ true) → x ≡ None) → cond (b && not same) None x ≡ None
by_value false same x h = h (λ e. absurd (cc))
by_value true true x h = h (λ e. refl)
by_value true false x h = refl

sound_of : (b : Bool) (c : Tlv) → fault_at b c ≡ None → IsWellFormed b c
sound_of b c e =
    let whole = rejected_or _ _ _ e in
    record {
      whole = ltb-false (length c.value) c.len whole.0;
      value = λ read. value_by b (eqb c.code FINGERPRINT) (value_fault c.code c.value) whole.1 (λ t. eq-eqb c.code FINGERPRINT (read t));
    }

no_fault : (b : Bool) (c : Tlv) → IsWellFormed b c → fault_at b c ≡ None
no_fault b c h =
    ap (λ (x : Bool). cond x (Some AttributeLength) (cond (b && not (eqb c.code FINGERPRINT)) None (value_fault c.code c.value))) (le-ltb (length c.value) c.len h.whole)
    ∙ by_value b (eqb c.code FINGERPRINT) (value_fault c.code c.value) (λ read. h.value (λ t. eqb-true c.code FINGERPRINT (read t)))

all_sound : (b : Bool) (cs : List Tlv) → first_fault b cs ≡ None → AllByRecursion (IsWellFormed b) cs
unfolding first_fault
all_sound b [] e = tt
all_sound b (c ∷ cs) e = let parts = none_parts (fault_at b c) (first_fault b cs) e in (sound_of b c parts.0, all_sound b cs parts.1)

none_wrong : (b : Bool) (cs : List Tlv) → AllByRecursion (IsWellFormed b) cs → first_fault b cs ≡ None
unfolding first_fault
none_wrong b [] h = refl
none_wrong b (c ∷ cs) h = ap (λ (o : Option ParseFault). option_or o (first_fault b cs)) (no_fault b c h.0) ∙ none_wrong b cs h.1

-- ---- the last of a type

-- an attribute of the type has a value of it
abbrev Fine : ℕ → Tlv → Type 0
Fine code c = c.code ≡ code → value_fault c.code c.value ≡ None

fine_before : (code : ℕ) (cs : List Tlv) → AllByRecursion (IsWellFormed false) (up_to_integrity cs) → AllByRecursion (Fine code) (before_integrity cs)
unfolding before_integrity up_to_integrity
fine_before code [] h = tt
fine_before code (c ∷ cs) h = by (is_integrity c) (λ rest. fine_before code cs rest) h.1
  where
    by : (b : Bool) → (AllByRecursion (IsWellFormed false) (up_to_integrity cs) → AllByRecursion (Fine code) (before_integrity cs))
        → AllByRecursion (IsWellFormed false) (cond b [] (up_to_integrity cs)) → AllByRecursion (Fine code) (cond b [] (c ∷ before_integrity cs))
    by true others rest = tt
    by false others rest = (λ e. h.0.value (λ t. absurd (cc)), others rest)

fine_after : (cs : List Tlv) → AllByRecursion (IsWellFormed true) cs → AllByRecursion (Fine FINGERPRINT) cs
fine_after [] h = tt
fine_after (c ∷ cs) h = (λ e. h.0.value (λ t. e), fine_after cs h.1)

fine_anywhere : (cs : List Tlv) → AllByRecursion (IsWellFormed false) (up_to_integrity cs) → AllByRecursion (IsWellFormed true) (after_integrity cs) → AllByRecursion (Fine FINGERPRINT) cs
unfolding up_to_integrity after_integrity
fine_anywhere [] h k = tt
fine_anywhere (c ∷ cs) h k = (λ e. h.0.value (λ t. absurd (cc)), by (is_integrity c) (λ rest following. fine_anywhere cs rest following) h.1 k)
  where
    by : (b : Bool) → (AllByRecursion (IsWellFormed false) (up_to_integrity cs) → AllByRecursion (IsWellFormed true) (after_integrity cs) → AllByRecursion (Fine FINGERPRINT) cs)
        → AllByRecursion (IsWellFormed false) (cond b [] (up_to_integrity cs)) → AllByRecursion (IsWellFormed true) (cond b cs (after_integrity cs)) → AllByRecursion (Fine FINGERPRINT) cs
    by true others rest following = fine_after cs following
    by false others rest following = others rest following

code_of : (b c : Bool) → (b && c) ≡ true → b ≡ true
code_of true c e = refl
code_of false c e = absurd (cc)

last_fine : (code : ℕ) (cs : List Tlv) (v : List ℕ) → AllByRecursion (Fine code) cs → last_of code cs ≡ Some v → value_fault code v ≡ None
unfolding last_of
last_fine code [] v h e = absurd (cc)
last_fine code (c ∷ cs) v h e = by (last_of code cs) (counts code c) (λ found. last_fine code cs v h.1 found) refl refl e
  where
    by : (o : Option (List ℕ)) (b : Bool) → (last_of code cs ≡ Some v → value_fault code v ≡ None)
        → last_of code cs ≡ o → counts code c ≡ b → option_or o (cond b (Some c.value) None) ≡ Some v → value_fault code v ≡ None
    by (Some x) b others found counted same = others (found ∙ same)
    by None true others found counted same =
        let is : c.code ≡ code = eqb-true c.code code (code_of (eqb c.code code) (not (is_skipped c)) counted) in
        let value : c.value ≡ v = cc same in
        subst (λ (x : List ℕ). value_fault code x ≡ None) value (subst (λ (n : ℕ). value_fault n c.value ≡ None) is (h.0 is))
    by None false others found counted same = absurd (cc)

-- ---- each field

reading_of : {A : Type 0} (r : Result A ParseFault) → fault_in r ≡ None → MatchOption (result_ok r) ⊥ (λ x. r ≡ Ok x)
reading_of (Ok x) e = refl
reading_of (Err f) e = absurd (cc)

reading : {A : Type 0} (read : List ℕ → Result A ParseFault) (o : Option (List ℕ)) → ((v : List ℕ) → o ≡ Some v → fault_in (read v) ≡ None) → IsReading read o (value_in read o)
reading read None fine = refl
reading read (Some v) fine = reading_of (read v) (fine v refl)

set_by : {A : Type 0} (r : Result A ParseFault) → fault_in r ≡ None → is_some (result_ok r) ≡ true
set_by (Ok x) e = refl
set_by (Err f) e = absurd (cc)

is_set : {A : Type 0} (read : List ℕ → Result A ParseFault) (o : Option (List ℕ)) → ((v : List ℕ) → o ≡ Some v → fault_in (read v) ≡ None) → is_some (value_in read o) ≡ is_some o
is_set read None fine = refl
is_set read (Some v) fine = set_by (read v) (fine v refl)

field_is : {A : Type 0} (read : List ℕ → Result A ParseFault) (o : Option (List ℕ)) (field : Option A) → IsReading read o field → value_in read o ≡ field
field_is read None field h = sym h
field_is read (Some v) None h = absurd (h)
field_is read (Some v) (Some x) h = ap result_ok h

-- every attribute is read without a fault
abbrev AllFine : List Tlv → Type 0
AllFine cs = ((code : ℕ) → AllByRecursion (Fine code) (before_integrity cs)) × AllByRecursion (Fine FINGERPRINT) cs

no_use_candidate : (cs : List Tlv) → AllFine cs → (v : List ℕ) → last_of USE_CANDIDATE (before_integrity cs) ≡ Some v → fault_in (bytes_of_len 0 UseCandidateLength v) ≡ None
unfolding value_fault
no_use_candidate cs fine v e = last_fine USE_CANDIDATE (before_integrity cs) v (fine.0 USE_CANDIDATE) e

attributes_spelled : (id : List ℕ) (cs : List Tlv) → AllFine cs → AreSpelled id cs (attributes_of id cs)
unfolding attributes_of value_fault
attributes_spelled id cs fine =
    let first : List Tlv = before_integrity cs in
    let at : (code : ℕ) (v : List ℕ) → last_of code first ≡ Some v → value_fault code v ≡ None = λ code v e. last_fine code first v (fine.0 code) e in
    let address : (code : ℕ) (v : List ℕ) → last_of code first ≡ Some v → value_fault code v ≡ None = at in
    record {
      username = reading (text USERNAME_LIMIT) (last_of USERNAME first) (at USERNAME);
      error_code = reading error_code (last_of ERROR_CODE first) (at ERROR_CODE);
      channel_number = reading channel_number (last_of CHANNEL_NUMBER first) (at CHANNEL_NUMBER);
      lifetime = reading (number w32 LifetimeLength) (last_of LIFETIME first) (at LIFETIME);
      xor_peer_address = reading (address_in id) (last_of XOR_PEER_ADDRESS first) (λ v e. sym (address_fault-is id v) ∙ at XOR_PEER_ADDRESS v e);
      «data» = refl;
      realm = reading (text TEXT_LIMIT) (last_of REALM first) (at REALM);
      nonce = reading (text TEXT_LIMIT) (last_of NONCE first) (at NONCE);
      xor_relayed_address = reading (address_in id) (last_of XOR_RELAYED_ADDRESS first) (λ v e. sym (address_fault-is id v) ∙ at XOR_RELAYED_ADDRESS v e);
      xor_mapped_address = reading (address_in id) (last_of XOR_MAPPED_ADDRESS first) (λ v e. sym (address_fault-is id v) ∙ at XOR_MAPPED_ADDRESS v e);
      software = reading (text TEXT_LIMIT) (last_of SOFTWARE first) (at SOFTWARE);
      priority = reading (number w32 PriorityLength) (last_of PRIORITY first) (at PRIORITY);
      use_candidate = is_set (bytes_of_len 0 UseCandidateLength) (last_of USE_CANDIDATE first) (at USE_CANDIDATE);
      ice_controlled = reading (number w64 ControlledLength) (last_of ICE_CONTROLLED first) (at ICE_CONTROLLED);
      ice_controlling = reading (number w64 ControllingLength) (last_of ICE_CONTROLLING first) (at ICE_CONTROLLING);
      network_cost = refl;
      nomination = refl;
      fingerprint = reading (number w32 FingerprintLength) (last_of FINGERPRINT cs) (λ v e. last_fine FINGERPRINT cs v fine.1 e);
    }

attributes_read : (id : List ℕ) (cs : List Tlv) (a : AttributesRecord) → AllFine cs → AreSpelled id cs a → a ≡ attributes_of id cs
unfolding attributes_of
attributes_read id cs a fine h =
    let first : List Tlv = before_integrity cs in
    let flag : is_some (value_in (bytes_of_len 0 UseCandidateLength) (last_of USE_CANDIDATE first)) ≡ a.use_candidate =
    is_set (bytes_of_len 0 UseCandidateLength) (last_of USE_CANDIDATE first) (no_use_candidate cs fine) ∙ sym h.use_candidate in
    rw (
      field_is (text USERNAME_LIMIT) (last_of USERNAME first) a.username h.username,
      field_is error_code (last_of ERROR_CODE first) a.error_code h.error_code,
      field_is channel_number (last_of CHANNEL_NUMBER first) a.channel_number h.channel_number,
      field_is (number w32 LifetimeLength) (last_of LIFETIME first) a.lifetime h.lifetime,
      field_is (address_in id) (last_of XOR_PEER_ADDRESS first) a.xor_peer_address h.xor_peer_address,
      ← h.«data»,
      field_is (text TEXT_LIMIT) (last_of REALM first) a.realm h.realm,
      field_is (text TEXT_LIMIT) (last_of NONCE first) a.nonce h.nonce,
      field_is (address_in id) (last_of XOR_RELAYED_ADDRESS first) a.xor_relayed_address h.xor_relayed_address,
      field_is (address_in id) (last_of XOR_MAPPED_ADDRESS first) a.xor_mapped_address h.xor_mapped_address,
      field_is (text TEXT_LIMIT) (last_of SOFTWARE first) a.software h.software,
      field_is (number w32 PriorityLength) (last_of PRIORITY first) a.priority h.priority,
      flag,
      field_is (number w64 ControlledLength) (last_of ICE_CONTROLLED first) a.ice_controlled h.ice_controlled,
      field_is (number w64 ControllingLength) (last_of ICE_CONTROLLING first) a.ice_controlling h.ice_controlling,
      ← h.network_cost,
      ← h.nomination,
      field_is (number w32 FingerprintLength) (last_of FINGERPRINT cs) a.fingerprint h.fingerprint,
    ) refl

-- ---- the demands

some_of : {A : Type 0} (o : Option A) → is_none o ≡ false → IsSome o
some_of None e = absurd (cc)
some_of (Some x) e = refl

none_not : {A : Type 0} (o : Option A) → IsSome o → is_none o ≡ false
none_not None h = absurd (cc)
none_not (Some x) h = refl

demands_met : (m : Message) → demand_fault m ≡ None → HasDemanded m
demands_met m e = record { reply = reply; request = request }
  where
    reply : m.method ≡ methods.Binding → m.class ≡ classes.Success → IsSome m.integrity × IsSome m.attributes.xor_mapped_address
    reply is_binding is_success =
        let named : demand_fault_of methods.Binding classes.Success m ≡ None = subst (λ (x : Class). demand_fault_of methods.Binding x m ≡ None) is_success (subst (λ (x : Method). demand_fault_of x m.class m ≡ None) is_binding e) in
        let integrity = rejected_or _ _ _ named in
        let address = rejected_or _ _ _ integrity.1 in
        (some_of m.integrity integrity.0, some_of m.attributes.xor_mapped_address address.0)

    request : m.method ≡ methods.Binding → m.class ≡ classes.Request → IsSome m.integrity × IsSome (split_username m.attributes) × IsSome m.attributes.priority
    request is_binding is_request =
        let named : demand_fault_of methods.Binding classes.Request m ≡ None = subst (λ (x : Class). demand_fault_of methods.Binding x m ≡ None) is_request (subst (λ (x : Method). demand_fault_of x m.class m ≡ None) is_binding e) in
        let integrity = rejected_or _ _ _ named in
        let username = rejected_or _ _ _ integrity.1 in
        let priority = rejected_or _ _ _ username.1 in
        (some_of m.integrity integrity.0, some_of (split_username m.attributes) username.0, some_of m.attributes.priority priority.0)

none_lacking : (method : Method) (class : Class) (m : Message) → m.method ≡ method → m.class ≡ class → HasDemanded m → demand_fault_of method class m ≡ None
none_lacking methods.Binding classes.Success m is_method is_class h =
    let has = h.reply is_method is_class in rw (none_not m.integrity has.0, none_not m.attributes.xor_mapped_address has.1) refl
none_lacking methods.Binding classes.Request m is_method is_class h =
    let has = h.request is_method is_class in rw (none_not m.integrity has.0, none_not (split_username m.attributes) has.1, none_not m.attributes.priority has.2) refl
none_lacking methods.Binding classes.Indication m is_method is_class h = refl
none_lacking methods.Binding classes.Failure m is_method is_class h = refl
none_lacking methods.Binding classes.Unknown m is_method is_class h = refl
none_lacking methods.Allocate class m is_method is_class h = refl
none_lacking methods.Refresh class m is_method is_class h = refl
none_lacking methods.Send class m is_method is_class h = refl
none_lacking methods.Data class m is_method is_class h = refl
none_lacking methods.CreatePermission class m is_method is_class h = refl
none_lacking methods.ChannelBind class m is_method is_class h = refl
none_lacking methods.Unknown class m is_method is_class h = refl

-- ---- the whole

-- the three parts of no fault
record IsFaultless (bytes : List ℕ) : Type 0 where
  pub header : header_fault bytes ≡ None
  pub attributes : attributes_fault (tlvs_of (body_of bytes)) ≡ None
  pub demands : demand_fault (message_of bytes) ≡ None

faultless : (bytes : List ℕ) → fault_of bytes ≡ None → IsFaultless bytes
unfolding fault_of
faultless bytes e =
    let header = none_parts _ _ e in
    let attributes = none_parts _ _ header.1 in
    record { header = header.0; attributes = attributes.0; demands = attributes.1 }

sound_parts : (cs : List Tlv) → attributes_fault cs ≡ None → AllByRecursion (IsWellFormed false) (up_to_integrity cs) × AllByRecursion (IsWellFormed true) (after_integrity cs)
unfolding attributes_fault
sound_parts cs e =
    let parts = none_parts (first_fault false (up_to_integrity cs)) (first_fault true (after_integrity cs)) e in
    (all_sound false (up_to_integrity cs) parts.0, all_sound true (after_integrity cs) parts.1)

sound_whole : (cs : List Tlv) → AllByRecursion (IsWellFormed false) (up_to_integrity cs) → AllByRecursion (IsWellFormed true) (after_integrity cs) → attributes_fault cs ≡ None
unfolding attributes_fault
sound_whole cs before following =
    ap (λ (o : Option ParseFault). option_or o (first_fault true (after_integrity cs))) (none_wrong false (up_to_integrity cs) before) ∙ none_wrong true (after_integrity cs) following

all_fine : (cs : List Tlv) → AllByRecursion (IsWellFormed false) (up_to_integrity cs) → AllByRecursion (IsWellFormed true) (after_integrity cs) → AllFine cs
all_fine cs before following = (λ code. fine_before code cs before, fine_anywhere cs before following)

message_spelled : (bytes : List ℕ) → IsFaultless bytes → Spells bytes (message_of bytes)
unfolding message_of
message_spelled bytes none =
    let cs : List Tlv = tlvs_of (body_of bytes) in
    let sound = sound_parts cs none.attributes in
    record {
      header = header_spelled bytes none.header;
      before = sound.0;
      following = sound.1;
      method = refl;
      class = refl;
      id = refl;
      attributes = attributes_spelled (id_of bytes) cs (all_fine cs sound.0 sound.1);
      integrity = refl;
      demands = demands_met (message_of bytes) none.demands;
    }

pub reads_spells : (bytes : List ℕ) (m : Message) → Reads bytes m → Spells bytes m
reads_spells bytes m reads = subst (Spells bytes) (sym reads.spelled) (message_spelled bytes (faultless bytes reads.faultless))

message_read : (bytes : List ℕ) (m : Message) → Spells bytes m → m ≡ message_of bytes
unfolding message_of
message_read bytes m h =
    let cs : List Tlv = tlvs_of (body_of bytes) in
    rw (← h.method, ← h.class, ← attributes_read (id_of bytes) cs m.attributes (all_fine cs h.before h.following) h.attributes, ← h.integrity, ← h.id) refl

pub spells_reads : (bytes : List ℕ) (m : Message) → Spells bytes m → Reads bytes m
spells_reads bytes m h =
    let is = message_read bytes m h in
    let demands : demand_fault (message_of bytes) ≡ None = ap demand_fault (sym is) ∙ none_lacking m.method m.class m refl refl h.demands in
    record {
      faultless = fault_of-parts bytes None None None (sym (header_read bytes h.header)) (sym (sound_whole (tlvs_of (body_of bytes)) h.before h.following)) (sym demands);
      spelled = is;
    }

-- A message that was written with a key round-trips.
use Rattle.is_stun.specs.declared.header.Class.TheVariants as classes
use Rattle.is_stun.specs.declared.header.Method.TheVariants as methods
use Rattle.is_stun.proofs.Common.{◌++◌, ◌+◌, ◌<◌, ◌^◌, ◌∙◌, ◌≡◌, ◌≤◌, AllByRecursion, ap, append_assoc, arith, attribute, attributes_fault}
use Rattle.is_stun.proofs.Common.{AttributesRecord, bit_xor, body_len, body_of, Class, class_bits, class_of, crc32, demand_fault}
use Rattle.is_stun.proofs.Common.{demand_fault_of, drop, Err, false, FINGERPRINT_MASK, front_of, HasMacOfRows, HasReadableValues, header}
use Rattle.is_stun.proofs.Common.{header_fault, IfOk, IfSome, Integrity, is_known, is_none, IsCarried, IsChannelNumber, IsClass, IsId}
use Rattle.is_stun.proofs.Common.{IsSignedBy, IsSomeAnd, length, List, ltb-false, Message, message_of, Method, method_bits, method_of, None}
use Rattle.is_stun.proofs.Common.{Ok, OnOk, Option, option_map, plain, plain_address, Reads, ReadsBack, refl, rejection, Result}
use Rattle.is_stun.proofs.Common.{RoundTripsAs, Row, rows_of, rows_rejection, rows_text, SameMessage, sealed, sealed_of, signed_text}
use Rattle.is_stun.proofs.Common.{SocketAddr, Some, split_username, StunError, subst, sym, take, take_at, tlvs_of, to_be_bytes, true}
use Rattle.is_stun.proofs.Common.{value_rejection, w32, WritesOr, written, written_rows, WrittenIsRead, WrittenIsReadAlike, ℕ}
use Rattle.is_stun.proofs.MessageReading.FirstAttribute.{none_parts}
use Rattle.is_stun.proofs.MessageReading.ReadMessages.{fault_of-parts, rejected_or, not_false}
use Rattle.is_stun.proofs.RoundTrips.Rows.{FitsRow, all_plain, sound_in_rows}
use Rattle.is_stun.proofs.RoundTrips.MessageParts.{bytes_of, header_parts, body_is, tail_tlvs, tail_sound, row_attributes, spelled_by}
use Rattle.is_stun.proofs.WrittenMessages.MessagesByParts.{writes_message}
use Rattle.is_stun.proofs.WrittenMessages.PlainAddresses.{rows_plain, written_plain, rejection_plain}
use Rattle.is_stun.proofs.RoundTrips.Attributes.{HasShortValues, short_values, all_trip, rows_fit, attributes_back}

-- ---- what can be written

pub record IsAccepted (key : Option (List ℕ)) (m : Message) : Type 0 where
  pub method : is_known m.method ≡ true
  pub values : HasShortValues m.attributes
  pub short : body_len key (rows_of m.id m.attributes) ≤ 65535

pub accepted : (key : Option (List ℕ)) (room : ℕ) (m : Message) → rejection key room m ≡ None → IsAccepted key m
unfolding rejection value_rejection
accepted key room m e =
    let parts = none_parts (value_rejection m) (rows_rejection key room (rows_of m.id m.attributes)) e in
    let method = rejected_or _ _ _ parts.0 in
    let long = rejected_or _ _ _ method.1 in
    let code = rejected_or _ _ _ long.1 in
    let size = rejected_or _ _ _ parts.1 in
    record {
      method = not_false _ method.0;
      values = short_values m.attributes long.0 code.0;
      short = ltb-false 65535 _ size.0;
    }

-- ---- the type

pub record IsType (method : Method) (class : Class) : Type 0 where
  pub method_back : method_of (class_bits class + method_bits method) ≡ method
  pub class_back : class_of (class_bits class + method_bits method) ≡ class
  pub fits : class_bits class + method_bits method < 2 ^ 16

pub type_back : (method : Method) (class : Class) → is_known method ≡ true → IsClass class → IsType method class
type_back methods.Binding classes.Request known is_class = record { method_back = refl; class_back = refl; fits = omega arith }
type_back methods.Binding classes.Indication known is_class = record { method_back = refl; class_back = refl; fits = omega arith }
type_back methods.Binding classes.Success known is_class = record { method_back = refl; class_back = refl; fits = omega arith }
type_back methods.Binding classes.Failure known is_class = record { method_back = refl; class_back = refl; fits = omega arith }
type_back methods.Binding classes.Unknown known is_class = absurd (is_class)
type_back methods.Allocate classes.Request known is_class = record { method_back = refl; class_back = refl; fits = omega arith }
type_back methods.Allocate classes.Indication known is_class = record { method_back = refl; class_back = refl; fits = omega arith }
type_back methods.Allocate classes.Success known is_class = record { method_back = refl; class_back = refl; fits = omega arith }
type_back methods.Allocate classes.Failure known is_class = record { method_back = refl; class_back = refl; fits = omega arith }
type_back methods.Allocate classes.Unknown known is_class = absurd (is_class)
type_back methods.Refresh classes.Request known is_class = record { method_back = refl; class_back = refl; fits = omega arith }
type_back methods.Refresh classes.Indication known is_class = record { method_back = refl; class_back = refl; fits = omega arith }
type_back methods.Refresh classes.Success known is_class = record { method_back = refl; class_back = refl; fits = omega arith }
type_back methods.Refresh classes.Failure known is_class = record { method_back = refl; class_back = refl; fits = omega arith }
type_back methods.Refresh classes.Unknown known is_class = absurd (is_class)
type_back methods.Send classes.Request known is_class = record { method_back = refl; class_back = refl; fits = omega arith }
type_back methods.Send classes.Indication known is_class = record { method_back = refl; class_back = refl; fits = omega arith }
type_back methods.Send classes.Success known is_class = record { method_back = refl; class_back = refl; fits = omega arith }
type_back methods.Send classes.Failure known is_class = record { method_back = refl; class_back = refl; fits = omega arith }
type_back methods.Send classes.Unknown known is_class = absurd (is_class)
type_back methods.Data classes.Request known is_class = record { method_back = refl; class_back = refl; fits = omega arith }
type_back methods.Data classes.Indication known is_class = record { method_back = refl; class_back = refl; fits = omega arith }
type_back methods.Data classes.Success known is_class = record { method_back = refl; class_back = refl; fits = omega arith }
type_back methods.Data classes.Failure known is_class = record { method_back = refl; class_back = refl; fits = omega arith }
type_back methods.Data classes.Unknown known is_class = absurd (is_class)
type_back methods.CreatePermission classes.Request known is_class = record { method_back = refl; class_back = refl; fits = omega arith }
type_back methods.CreatePermission classes.Indication known is_class = record { method_back = refl; class_back = refl; fits = omega arith }
type_back methods.CreatePermission classes.Success known is_class = record { method_back = refl; class_back = refl; fits = omega arith }
type_back methods.CreatePermission classes.Failure known is_class = record { method_back = refl; class_back = refl; fits = omega arith }
type_back methods.CreatePermission classes.Unknown known is_class = absurd (is_class)
type_back methods.ChannelBind classes.Request known is_class = record { method_back = refl; class_back = refl; fits = omega arith }
type_back methods.ChannelBind classes.Indication known is_class = record { method_back = refl; class_back = refl; fits = omega arith }
type_back methods.ChannelBind classes.Success known is_class = record { method_back = refl; class_back = refl; fits = omega arith }
type_back methods.ChannelBind classes.Failure known is_class = record { method_back = refl; class_back = refl; fits = omega arith }
type_back methods.ChannelBind classes.Unknown known is_class = absurd (is_class)
type_back methods.Unknown class known is_class = absurd (cc)

-- ---- the demands

demand_by : (method : Method) (class : Class) (a b : Message) → is_none a.integrity ≡ is_none b.integrity → record a.attributes { fingerprint = None } ≡ record b.attributes { fingerprint = None }
    → demand_fault_of method class a ≡ demand_fault_of method class b
demand_by methods.Binding classes.Success a b integrity same =
    rw (integrity, ap (λ (x : AttributesRecord). is_none x.xor_mapped_address) same) refl
demand_by methods.Binding classes.Request a b integrity same =
    rw (integrity, ap (λ (x : AttributesRecord). is_none (split_username x)) same, ap (λ (x : AttributesRecord). is_none x.priority) same) refl
demand_by methods.Binding classes.Indication a b integrity same = refl
demand_by methods.Binding classes.Failure a b integrity same = refl
demand_by methods.Binding classes.Unknown a b integrity same = refl
demand_by methods.Allocate class a b integrity same = refl
demand_by methods.Refresh class a b integrity same = refl
demand_by methods.Send class a b integrity same = refl
demand_by methods.Data class a b integrity same = refl
demand_by methods.CreatePermission class a b integrity same = refl
demand_by methods.ChannelBind class a b integrity same = refl
demand_by methods.Unknown class a b integrity same = refl

demand_same : (a b : Message) → a.method ≡ b.method → a.class ≡ b.class → is_none a.integrity ≡ is_none b.integrity → record a.attributes { fingerprint = None } ≡ record b.attributes { fingerprint = None }
    → demand_fault a ≡ demand_fault b
demand_same a b method class integrity same =
    ap (λ (x : Method). demand_fault_of x a.class a) method
    ∙ ap (λ (x : Class). demand_fault_of b.method x a) class
    ∙ demand_by b.method b.class a b integrity same

-- ---- the whole

-- what is written of rows, by its parts
written_is : (mac : List ℕ → List ℕ → List ℕ) (key : List ℕ) (typ : ℕ) (id : List ℕ) (rows : List Row)
    → let front = header typ (body_len (Some key) rows) id ++ rows_text rows in
    (fingerprint : List ℕ) × (length fingerprint ≡ 4)
    × (written_rows mac (Some key) typ id rows ≡ bytes_of typ (body_len (Some key) rows) id rows (mac key (signed_text front (length (rows_text rows) + 24))) fingerprint)
unfolding written_rows sealed_of front_of bytes_of
written_is mac key typ id rows =
    let head : List ℕ = header typ (body_len (Some key) rows) id in
    let front : List ℕ = head ++ rows_text rows in
    let sign : List ℕ = attribute 8 (mac key (signed_text front (length (rows_text rows) + 24))) in
    let fingerprint : List ℕ = to_be_bytes w32 (bit_xor (crc32 (front ++ sign)) FINGERPRINT_MASK) in
    (fingerprint, refl, append_assoc front sign (attribute 0x8028 fingerprint) ∙ append_assoc head (rows_text rows) (sign ++ attribute 0x8028 fingerprint))

-- the text that the MAC of a message is of, by its rows
abbrev pub text_of_rows : List ℕ → Message → List Row → List ℕ
text_of_rows key m rows =
    signed_text (header (class_bits m.class + method_bits m.method) (body_len (Some key) rows) m.id ++ rows_text rows) (length (rows_text rows) + 24)

abbrev pub text_of_mac : List ℕ → Message → List ℕ
text_of_mac key m = text_of_rows key m (rows_of m.id m.attributes)

-- what the bytes of a message are read as, except what a reader demands
pub record IsBack (mac : List ℕ → List ℕ → List ℕ) (key bytes : List ℕ) (m : Message) : Type 0 where
  pub header : header_fault bytes ≡ None
  pub sound : attributes_fault (tlvs_of (body_of bytes)) ≡ None
  pub same : SameMessage (message_of bytes) m
  pub sealed : is_none (message_of bytes).integrity ≡ false
  pub signed : IsSignedBy mac (message_of bytes) key

-- rows that say what the message says come back as the message
pub rows_come_back : (mac : List ℕ → List ℕ → List ℕ) (key : List ℕ) (m : Message) (rows : List Row) → length (mac key (text_of_rows key m rows)) ≡ 20
    → IsType m.method m.class → IsId m.id → body_len (Some key) rows < 2 ^ 16 → AllByRecursion FitsRow rows → row_attributes m.id rows ≡ record m.attributes { fingerprint = None }
    → IsBack mac key (written_rows mac (Some key) (class_bits m.class + method_bits m.method) m.id rows) m
rows_come_back mac key m rows mac_len type_is id_is short fits says =
    let len : ℕ = body_len (Some key) rows in
    let typ : ℕ = class_bits m.class + method_bits m.method in
    let sign : List ℕ = mac key (text_of_rows key m rows) in
    let made = written_is mac key typ m.id rows in
    let bytes : List ℕ = bytes_of typ len m.id rows sign made.0 in
    let is : written_rows mac (Some key) typ m.id rows ≡ bytes = made.2 in
    let head = header_parts typ len m.id rows sign made.0 type_is.fits short id_is.0 mac_len made.1 refl in
    let body = body_is typ len m.id rows sign made.0 id_is.0 (all_plain rows fits) mac_len made.1 in
    let spelled = spelled_by typ len m.id rows sign made.0 type_is.fits short id_is.0 mac_len made.1 refl fits in
    subst (λ (x : List ℕ). IsBack mac key x m) (sym is) (record {
      header = head.0;
      sound = ap attributes_fault body ∙ sound_in_rows 0 rows (tail_tlvs (length (rows_text rows)) sign made.0) fits (tail_sound (length (rows_text rows)) sign made.0 mac_len made.1);
      same = record { method = spelled.0 ∙ type_is.method_back; class = spelled.1 ∙ type_is.class_back; id = spelled.2; attributes = spelled.3 ∙ says };
      sealed = ap is_none spelled.4;
      signed = subst (λ (o : Option Integrity). IsSomeAnd o (λ s. s.mac ≡ mac key s.text)) (sym spelled.4) refl;
    })

comes_back : (mac : List ℕ → List ℕ → List ℕ) (key : List ℕ) (m : Message) → length (mac key (text_of_mac key m)) ≡ 20 → (room : ℕ) → rejection (Some key) room m ≡ None → IsCarried m
    → IsBack mac key (written mac (Some key) m) m
unfolding written
comes_back mac key m mac_len room not_refused ok =
    let rows : List Row = rows_of m.id m.attributes in
    let fine = accepted (Some key) room m not_refused in
    let trips = all_trip m.id m.attributes ok.id fine.values ok.values in
    rows_come_back mac key m rows mac_len (type_back m.method m.class fine.method ok.class) ok.id (omega (arith, fine.short)) (rows_fit m.id m.attributes trips) (attributes_back m.id m.attributes trips)

-- bytes that come back are read, where the demands are met
read_back : (mac : List ℕ → List ℕ → List ℕ) (key bytes : List ℕ) (m : Message) → IsBack mac key bytes m → demand_fault (sealed m) ≡ None → ReadsBack mac key bytes m
read_back mac key bytes m back demands =
    let demand : demand_fault (message_of bytes) ≡ None = demand_same (message_of bytes) (sealed m) back.same.method back.same.class back.sealed back.same.attributes ∙ demands in
    record {
      read = message_of bytes;
      reads = record { faultless = fault_of-parts bytes None None None (sym back.header) (sym back.sound) (sym demand); spelled = refl };
      same = back.same;
      signed = back.signed;
    }

-- and are read as no other message
read_alike : (mac : List ℕ → List ℕ → List ℕ) (key bytes : List ℕ) (m : Message) → IsBack mac key bytes m → (n : Message) → Reads bytes n → SameMessage n m
read_alike mac key bytes m back n reads = subst (λ (x : Message). SameMessage x m) (sym reads.spelled) back.same

pub written_is_read : (mac : List ℕ → List ℕ → List ℕ) (key : List ℕ) (m : Message) → WrittenIsRead mac key m
written_is_read mac key m mac_len room not_refused ok =
    let back = comes_back mac key m (mac_len key (text_of_mac key m)) room not_refused (record { class = ok.class; id = ok.id; values = ok.values }) in
    read_back mac key (written mac (Some key) m) m back ok.demands

pub written_is_read_alike : (mac : List ℕ → List ℕ → List ℕ) (key : List ℕ) (m : Message) → WrittenIsReadAlike mac key m
written_is_read_alike mac key m mac_len room not_refused ok =
    read_alike mac key (written mac (Some key) m) m (comes_back mac key m (mac_len key (text_of_mac key m)) room not_refused ok)

-- ---- what the writer itself knows

-- a reader demands nothing of flow and scope
some_anyway : (o : Option SocketAddr) → is_none (option_map plain_address o) ≡ is_none o
some_anyway None = refl
some_anyway (Some a) = refl

demands_of : (method : Method) (class : Class) (m : Message) → demand_fault_of method class (sealed (plain m)) ≡ demand_fault_of method class (sealed m)
demands_of methods.Binding classes.Success m = rw (some_anyway m.attributes.xor_mapped_address) refl
demands_of methods.Binding classes.Request m = refl
demands_of methods.Binding classes.Indication m = refl
demands_of methods.Binding classes.Failure m = refl
demands_of methods.Binding classes.Unknown m = refl
demands_of methods.Allocate class m = refl
demands_of methods.Refresh class m = refl
demands_of methods.Send class m = refl
demands_of methods.Data class m = refl
demands_of methods.CreatePermission class m = refl
demands_of methods.ChannelBind class m = refl
demands_of methods.Unknown class m = refl

-- what was written reads as the message, by the one text that was signed
pub round_trips : (mac : List ℕ → List ℕ → List ℕ) (key : List ℕ) (m : Message) → length (mac key (text_of_mac key m)) ≡ 20 → (room : ℕ) → rejection (Some key) room m ≡ None
    → IsId m.id → (IfSome m.attributes.channel_number IsChannelNumber → HasReadableValues (plain m).attributes) → RoundTripsAs mac key (written mac (Some key) m) m
round_trips mac key m mac_len room not_refused id values class channel =
    let ok : IsCarried (plain m) = record { class = class; id = id; values = values channel } in
    let signs : length (mac key (text_of_mac key (plain m))) ≡ 20 = ap (λ (rows : List Row). length (mac key (text_of_rows key m rows))) (sym (rows_plain m)) ∙ mac_len in
    let back = subst (λ (x : List ℕ). IsBack mac key x (plain m)) (sym (written_plain mac (Some key) m)) (comes_back mac key (plain m) signs room (sym (rejection_plain (Some key) room m) ∙ not_refused) ok) in
    record {
      put = record { values = record { id = id; values = values channel }; reads = read_alike mac key (written mac (Some key) m) (plain m) back };
      back = λ demands. read_back mac key (written mac (Some key) m) (plain m) back (demands_of m.method m.class m ∙ demands);
    }

-- so the bytes in the buffer read as the message
bytes_by : (r : Result ℕ StunError) (old new : List ℕ) (mac : List ℕ → List ℕ → List ℕ) (key : Option (List ℕ)) (m : Message) → WritesOr r old new (rejection key (length old) m) (written mac key m)
    → OnOk r (HasMacOfRows mac key (class_bits m.class + method_bits m.method) m.id (rows_of m.id m.attributes))
    → IsId m.id → (IfSome m.attributes.channel_number IsChannelNumber → HasReadableValues (plain m).attributes) → IfOk r (λ len. IfSome key (λ k. RoundTripsAs mac k (take len new) m))
unfolding front_of
bytes_by (Err e) old new mac key m writes signs id values = tt
bytes_by (Ok n) old new mac None m writes signs id values = tt
bytes_by (Ok n) old new mac (Some k) m writes signs id values =
    let front : take n new ≡ written mac (Some k) m = ap (take n) writes.2 ∙ take_at (written mac (Some k) m) (drop n old) n (sym writes.1) in
    subst (λ (x : List ℕ). RoundTripsAs mac k x m) (sym front) (round_trips mac k m signs (length old) writes.0 id values)

pub bytes_round_trip : (r : Result ℕ StunError) (old new : List ℕ) (mac : List ℕ → List ℕ → List ℕ) (key : Option (List ℕ)) (m : Message) (typ : ℕ) (rows : List Row)
    → None ≡ value_rejection m → rows ≡ rows_of m.id m.attributes → typ ≡ class_bits m.class + method_bits m.method
    → WritesOr r old new (rows_rejection key (length old) rows) (written_rows mac key typ m.id rows) → OnOk r (HasMacOfRows mac key typ m.id rows)
    → IsId m.id → (IfSome m.attributes.channel_number IsChannelNumber → HasReadableValues (plain m).attributes) → IfOk r (λ len. IfSome key (λ k. RoundTripsAs mac k (take len new) m))
bytes_round_trip r old new mac key m typ rows none rows-is typ-is writes signs id values =
    let by_rows : OnOk r (HasMacOfRows mac key typ m.id (rows_of m.id m.attributes)) = subst (λ (x : List Row). OnOk r (HasMacOfRows mac key typ m.id x)) rows-is signs in
    let by_type = subst (λ (n : ℕ). OnOk r (HasMacOfRows mac key n m.id (rows_of m.id m.attributes))) typ-is by_rows in
    bytes_by r old new mac key m (writes_message r old new mac key m typ rows none rows-is typ-is writes) by_type id values

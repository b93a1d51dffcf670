-- A message that was written with a key round-trips.
use Rattle.is_stun.proofs.Common.{[], ◌%◌, ◌++◌, ◌+◌, ◌<◌, ◌^◌, ◌∙◌, ◌∷◌, ◌≡◌, ◌≤◌, address_in, AllByRecursion, ap, append-nil}
use Rattle.is_stun.proofs.Common.{append_assoc, arith, attribute, attribute_len, attributes_fault, attributes_of, AttributesRecord}
use Rattle.is_stun.proofs.Common.{before_integrity, body_of, bytes_of_len, channel_number, class_of, ControlledLength, ControllingLength}
use Rattle.is_stun.proofs.Common.{drop, drop_at, eq-eqb, error_code, false, first_fault, first_integrity, from_be_bytes-to_be_bytes_2}
use Rattle.is_stun.proofs.Common.{header, header_fault, integrity_of, is_some, IsPlainRow, last_of, le-ltb, length, length-append}
use Rattle.is_stun.proofs.Common.{length_field, LifetimeLength, List, MAGIC, magic_of, message_of, method_of, network_cost, nomination}
use Rattle.is_stun.proofs.Common.{None, number, Option, option_and_then, option_map, optional_attribute, PriorityLength, refl, Row}
use Rattle.is_stun.proofs.Common.{row_text, rows_text, signed_text, Some, sym, take, take_at, text, TEXT_LIMIT, Tlv, tlvs_after, tlvs_of}
use Rattle.is_stun.proofs.Common.{true, type_of, UseCandidateLength, USERNAME_LIMIT, value_fault, value_in, w32, w64, ℕ}
use Rattle.is_stun.proofs.MessageReading.AttributeSequence.{tlvs_short}
use Rattle.is_stun.proofs.MessageReading.FirstAttribute.{attributes_fault-cons, first_integrity-here, before_integrity-here}
use Rattle.is_stun.proofs.WrittenMessages.ConsecutiveRows.{attribute_length, header_length}
use Rattle.is_stun.proofs.RoundTrips.Rows.{tlv_of, tlvs_of_rows, FitsRow, all_plain, tlvs-attribute, rows_are_tlvs, first_in_rows}
use Rattle.is_stun.proofs.RoundTrips.Rows.{last_in_rows, fault_at-written, last_row}

-- the bytes of a message by its parts
unfoldable pub bytes_of : ℕ → ℕ → List ℕ → List Row → List ℕ → List ℕ → List ℕ
bytes_of typ len id rows mac fingerprint = header typ len id ++ (rows_text rows ++ (attribute 8 mac ++ attribute 0x8028 fingerprint))

-- the attributes that they are read as
abbrev pub tail_tlvs : ℕ → List ℕ → List ℕ → List Tlv
tail_tlvs place mac fingerprint = tlv_of place 8 mac ∷ tlv_of (place + 24) 0x8028 fingerprint ∷ []

tail_is : (place : ℕ) (mac fingerprint : List ℕ) → length mac ≡ 20 → length fingerprint ≡ 4 → tlvs_after 0 place (attribute 8 mac ++ attribute 0x8028 fingerprint) ≡ tail_tlvs place mac fingerprint
tail_is place mac fingerprint mac_len fp_len =
    let at : place + attribute_len (length mac) ≡ place + 24 = ap (λ (n : ℕ). place + attribute_len n) mac_len in
    tlvs-attribute place 8 mac (attribute 0x8028 fingerprint) (omega arith) (omega (arith, mac_len))
    ∙ ap (λ (p : ℕ). tlv_of place 8 mac ∷ tlvs_after 0 p (attribute 0x8028 fingerprint)) at
    ∙ ap (λ (t : List ℕ). tlv_of place 8 mac ∷ tlvs_after 0 (place + 24) t) (sym (append-nil (attribute 0x8028 fingerprint)))
    ∙ ap (λ (cs : List Tlv). tlv_of place 8 mac ∷ cs) (tlvs-attribute (place + 24) 0x8028 fingerprint [] (omega arith) (omega (arith, fp_len)))
    ∙ ap (λ (cs : List Tlv). tlv_of place 8 mac ∷ tlv_of (place + 24) 0x8028 fingerprint ∷ cs) (tlvs_short _ [] (omega arith))

-- the attributes of a body of rows, and of what follows them
pub body_of_rows : (typ len : ℕ) (id : List ℕ) (rows : List Row) (rest : List ℕ) (cs : List Tlv) → length id ≡ 12 → AllByRecursion IsPlainRow rows → tlvs_after 0 (length (rows_text rows)) rest ≡ cs
    → tlvs_of (body_of (header typ len id ++ (rows_text rows ++ rest))) ≡ tlvs_of_rows 0 rows cs
body_of_rows typ len id rows rest cs id_len plain e =
    let head_len : length (header typ len id) ≡ 20 = omega (arith, header_length typ len id, id_len) in
    ap (tlvs_after 0 0) (drop_at (header typ len id) (rows_text rows ++ rest) 20 head_len)
    ∙ rows_are_tlvs 0 rows rest cs plain (ap (λ (p : ℕ). tlvs_after 0 p rest) (omega arith) ∙ e)

pub body_is : (typ len : ℕ) (id : List ℕ) (rows : List Row) (mac fingerprint : List ℕ) → length id ≡ 12 → AllByRecursion IsPlainRow rows → length mac ≡ 20 → length fingerprint ≡ 4
    → tlvs_of (body_of (bytes_of typ len id rows mac fingerprint)) ≡ tlvs_of_rows 0 rows (tail_tlvs (length (rows_text rows)) mac fingerprint)
unfolding bytes_of
body_is typ len id rows mac fingerprint id_len plain mac_len fp_len =
    body_of_rows typ len id rows (attribute 8 mac ++ attribute 0x8028 fingerprint) (tail_tlvs (length (rows_text rows)) mac fingerprint) id_len plain
    (tail_is (length (rows_text rows)) mac fingerprint mac_len fp_len)

-- a value of four bytes is no fault of a fingerprint, and one of 20 none of an integrity
fingerprint_sound : (v : List ℕ) → length v ≡ 4 → value_fault 0x8028 v ≡ None
unfolding value_fault
fingerprint_sound v len = rw (eq-eqb (length v) 4 len) refl

integrity_sound : (v : List ℕ) → length v ≡ 20 → value_fault 8 v ≡ None
unfolding value_fault
integrity_sound v len = rw (eq-eqb (length v) 20 len) refl

pub tail_sound : (place : ℕ) (mac fingerprint : List ℕ) → length mac ≡ 20 → length fingerprint ≡ 4 → attributes_fault (tail_tlvs place mac fingerprint) ≡ None
unfolding first_fault
tail_sound place mac fingerprint mac_len fp_len =
    attributes_fault-cons true (tlv_of (place + 24) 0x8028 fingerprint ∷ []) (tlv_of place 8 mac) refl
    ∙ rw (fault_at-written false place 8 mac (integrity_sound mac mac_len), fault_at-written true (place + 24) 0x8028 fingerprint (fingerprint_sound fingerprint fp_len)) refl

-- ---- the header

header_sound : (bytes : List ℕ) → 4 ≤ length bytes → length_field bytes % 4 ≡ 0 → length_field bytes + 20 ≡ length bytes → magic_of bytes ≡ MAGIC → header_fault bytes ≡ None
unfolding header_fault
header_sound bytes long even whole magic =
    rw (le-ltb _ _ long, eq-eqb (length_field bytes % 4) 0 even, eq-eqb (length_field bytes + 20) (length bytes) whole, eq-eqb (magic_of bytes) MAGIC magic) refl

row_even : (r : Row) (v : Option (List ℕ)) → r.value ≡ v → length (row_text r) % 4 ≡ 0
row_even r None e = ap (λ (o : Option (List ℕ)). length (optional_attribute r.code o) % 4) e
row_even r (Some v) e = ap (λ (o : Option (List ℕ)). length (optional_attribute r.code o) % 4) e ∙ omega (arith, attribute_length r.code v)

pub rows_even : (rows : List Row) → length (rows_text rows) % 4 ≡ 0
unfolding rows_text
rows_even [] = refl
rows_even (r ∷ rs) = omega (arith, length-append (row_text r) (rows_text rs), row_even r r.value refl, rows_even rs)

pub header_parts : (typ len : ℕ) (id : List ℕ) (rows : List Row) (mac fingerprint : List ℕ) → typ < 2 ^ 16 → len < 2 ^ 16 → length id ≡ 12 → length mac ≡ 20 → length fingerprint ≡ 4
    → len ≡ length (rows_text rows) + 24 + 8
    → (header_fault (bytes_of typ len id rows mac fingerprint) ≡ None) × (type_of (bytes_of typ len id rows mac fingerprint) ≡ typ) × (take 12 (drop 8 (bytes_of typ len id rows mac fingerprint)) ≡ id)
unfolding bytes_of header
header_parts typ len id rows mac fingerprint typ_fits len_fits id_len mac_len fp_len len_is =
    let tail : List ℕ = rows_text rows ++ (attribute 8 mac ++ attribute 0x8028 fingerprint) in
    let field : length_field (bytes_of typ len id rows mac fingerprint) ≡ len = from_be_bytes-to_be_bytes_2 len len_fits in
    let tail_len : length tail ≡ len =
    omega (
      arith,
      length-append (rows_text rows) (attribute 8 mac ++ attribute 0x8028 fingerprint),
      length-append (attribute 8 mac) (attribute 0x8028 fingerprint),
      attribute_length 8 mac,
      attribute_length 0x8028 fingerprint,
      mac_len,
      fp_len,
      len_is,
    ) in
    let whole : length (bytes_of typ len id rows mac fingerprint) ≡ 20 + len = omega (arith, length-append (header typ len id) tail, header_length typ len id, id_len, tail_len) in (
      header_sound (bytes_of typ len id rows mac fingerprint) (omega (arith, whole)) (ap (λ (n : ℕ). n % 4) field ∙ omega (arith, len_is, rows_even rows)) (omega (arith, field, whole)) refl,
      from_be_bytes-to_be_bytes_2 typ typ_fits,
      take_at id tail 12 id_len,
    )

-- ---- the message

front_is : (typ len : ℕ) (id : List ℕ) (rows : List Row) (mac fingerprint : List ℕ) → length id ≡ 12 → take (20 + length (rows_text rows)) (bytes_of typ len id rows mac fingerprint) ≡ header typ len id ++ rows_text rows
unfolding bytes_of
front_is typ len id rows mac fingerprint id_len =
    ap (take (20 + length (rows_text rows))) (sym (append_assoc (header typ len id) (rows_text rows) (attribute 8 mac ++ attribute 0x8028 fingerprint)))
    ∙ take_at (header typ len id ++ rows_text rows) (attribute 8 mac ++ attribute 0x8028 fingerprint) (20 + length (rows_text rows))
    (omega (arith, length-append (header typ len id) (rows_text rows), header_length typ len id, id_len))

-- the attributes that rows have
abbrev pub row_attributes : List ℕ → List Row → AttributesRecord
row_attributes id rows =
    record {
      username = value_in (text USERNAME_LIMIT) (last_row 6 rows);
      error_code = value_in error_code (last_row 9 rows);
      channel_number = value_in channel_number (last_row 0x0C rows);
      lifetime = value_in (number w32 LifetimeLength) (last_row 0x0D rows);
      xor_peer_address = value_in (address_in id) (last_row 0x12 rows);
      «data» = last_row 0x13 rows;
      realm = value_in (text TEXT_LIMIT) (last_row 0x14 rows);
      nonce = value_in (text TEXT_LIMIT) (last_row 0x15 rows);
      xor_relayed_address = value_in (address_in id) (last_row 0x16 rows);
      xor_mapped_address = value_in (address_in id) (last_row 0x20 rows);
      software = value_in (text TEXT_LIMIT) (last_row 0x22 rows);
      priority = value_in (number w32 PriorityLength) (last_row 0x24 rows);
      use_candidate = is_some (value_in (bytes_of_len 0 UseCandidateLength) (last_row 0x25 rows));
      ice_controlled = value_in (number w64 ControlledLength) (last_row 0x8029 rows);
      ice_controlling = value_in (number w64 ControllingLength) (last_row 0x802A rows);
      network_cost = option_and_then network_cost (last_row 0xC057 rows);
      nomination = option_and_then nomination (last_row 0xC001 rows);
      fingerprint = None;
    }

pub attributes_by : (id : List ℕ) (rows : List Row) (cs : List Tlv) → ((code : ℕ) → last_of code (before_integrity cs) ≡ last_row code rows) → record (attributes_of id cs) { fingerprint = None } ≡ row_attributes id rows
unfolding attributes_of
attributes_by id rows cs h =
    rw (h 6, h 9, h 0x0C, h 0x0D, h 0x12, h 0x13, h 0x14, h 0x15, h 0x16, h 0x20, h 0x22, h 0x24, h 0x25, h 0x8029, h 0x802A, h 0xC057, h 0xC001) refl

-- what the bytes of rows spell
pub spelled_by : (typ len : ℕ) (id : List ℕ) (rows : List Row) (mac fingerprint : List ℕ) → typ < 2 ^ 16 → len < 2 ^ 16 → length id ≡ 12 → length mac ≡ 20 → length fingerprint ≡ 4
    → len ≡ length (rows_text rows) + 24 + 8 → AllByRecursion FitsRow rows
    → let m = message_of (bytes_of typ len id rows mac fingerprint) in
    (m.method ≡ method_of typ) × (m.class ≡ class_of typ) × (m.id ≡ id) × (record m.attributes { fingerprint = None } ≡ row_attributes id rows)
    × (m.integrity ≡ Some (record { mac = mac; text = signed_text (header typ len id ++ rows_text rows) (length (rows_text rows) + 24) }))
unfolding message_of
spelled_by typ len id rows mac fingerprint typ_fits len_fits id_len mac_len fp_len len_is fits =
    let bytes : List ℕ = bytes_of typ len id rows mac fingerprint in
    let p : ℕ = length (rows_text rows) in
    let head = header_parts typ len id rows mac fingerprint typ_fits len_fits id_len mac_len fp_len len_is in
    let body = body_is typ len id rows mac fingerprint id_len (all_plain rows fits) mac_len fp_len in
    let found : first_integrity (tlvs_of (body_of bytes)) ≡ Some (tlv_of p 8 mac) =
    ap first_integrity body ∙ first_in_rows 0 rows (tail_tlvs p mac fingerprint) (tlv_of p 8 mac) fits (first_integrity-here _ _ (tlv_of p 8 mac) refl refl) in
    let front : take (20 + p) bytes ≡ header typ len id ++ rows_text rows = front_is typ len id rows mac fingerprint id_len in (
      ap method_of head.1,
      ap class_of head.1,
      head.2,
      ap (λ (x : List ℕ). record (attributes_of x (tlvs_of (body_of bytes))) { fingerprint = None }) head.2
          ∙ ap (λ (cs : List Tlv). record (attributes_of id cs) { fingerprint = None }) body
          ∙ attributes_by id rows (tlvs_of_rows 0 rows (tail_tlvs p mac fingerprint)) (λ code. last_in_rows code 0 rows (tail_tlvs p mac fingerprint) fits (before_integrity-here _ _ (tlv_of p 8 mac) refl refl)),
      ap (option_map (integrity_of bytes)) found ∙ ap (λ (f : List ℕ). Some (record { mac = mac; text = signed_text f (p + 24) })) front,
    )

-- The attributes of a message that was written round-trip.
use Rattle.is_stun.proofs.Common.{◌<◌, ◌^◌, ◌||◌, ◌∙◌, ◌≡◌, ◌≤◌, address_fault, address_in, AllByRecursion, ap, arith, AttributesRecord}
use Rattle.is_stun.proofs.Common.{Bool, bytes_of_len, channel_number, channel_value, cond, ControlledLength, ControllingLength, DATA_LIMIT}
use Rattle.is_stun.proofs.Common.{Err, error_code, error_value, false, fault_in, has_long_value, HasReadableValues, if_set, IfSome}
use Rattle.is_stun.proofs.Common.{is_bad_code, is_ipv4_value, is_ipv6_value, is_longer, is_some, IsId, IsUtf8, length, LifetimeLength, List}
use Rattle.is_stun.proofs.Common.{ltb, ltb-false, network_cost, network_cost_value, nomination, None, number, Ok, Option, option_and_then}
use Rattle.is_stun.proofs.Common.{option_map, PriorityLength, refl, Row, rows_of, Some, text, TEXT_LIMIT, to_be_bytes, true}
use Rattle.is_stun.proofs.Common.{UseCandidateLength, USERNAME_LIMIT, value_fault, value_in, w32, w64, WRITTEN_TEXT_LIMIT}
use Rattle.is_stun.proofs.Common.{WRITTEN_USERNAME_LIMIT, xor_address, XorAddress, ℕ}
use Rattle.is_stun.proofs.MessageReading.FirstAttribute.{option_or-none}
use Rattle.is_stun.proofs.RoundTrips.Rows.{FitsRow, last_row}
use Rattle.is_stun.proofs.RoundTrips.MessageParts.{row_attributes}
use Rattle.is_stun.proofs.RoundTrips.XorAddresses.{address_trips}
use Rattle.is_stun.proofs.RoundTrips.ValuesByKind.{Trips, text_trips, u32_trips, u64_trips, channel_trips, error_trips, if_both, if_all}
use Rattle.is_stun.proofs.RoundTrips.ValuesByKind.{fits_row, comes_back, text_fits, text_back, data_fits, flag_fits, flag_back, cost_fits}
use Rattle.is_stun.proofs.RoundTrips.ValuesByKind.{cost_back, nomination_fits, nomination_back}

-- ---- values that are written

-- what is known of values that can be written
pub record HasShortValues (a : AttributesRecord) : Type 0 where
  pub username : IfSome a.username (λ t. length t ≤ WRITTEN_USERNAME_LIMIT)
  pub realm : IfSome a.realm (λ t. length t ≤ WRITTEN_TEXT_LIMIT)
  pub nonce : IfSome a.nonce (λ t. length t ≤ WRITTEN_TEXT_LIMIT)
  pub software : IfSome a.software (λ t. length t ≤ WRITTEN_TEXT_LIMIT)
  pub reason : IfSome a.error_code (λ e. length e.1 ≤ WRITTEN_TEXT_LIMIT)
  pub bytes : IfSome a.«data» (λ v. length v ≤ DATA_LIMIT)
  pub code : IfSome a.error_code (λ e. (300 ≤ e.0) × (e.0 ≤ 699))

or_parts : (b c : Bool) → (b || c) ≡ false → (b ≡ false) × (c ≡ false)
or_parts true c e = absurd (cc)
or_parts false c e = (refl, e)

short_by : (limit : ℕ) (o : Option (List ℕ)) → is_longer limit o ≡ false → IfSome o (λ v. length v ≤ limit)
short_by limit None e = tt
short_by limit (Some v) e = ltb-false limit (length v) e

short_reason : (o : Option (ℕ × List ℕ)) → is_longer WRITTEN_TEXT_LIMIT (option_map (λ e. e.1) o) ≡ false → IfSome o (λ e. length e.1 ≤ WRITTEN_TEXT_LIMIT)
short_reason None e = tt
short_reason (Some x) e = ltb-false WRITTEN_TEXT_LIMIT (length x.1) e

good_code : (o : Option (ℕ × List ℕ)) → is_bad_code o ≡ false → IfSome o (λ e. (300 ≤ e.0) × (e.0 ≤ 699))
good_code None e = tt
good_code (Some x) e = let parts = or_parts (ltb x.0 300) (ltb 699 x.0) e in (ltb-false x.0 300 parts.0, ltb-false 699 x.0 parts.1)

pub short_values : (a : AttributesRecord) → has_long_value a ≡ false → is_bad_code a.error_code ≡ false → HasShortValues a
short_values a short code =
    let p = or_parts _ _ short in
    let q = or_parts _ _ p.0 in
    let r = or_parts _ _ q.0 in
    let s = or_parts _ _ r.0 in
    let t = or_parts _ _ s.0 in
    record {
      username = short_by WRITTEN_USERNAME_LIMIT a.username t.0;
      realm = short_by WRITTEN_TEXT_LIMIT a.realm t.1;
      nonce = short_by WRITTEN_TEXT_LIMIT a.nonce s.1;
      software = short_by WRITTEN_TEXT_LIMIT a.software r.1;
      reason = short_reason a.error_code q.1;
      bytes = short_by DATA_LIMIT a.«data» p.1;
      code = good_code a.error_code code;
    }

-- ---- each attribute, written and read

pub record AllTrip (id : List ℕ) (a : AttributesRecord) : Type 0 where
  pub username : IfSome a.username (λ t. Trips (text USERNAME_LIMIT) t t)
  pub ice_controlled : IfSome a.ice_controlled (λ x. Trips (number w64 ControlledLength) (to_be_bytes w64 x) x)
  pub ice_controlling : IfSome a.ice_controlling (λ x. Trips (number w64 ControllingLength) (to_be_bytes w64 x) x)
  pub priority : IfSome a.priority (λ x. Trips (number w32 PriorityLength) (to_be_bytes w32 x) x)
  pub xor_mapped_address : IfSome a.xor_mapped_address (λ x. Trips (address_in id) (xor_address id x) x)
  pub bytes : IfSome a.«data» (λ v. length v ≤ DATA_LIMIT)
  pub xor_relayed_address : IfSome a.xor_relayed_address (λ x. Trips (address_in id) (xor_address id x) x)
  pub xor_peer_address : IfSome a.xor_peer_address (λ x. Trips (address_in id) (xor_address id x) x)
  pub channel_number : IfSome a.channel_number (λ x. Trips channel_number (channel_value x) x)
  pub lifetime : IfSome a.lifetime (λ x. Trips (number w32 LifetimeLength) (to_be_bytes w32 x) x)
  pub realm : IfSome a.realm (λ t. Trips (text TEXT_LIMIT) t t)
  pub nonce : IfSome a.nonce (λ t. Trips (text TEXT_LIMIT) t t)
  pub error_code : IfSome a.error_code (λ x. Trips error_code (error_value x) x)
  pub software : IfSome a.software (λ t. Trips (text TEXT_LIMIT) t t)
  pub network_cost : IfSome a.network_cost (λ c. (c.0 < 2 ^ 16) × (c.1 < 2 ^ 16))
  pub nomination : IfSome a.nomination (λ n. n < 2 ^ 32)

error_by : (o : Option (ℕ × List ℕ)) → IfSome o (λ e. (300 ≤ e.0) × (e.0 ≤ 699)) → IfSome o (λ e. length e.1 ≤ WRITTEN_TEXT_LIMIT) → IfSome o (λ e. IsUtf8 e.1) → IfSome o (λ e. Trips error_code (error_value e) e)
error_by None code short utf8 = tt
error_by (Some e) code short utf8 = error_trips e.0 e.1 code short utf8

pub all_trip : (id : List ℕ) (a : AttributesRecord) → IsId id → HasShortValues a → HasReadableValues a → AllTrip id a
all_trip id a id_is short values = record {
  username = if_both a.username (λ t short utf8. text_trips USERNAME_LIMIT t (omega arith) (omega (arith, short)) utf8) short.username values.username;
  ice_controlled = if_all a.ice_controlled (λ n fits. u64_trips ControlledLength n fits) values.ice_controlled;
  ice_controlling = if_all a.ice_controlling (λ n fits. u64_trips ControllingLength n fits) values.ice_controlling;
  priority = if_all a.priority (λ n fits. u32_trips PriorityLength n fits) values.priority;
  xor_mapped_address = if_all a.xor_mapped_address (λ x plain. address_trips id x id_is plain) values.xor_mapped_address;
  bytes = short.bytes;
  xor_relayed_address = if_all a.xor_relayed_address (λ x plain. address_trips id x id_is plain) values.xor_relayed_address;
  xor_peer_address = if_all a.xor_peer_address (λ x plain. address_trips id x id_is plain) values.xor_peer_address;
  channel_number = if_all a.channel_number (λ n range. channel_trips n range) values.channel_number;
  lifetime = if_all a.lifetime (λ n fits. u32_trips LifetimeLength n fits) values.lifetime;
  realm = if_both a.realm (λ t short utf8. text_trips TEXT_LIMIT t (omega arith) (omega (arith, short)) utf8) short.realm values.realm;
  nonce = if_both a.nonce (λ t short utf8. text_trips TEXT_LIMIT t (omega arith) (omega (arith, short)) utf8) short.nonce values.nonce;
  error_code = error_by a.error_code short.code short.reason values.error_code;
  software = if_both a.software (λ t short utf8. text_trips TEXT_LIMIT t (omega arith) (omega (arith, short)) utf8) short.software values.software;
  network_cost = values.network_cost;
  nomination = values.nomination;
}

-- ---- the rows fit

fault_by : {A : Type 0} (b c : Bool) (x y : A) → cond (b || c) None (Some XorAddress) ≡ fault_in (cond b (Ok x) (cond c (Ok y) (Err XorAddress)))
fault_by true c x y = refl
fault_by false true x y = refl
fault_by false false x y = refl

-- whether an address can be read does not depend on the transaction id
pub address_fault-is : (id v : List ℕ) → address_fault v ≡ fault_in (address_in id v)
unfolding address_fault address_in
address_fault-is id v = fault_by (is_ipv4_value v) (is_ipv6_value v) _ _

pub rows_fit : (id : List ℕ) (a : AttributesRecord) → AllTrip id a → AllByRecursion FitsRow (rows_of id a)
unfolding value_fault
rows_fit id a trips = (
  text_fits 6 (text USERNAME_LIMIT) a.username (omega arith) (λ (e : 6 ≡ 8). absurd (omega (arith, e))) (λ v. refl) (λ v. refl) trips.username,
  (
    fits_row 0x8029 (number w64 ControlledLength) (to_be_bytes w64) a.ice_controlled (omega arith) (λ (e : 0x8029 ≡ 8). absurd (omega (arith, e))) (λ v. refl) (λ v. refl) trips.ice_controlled,
    (
      fits_row 0x802A (number w64 ControllingLength) (to_be_bytes w64) a.ice_controlling (omega arith) (λ (e : 0x802A ≡ 8). absurd (omega (arith, e))) (λ v. refl) (λ v. refl) trips.ice_controlling,
      (
        fits_row 0x24 (number w32 PriorityLength) (to_be_bytes w32) a.priority (omega arith) (λ (e : 0x24 ≡ 8). absurd (omega (arith, e))) (λ v. refl) (λ v. refl) trips.priority,
        (
          fits_row 0x20 (address_in id) (xor_address id) a.xor_mapped_address (omega arith) (λ (e : 0x20 ≡ 8). absurd (omega (arith, e))) (λ v. refl) (address_fault-is id) trips.xor_mapped_address,
          (
            flag_fits a.use_candidate,
            (
              data_fits a.«data» trips.bytes,
              (
                fits_row 0x16 (address_in id) (xor_address id) a.xor_relayed_address (omega arith) (λ (e : 0x16 ≡ 8). absurd (omega (arith, e))) (λ v. refl) (address_fault-is id) trips.xor_relayed_address,
                (
                  fits_row 0x12 (address_in id) (xor_address id) a.xor_peer_address (omega arith) (λ (e : 0x12 ≡ 8). absurd (omega (arith, e))) (λ v. refl) (address_fault-is id) trips.xor_peer_address,
                  (
                    fits_row 0x0C channel_number channel_value a.channel_number (omega arith) (λ (e : 0x0C ≡ 8). absurd (omega (arith, e))) (λ v. refl) (λ v. refl) trips.channel_number,
                    (
                      fits_row 0x0D (number w32 LifetimeLength) (to_be_bytes w32) a.lifetime (omega arith) (λ (e : 0x0D ≡ 8). absurd (omega (arith, e))) (λ v. refl) (λ v. refl) trips.lifetime,
                      (
                        text_fits 0x14 (text TEXT_LIMIT) a.realm (omega arith) (λ (e : 0x14 ≡ 8). absurd (omega (arith, e))) (λ v. refl) (λ v. refl) trips.realm,
                        (
                          text_fits 0x15 (text TEXT_LIMIT) a.nonce (omega arith) (λ (e : 0x15 ≡ 8). absurd (omega (arith, e))) (λ v. refl) (λ v. refl) trips.nonce,
                          (
                            fits_row 9 error_code error_value a.error_code (omega arith) (λ (e : 9 ≡ 8). absurd (omega (arith, e))) (λ v. refl) (λ v. refl) trips.error_code,
                            (
                              text_fits 0x22 (text TEXT_LIMIT) a.software (omega arith) (λ (e : 0x22 ≡ 8). absurd (omega (arith, e))) (λ v. refl) (λ v. refl) trips.software,
                              (
                                cost_fits a.network_cost,
                                (
                                  nomination_fits a.nomination,
                                  tt,
                                ),
                              ),
                            ),
                          ),
                        ),
                      ),
                    ),
                  ),
                ),
              ),
            ),
          ),
        ),
      ),
    ),
  ),
)

-- ---- each attribute is in its row

username_row : (id : List ℕ) (a : AttributesRecord) → last_row 6 (rows_of id a) ≡ a.username
unfolding last_row
username_row id a = refl

ice_controlled_row : (id : List ℕ) (a : AttributesRecord) → last_row 0x8029 (rows_of id a) ≡ option_map (to_be_bytes w64) a.ice_controlled
unfolding last_row
ice_controlled_row id a = simp option_or-none

ice_controlling_row : (id : List ℕ) (a : AttributesRecord) → last_row 0x802A (rows_of id a) ≡ option_map (to_be_bytes w64) a.ice_controlling
unfolding last_row
ice_controlling_row id a = simp option_or-none

priority_row : (id : List ℕ) (a : AttributesRecord) → last_row 0x24 (rows_of id a) ≡ option_map (to_be_bytes w32) a.priority
unfolding last_row
priority_row id a = simp option_or-none

xor_mapped_address_row : (id : List ℕ) (a : AttributesRecord) → last_row 0x20 (rows_of id a) ≡ option_map (xor_address id) a.xor_mapped_address
unfolding last_row
xor_mapped_address_row id a = simp option_or-none

use_candidate_row : (id : List ℕ) (a : AttributesRecord) → last_row 0x25 (rows_of id a) ≡ if_set a.use_candidate
unfolding last_row
use_candidate_row id a = simp option_or-none

bytes_row : (id : List ℕ) (a : AttributesRecord) → last_row 0x13 (rows_of id a) ≡ a.«data»
unfolding last_row
bytes_row id a = simp option_or-none

xor_relayed_address_row : (id : List ℕ) (a : AttributesRecord) → last_row 0x16 (rows_of id a) ≡ option_map (xor_address id) a.xor_relayed_address
unfolding last_row
xor_relayed_address_row id a = simp option_or-none

xor_peer_address_row : (id : List ℕ) (a : AttributesRecord) → last_row 0x12 (rows_of id a) ≡ option_map (xor_address id) a.xor_peer_address
unfolding last_row
xor_peer_address_row id a = simp option_or-none

channel_number_row : (id : List ℕ) (a : AttributesRecord) → last_row 0x0C (rows_of id a) ≡ option_map channel_value a.channel_number
unfolding last_row
channel_number_row id a = simp option_or-none

lifetime_row : (id : List ℕ) (a : AttributesRecord) → last_row 0x0D (rows_of id a) ≡ option_map (to_be_bytes w32) a.lifetime
unfolding last_row
lifetime_row id a = simp option_or-none

realm_row : (id : List ℕ) (a : AttributesRecord) → last_row 0x14 (rows_of id a) ≡ a.realm
unfolding last_row
realm_row id a = simp option_or-none

nonce_row : (id : List ℕ) (a : AttributesRecord) → last_row 0x15 (rows_of id a) ≡ a.nonce
unfolding last_row
nonce_row id a = simp option_or-none

error_code_row : (id : List ℕ) (a : AttributesRecord) → last_row 9 (rows_of id a) ≡ option_map error_value a.error_code
unfolding last_row
error_code_row id a = simp option_or-none

software_row : (id : List ℕ) (a : AttributesRecord) → last_row 0x22 (rows_of id a) ≡ a.software
unfolding last_row
software_row id a = simp option_or-none

network_cost_row : (id : List ℕ) (a : AttributesRecord) → last_row 0xC057 (rows_of id a) ≡ option_map network_cost_value a.network_cost
unfolding last_row
network_cost_row id a = simp option_or-none

nomination_row : (id : List ℕ) (a : AttributesRecord) → last_row 0xC001 (rows_of id a) ≡ option_map (to_be_bytes w32) a.nomination
unfolding last_row
nomination_row id a = simp option_or-none

pub attributes_back : (id : List ℕ) (a : AttributesRecord) → AllTrip id a → row_attributes id (rows_of id a) ≡ record a { fingerprint = None }
attributes_back id a trips =
    let rows : List Row = rows_of id a in
    let username_is : value_in (text USERNAME_LIMIT) (last_row 6 rows) ≡ a.username = ap (value_in (text USERNAME_LIMIT)) (username_row id a) ∙ text_back (text USERNAME_LIMIT) a.username trips.username in
    let error_code_is : value_in error_code (last_row 9 rows) ≡ a.error_code = ap (value_in error_code) (error_code_row id a) ∙ comes_back error_code error_value a.error_code trips.error_code in
    let channel_number_is : value_in channel_number (last_row 0x0C rows) ≡ a.channel_number = ap (value_in channel_number) (channel_number_row id a) ∙ comes_back channel_number channel_value a.channel_number trips.channel_number in
    let lifetime_is : value_in (number w32 LifetimeLength) (last_row 0x0D rows) ≡ a.lifetime = ap (value_in (number w32 LifetimeLength)) (lifetime_row id a) ∙ comes_back (number w32 LifetimeLength) (to_be_bytes w32) a.lifetime trips.lifetime in
    let xor_peer_address_is : value_in (address_in id) (last_row 0x12 rows) ≡ a.xor_peer_address = ap (value_in (address_in id)) (xor_peer_address_row id a) ∙ comes_back (address_in id) (xor_address id) a.xor_peer_address trips.xor_peer_address in
    let bytes_is : last_row 0x13 rows ≡ a.«data» = bytes_row id a in
    let realm_is : value_in (text TEXT_LIMIT) (last_row 0x14 rows) ≡ a.realm = ap (value_in (text TEXT_LIMIT)) (realm_row id a) ∙ text_back (text TEXT_LIMIT) a.realm trips.realm in
    let nonce_is : value_in (text TEXT_LIMIT) (last_row 0x15 rows) ≡ a.nonce = ap (value_in (text TEXT_LIMIT)) (nonce_row id a) ∙ text_back (text TEXT_LIMIT) a.nonce trips.nonce in
    let xor_relayed_address_is : value_in (address_in id) (last_row 0x16 rows) ≡ a.xor_relayed_address = ap (value_in (address_in id)) (xor_relayed_address_row id a) ∙ comes_back (address_in id) (xor_address id) a.xor_relayed_address trips.xor_relayed_address in
    let xor_mapped_address_is : value_in (address_in id) (last_row 0x20 rows) ≡ a.xor_mapped_address = ap (value_in (address_in id)) (xor_mapped_address_row id a) ∙ comes_back (address_in id) (xor_address id) a.xor_mapped_address trips.xor_mapped_address in
    let software_is : value_in (text TEXT_LIMIT) (last_row 0x22 rows) ≡ a.software = ap (value_in (text TEXT_LIMIT)) (software_row id a) ∙ text_back (text TEXT_LIMIT) a.software trips.software in
    let priority_is : value_in (number w32 PriorityLength) (last_row 0x24 rows) ≡ a.priority = ap (value_in (number w32 PriorityLength)) (priority_row id a) ∙ comes_back (number w32 PriorityLength) (to_be_bytes w32) a.priority trips.priority in
    let use_candidate_is : is_some (value_in (bytes_of_len 0 UseCandidateLength) (last_row 0x25 rows)) ≡ a.use_candidate = ap (λ (o : Option (List ℕ)). is_some (value_in (bytes_of_len 0 UseCandidateLength) o)) (use_candidate_row id a) ∙ flag_back a.use_candidate in
    let ice_controlled_is : value_in (number w64 ControlledLength) (last_row 0x8029 rows) ≡ a.ice_controlled = ap (value_in (number w64 ControlledLength)) (ice_controlled_row id a) ∙ comes_back (number w64 ControlledLength) (to_be_bytes w64) a.ice_controlled trips.ice_controlled in
    let ice_controlling_is : value_in (number w64 ControllingLength) (last_row 0x802A rows) ≡ a.ice_controlling = ap (value_in (number w64 ControllingLength)) (ice_controlling_row id a) ∙ comes_back (number w64 ControllingLength) (to_be_bytes w64) a.ice_controlling trips.ice_controlling in
    let network_cost_is : option_and_then network_cost (last_row 0xC057 rows) ≡ a.network_cost = ap (option_and_then network_cost) (network_cost_row id a) ∙ cost_back a.network_cost trips.network_cost in
    let nomination_is : option_and_then nomination (last_row 0xC001 rows) ≡ a.nomination = ap (option_and_then nomination) (nomination_row id a) ∙ nomination_back a.nomination trips.nomination in
    rw (username_is, error_code_is, channel_number_is, lifetime_is, xor_peer_address_is, bytes_is, realm_is, nonce_is, xor_relayed_address_is, xor_mapped_address_is, software_is, priority_is, use_candidate_is, ice_controlled_is, ice_controlling_is, network_cost_is, nomination_is) refl

-- What was written of each kind of value is read.
use Rattle.is_stun.proofs.Common.{◌%◌, ◌*◌, ◌+◌, ◌/◌, ◌<◌, ◌^◌, ◌||◌, ◌∙◌, ◌≡◌, ◌≤◌, ap, arith, Bool, bytes_of_len, channel_number}
use Rattle.is_stun.proofs.Common.{channel_value, ChannelRange, cond, DATA_LIMIT, eq-eqb, Err, error_code, error_value, false, fault_in}
use Rattle.is_stun.proofs.Common.{from_be_bytes, from_be_bytes-to_be_bytes_2, from_be_bytes-to_be_bytes_4, from_be_bytes-to_be_bytes_8}
use Rattle.is_stun.proofs.Common.{if_set, IfSome, is_skipped, is_some, IsUtf8, le-ltb, length, List, ltb, network_cost, network_cost_value}
use Rattle.is_stun.proofs.Common.{nomination, None, number, Ok, Option, option_and_then, option_map, ParseFault, refl, Result, result_ok}
use Rattle.is_stun.proofs.Common.{row, Some, text, TEXT_LIMIT, to_be_bytes, true, UseCandidateLength, value_fault, value_in, w16, w32, w64}
use Rattle.is_stun.proofs.Common.{WRITTEN_TEXT_LIMIT, ℕ}
use Rattle.is_stun.proofs.MessageReading.TextValues.{text_of}
use Rattle.is_stun.proofs.RoundTrips.Rows.{tlv_of, FitsRow}

-- a value, written and read
pub record Trips {A : Type 0} (read : List ℕ → Result A ParseFault) (value : List ℕ) (x : A) : Type 0 where
  pub short : length value < 2 ^ 16
  pub back : read value ≡ Ok x

pub text_trips : (limit : ℕ) (t : List ℕ) → limit < 2 ^ 16 → length t ≤ limit → IsUtf8 t → Trips (text limit) t t
text_trips limit t low short utf8 = record { short = omega (arith, low, short); back = text_of limit t short utf8 }

pub u32_trips : (fault : ParseFault) (n : ℕ) → n < 2 ^ 32 → Trips (number w32 fault) (to_be_bytes w32 n) n
u32_trips fault n fits = record { short = omega arith; back = ap Ok (from_be_bytes-to_be_bytes_4 n fits) }

pub u64_trips : (fault : ParseFault) (n : ℕ) → n < 2 ^ 64 → Trips (number w64 fault) (to_be_bytes w64 n) n
u64_trips fault n fits = record { short = omega arith; back = ap Ok (from_be_bytes-to_be_bytes_8 n fits) }

pub channel_trips : (n : ℕ) → (0x4000 ≤ n) × (n ≤ 0x7FFF) → Trips channel_number (channel_value n) n
unfolding channel_number
channel_trips n (low, high) =
    let same : from_be_bytes w16 (to_be_bytes w16 n) ≡ n = from_be_bytes-to_be_bytes_2 n (omega (arith, high)) in
    record {
      short = omega arith;
      back = ap (λ (x : ℕ). cond (ltb x 0x4000 || ltb 0x7FFF x) (Err ChannelRange) (Ok x)) same
          ∙ rw (le-ltb n 0x4000 low, le-ltb 0x7FFF n high) refl;
    }

pub error_trips : (code : ℕ) (reason : List ℕ) → (300 ≤ code) × (code ≤ 699) → length reason ≤ WRITTEN_TEXT_LIMIT → IsUtf8 reason → Trips error_code (error_value (code, reason)) (code, reason)
unfolding error_code
error_trips code reason (low, high) short utf8 =
    let class : ℕ = code / 100 in
    let at_least : 3 ≤ class = omega (arith, low) in
    let at_most : class ≤ 6 = omega (arith, high) in
    let top : class / 8 ≡ 0 = omega (arith, at_most) in
    let code_is : 100 * class + code % 100 % 100 ≡ code = omega arith in
    record {
      short = omega (arith, short);
      back = rw (le-ltb (length (error_value (code, reason))) 4 (omega arith), eq-eqb (class / 8) 0 top, le-ltb class 3 at_least, le-ltb 6 class at_most, text_of TEXT_LIMIT reason (omega (arith, short)) utf8, code_is) refl;
    }

-- ---- rows

pub if_both : {A : Type 0} {P Q R : A → Type 0} (o : Option A) → ((x : A) → P x → Q x → R x) → IfSome o P → IfSome o Q → IfSome o R
if_both None f p q = tt
if_both (Some x) f p q = f x p q

pub if_all : {A : Type 0} {P Q : A → Type 0} (o : Option A) → ((x : A) → P x → Q x) → IfSome o P → IfSome o Q
if_all None f p = tt
if_all (Some x) f p = f x p

-- the row of a kind, given how it is read
pub fits_row : {A : Type 0} (code : ℕ) (read : List ℕ → Result A ParseFault) (write : A → List ℕ) (o : Option A) → code < 2 ^ 16 → (code ≡ 8 → ⊥)
    → ((v : List ℕ) → is_skipped (tlv_of 0 code v) ≡ false) → ((v : List ℕ) → value_fault code v ≡ fault_in (read v)) → IfSome o (λ x. Trips read (write x) x)
    → FitsRow (row code (option_map write o))
fits_row code read write None small other counted fault trips = (small, other, tt)
fits_row code read write (Some x) small other counted fault trips =
    (small, other, record { short = trips.short; sound = fault (write x) ∙ ap fault_in trips.back; counted = counted (write x) })

pub comes_back : {A : Type 0} (read : List ℕ → Result A ParseFault) (write : A → List ℕ) (o : Option A) → IfSome o (λ x. Trips read (write x) x) → value_in read (option_map write o) ≡ o
comes_back read write None trips = refl
comes_back read write (Some x) trips = ap result_ok trips.back

-- the row of a text, which is its own value
pub text_fits : (code : ℕ) (read : List ℕ → Result (List ℕ) ParseFault) (o : Option (List ℕ)) → code < 2 ^ 16 → (code ≡ 8 → ⊥)
    → ((v : List ℕ) → is_skipped (tlv_of 0 code v) ≡ false) → ((v : List ℕ) → value_fault code v ≡ fault_in (read v)) → IfSome o (λ t. Trips read t t)
    → FitsRow (row code o)
text_fits code read None small other counted fault trips = (small, other, tt)
text_fits code read (Some t) small other counted fault trips = (small, other, record { short = trips.short; sound = fault t ∙ ap fault_in trips.back; counted = counted t })

pub text_back : (read : List ℕ → Result (List ℕ) ParseFault) (o : Option (List ℕ)) → IfSome o (λ t. Trips read t t) → value_in read o ≡ o
text_back read None trips = refl
text_back read (Some t) trips = ap result_ok trips.back

-- data of any bytes
pub data_fits : (o : Option (List ℕ)) → IfSome o (λ v. length v ≤ DATA_LIMIT) → FitsRow (row 0x13 o)
unfolding value_fault
data_fits None short = (omega arith, (λ (e : 0x13 ≡ 8). absurd (omega (arith, e))), tt)
data_fits (Some v) short = (omega arith, (λ (e : 0x13 ≡ 8). absurd (omega (arith, e))), record { short = omega (arith, short); sound = refl; counted = refl })

-- a flag
pub flag_fits : (b : Bool) → FitsRow (row 0x25 (if_set b))
unfolding value_fault
flag_fits true = (omega arith, (λ (e : 0x25 ≡ 8). absurd (omega (arith, e))), record { short = omega arith; sound = refl; counted = refl })
flag_fits false = (omega arith, (λ (e : 0x25 ≡ 8). absurd (omega (arith, e))), tt)

pub flag_back : (b : Bool) → is_some (value_in (bytes_of_len 0 UseCandidateLength) (if_set b)) ≡ b
flag_back true = refl
flag_back false = refl

-- a network and its cost
pub cost_fits : (o : Option (ℕ × ℕ)) → FitsRow (row 0xC057 (option_map network_cost_value o))
unfolding value_fault
cost_fits None = (omega arith, (λ (e : 0xC057 ≡ 8). absurd (omega (arith, e))), tt)
cost_fits (Some c) = (omega arith, (λ (e : 0xC057 ≡ 8). absurd (omega (arith, e))), record { short = omega arith; sound = refl; counted = refl })

pub cost_back : (o : Option (ℕ × ℕ)) → IfSome o (λ c. (c.0 < 2 ^ 16) × (c.1 < 2 ^ 16)) → option_and_then network_cost (option_map network_cost_value o) ≡ o
unfolding network_cost
cost_back None fits = refl
cost_back (Some c) fits =
    ap (λ (n : ℕ). Some (n, from_be_bytes w16 (to_be_bytes w16 c.1))) (from_be_bytes-to_be_bytes_2 c.0 fits.0)
    ∙ ap (λ (n : ℕ). Some (c.0, n)) (from_be_bytes-to_be_bytes_2 c.1 fits.1)

-- the number of a nomination
pub nomination_fits : (o : Option ℕ) → FitsRow (row 0xC001 (option_map (to_be_bytes w32) o))
unfolding value_fault
nomination_fits None = (omega arith, (λ (e : 0xC001 ≡ 8). absurd (omega (arith, e))), tt)
nomination_fits (Some n) = (omega arith, (λ (e : 0xC001 ≡ 8). absurd (omega (arith, e))), record { short = omega arith; sound = refl; counted = refl })

pub nomination_back : (o : Option ℕ) → IfSome o (λ n. n < 2 ^ 32) → option_and_then nomination (option_map (to_be_bytes w32) o) ≡ o
unfolding nomination
nomination_back None fits = refl
nomination_back (Some n) fits = ap Some (from_be_bytes-to_be_bytes_4 n fits)

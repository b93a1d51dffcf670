-- What is written: texts that are UTF-8, the attributes of a message, and its bytes.
use Rattle.std.proofs.Common.{◌≡◌, ℕ, ◌++◌, ◌||◌, Bool, true, false, List, drop, Option, Some, None, Ok, refl, ap, ◌∙◌}
use Rattle.std.specs.Option.{option_or}
use Rattle.std.specs.Str.{IsUtf8, is_utf8}
use Rattle.std.proofs.lemmas.Str.{IsUtf8-from_is_utf8, is_utf8-from_IsUtf8}
use Rattle.is_proto.specs.declared.error.StunError.{StunError}
use Rattle.is_stun.specs.Message.{no_attributes}
use Rattle.is_stun.specs.Writing.{WritesOr}
use Rattle.is_c.specs.declared.stun_message.Message.{Message as Flat}
use Rattle.is_c.specs.declared.stun_texts.Texts.{Texts}
use Rattle.is_c.specs.declared.stun_texts.Words.{Words}
use Rattle.is_c_calls.specs.Addresses.{socket_of}
use Rattle.is_c_calls.specs.Codes.{OK}
use Rattle.is_c.specs.StunFill.{numbers_set, addresses_set, words_set, error_of}
use Rattle.is_c.specs.StunMessage.{number_in}
use Rattle.is_c.specs.StunTexts.{piece_in, AreWords}
use Rattle.is_c.specs.StunWrite.{cost_in, attributes_in, is_above, is_half, has_bad_number, WritesIn}

-- ---- UTF-8 as a test

pub utf8_is_tested : (bs : List ℕ) → IsUtf8 bs → is_utf8 bs ≡ true
utf8_is_tested bs u = is_utf8-from_IsUtf8 bs u

pub no_utf8_is_tested : (bs : List ℕ) → ¬ IsUtf8 bs → is_utf8 bs ≡ false
no_utf8_is_tested bs u = by (is_utf8 bs) refl
  where
    by : (b : Bool) → is_utf8 bs ≡ b → b ≡ false
    by true e = absurd (u (IsUtf8-from_is_utf8 bs e))
    by false e = refl

-- ---- numbers that fit, if no number is bad

or_left : (a b : Bool) → (a || b) ≡ false → a ≡ false
or_left true b e = absurd (cc)
or_left false b e = refl

or_right : (a b : Bool) → (a || b) ≡ false → b ≡ false
or_right true b e = absurd (cc)
or_right false b e = e

-- the first four of eight
four : (p e l c n k m h : Bool) → (p || e || l || c || n || k || m || h) ≡ false → (p || e || l || c) ≡ false
four p e l c n k m h x =
    or_left (p || e || l || c) n (or_left (p || e || l || c || n) k (or_left (p || e || l || c || n || k) m
    (or_left (p || e || l || c || n || k || m) h x)))

pub lifetime_fits : (f : Flat) → has_bad_number f ≡ false → is_above 0xFFFFFFFF f.lifetime ≡ false
lifetime_fits f x =
    let p = is_above 0xFFFFFFFF f.priority in
    let e = is_above 0xFFFF f.error_code in
    let l = is_above 0xFFFFFFFF f.lifetime in
    let c = is_above 0xFFFF f.channel_number in
    or_right (p || e) l (or_left (p || e || l) c (four p e l c (is_above 0xFFFF f.network_id) (is_above 0xFFFF f.network_cost)
    (is_above 0xFFFFFFFF f.nomination) (is_half f.network_id.is_set f.network_cost.is_set) x))

pub channel_fits : (f : Flat) → has_bad_number f ≡ false → is_above 0xFFFF f.channel_number ≡ false
channel_fits f x =
    let p = is_above 0xFFFFFFFF f.priority in
    let e = is_above 0xFFFF f.error_code in
    let l = is_above 0xFFFFFFFF f.lifetime in
    let c = is_above 0xFFFF f.channel_number in
    or_right (p || e || l) c (four p e l c (is_above 0xFFFF f.network_id) (is_above 0xFFFF f.network_cost)
    (is_above 0xFFFFFFFF f.nomination) (is_half f.network_id.is_set f.network_cost.is_set) x)

pub nomination_fits : (f : Flat) → has_bad_number f ≡ false → is_above 0xFFFFFFFF f.nomination ≡ false
nomination_fits f x =
    let p = is_above 0xFFFFFFFF f.priority in
    let e = is_above 0xFFFF f.error_code in
    let l = is_above 0xFFFFFFFF f.lifetime in
    let c = is_above 0xFFFF f.channel_number in
    let n = is_above 0xFFFF f.network_id in
    let k = is_above 0xFFFF f.network_cost in
    let m = is_above 0xFFFFFFFF f.nomination in
    or_right (p || e || l || c || n || k) m (or_left (p || e || l || c || n || k || m) (is_half f.network_id.is_set f.network_cost.is_set) x)

-- ---- attributes of an empty builder

or_none : {A : Type 0} (x : Option A) → option_or x None ≡ x
or_none None = refl
or_none (Some x) = refl

or_false : (b : Bool) → (b || false) ≡ b
or_false true = refl
or_false false = refl

pub filled : (f : Flat) (t : Texts) (bytes : List ℕ) (w : Words) → AreWords bytes t w
    → words_set f w (addresses_set f (numbers_set f no_attributes)) ≡ attributes_in f t bytes
filled f t bytes w are =
    rw are.username (rw are.reason (rw are.«data» (rw are.realm (rw are.nonce (rw are.software
    (rw (or_none (piece_in bytes t.username)) (rw (or_none (piece_in bytes t.«data»)) (rw (or_none (piece_in bytes t.realm))
    (rw (or_none (piece_in bytes t.nonce)) (rw (or_none (piece_in bytes t.software))
    (rw (or_none (error_of (number_in f.error_code) (piece_in bytes t.reason)))
    (rw (or_none (number_in f.priority)) (rw (or_none (number_in f.controlled)) (rw (or_none (number_in f.controlling))
    (rw (or_none (number_in f.lifetime)) (rw (or_none (number_in f.channel_number)) (rw (or_none (cost_in f)) (rw (or_none (number_in f.nomination))
    (rw (or_none (socket_of f.mapped)) (rw (or_none (socket_of f.peer)) (rw (or_none (socket_of f.relayed))
    (rw (or_false f.use_candidate) refl))))))))))))))))))))))

-- ---- the bytes

pub put_written : (r : Option StunError) (w old new : List ℕ) (n count : ℕ) → WritesOr (Ok n) old new r w
    → WritesIn None r w old count OK new n
put_written r w old new n count v = rw v.0 (refl, v.1, v.2 ∙ ap (λ (k : ℕ). w ++ drop k old) v.1)

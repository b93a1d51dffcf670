-- ChannelData that was written is read.
use Rattle.is_stun.specs.ChannelData.{is_channel, channel_data_of, ChannelDataIsRead}
use Rattle.is_stun.proofs.Common.{◌&&◌, ◌++◌, ◌∙◌, ◌≡◌, ◌≤◌, ap, arith, Bool, cond, false, from_be_bytes, from_be_bytes-to_be_bytes_2}
use Rattle.is_stun.proofs.Common.{le-leb, leb-true, length, length-append, List, nat_le, None, Option, refl, Some, take, take_at}
use Rattle.is_stun.proofs.Common.{to_be_bytes, true, w16, ℕ}

and_right : (b c : Bool) → (b && c) ≡ true → c ≡ true
and_right true c e = e
and_right false c e = absurd (cc)

pub channel_data_is_read : (number : ℕ) (bytes rest : List ℕ) → ChannelDataIsRead number bytes rest
unfolding channel_data_of
channel_data_is_read number bytes rest is_number short =
    let following : List ℕ = bytes ++ rest in
    let shape : ℕ → ℕ → Option (ℕ × List ℕ) = λ n len. cond (is_channel n && nat_le len (length following)) (Some (n, take len following)) None in
    let below : number ≤ 0x4FFF = leb-true number 0x4FFF (and_right (nat_le 0x4000 number) (nat_le number 0x4FFF) is_number) in
    let number_is : from_be_bytes w16 (to_be_bytes w16 number) ≡ number = from_be_bytes-to_be_bytes_2 number (omega (arith, below)) in
    let len_is : from_be_bytes w16 (to_be_bytes w16 (length bytes)) ≡ length bytes = from_be_bytes-to_be_bytes_2 (length bytes) short in
    let named : shape (from_be_bytes w16 (to_be_bytes w16 number)) (from_be_bytes w16 (to_be_bytes w16 (length bytes))) ≡ shape number (length bytes) =
    ap (λ (n : ℕ). shape n (from_be_bytes w16 (to_be_bytes w16 (length bytes)))) number_is ∙ ap (shape number) len_is in
    let whole : nat_le (length bytes) (length following) ≡ true = le-leb _ _ (omega (arith, length-append bytes rest)) in
    let chosen : shape number (length bytes) ≡ Some (number, take (length bytes) following) =
    ap (λ (b : Bool). cond (b && nat_le (length bytes) (length following)) (Some (number, take (length bytes) following)) None) is_number
    ∙ ap (λ (b : Bool). cond b (Some (number, take (length bytes) following)) None) whole in
    named ∙ chosen ∙ ap (λ (x : List ℕ). Some (number, x)) (take_at bytes rest (length bytes) refl)

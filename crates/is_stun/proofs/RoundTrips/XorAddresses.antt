-- An XOR address that was written is read.
use Rattle.std.specs.Int.Bits.{xor_assoc, xor_self, xor_zero_r}
use Rattle.is_stun.proofs.Common.{[], ◌%◌, ◌*◌, ◌+◌, ◌/◌, ◌<◌, ◌^◌, ◌∙◌, ◌∷◌, ◌≡◌, address_in, ap, arith, be_bytes_4, bit_xor}
use Rattle.is_stun.proofs.Common.{from_be_bytes, from_be_bytes-to_be_bytes_2, from_be_bytes-to_be_bytes_4, get_or, ipv4_bits, ipv4_octets}
use Rattle.is_stun.proofs.Common.{ipv4_socket, ipv6_bits, ipv6_segments, ipv6_socket, IsId, IsIpv4OfBits, IsIpv6OfBits, IsPlainAddress}
use Rattle.is_stun.proofs.Common.{IsSocketAddrV4, IsSocketAddrV6, length, List, MAGIC, mask_of, octets_of, Ok, PORT_MASK, refl, segments_of}
use Rattle.is_stun.proofs.Common.{slice_index, SocketAddr, SocketAddrV4, SocketAddrV6, subst, suc, sym, to_be_bytes, V4, v4_ip, v4_port, V6}
use Rattle.is_stun.proofs.Common.{v6_flowinfo, v6_ip, v6_port, v6_scope_id, w128, w16, w32, xor_address, xor_lt, zero, ℕ}
use Rattle.is_stun.proofs.BitsOfNumbers.AddressBits.{ipv4_socket-is, ipv6_socket-is}
use Rattle.is_stun.proofs.BitsOfNumbers.WideNumbers.{AreBytes, small_8, from_be_bytes_16, be_bytes_16, from_be_bytes-to_be_bytes_16}
use Rattle.is_stun.proofs.RoundTrips.ValuesByKind.{Trips}

xor_twice : (a m : ℕ) → bit_xor (bit_xor a m) m ≡ a
xor_twice a m = xor_assoc a m m ∙ ap (bit_xor a) (xor_self m) ∙ xor_zero_r a

-- ---- IPv4

v4_bits_fit : (octets : List ℕ) → ((k : ℕ) → slice_index octets k < 2 ^ 8) → from_be_bytes w32 octets < 2 ^ 32
v4_bits_fit octets small = omega (arith, small 0, small 1, small 2, small 3)

pub v4_trips : (id : List ℕ) (a : SocketAddrV4) → IsSocketAddrV4 a → Trips (address_in id) (xor_address id (V4 a)) (V4 a)
unfolding xor_address address_in ipv4_bits IsIpv4OfBits
v4_trips id a ((len, small), port_fits) =
    let bits : ℕ = from_be_bytes w32 (ipv4_octets (v4_ip a)) in
    let port : ℕ = v4_port a in
    let bits_same : bit_xor (from_be_bytes w32 (to_be_bytes w32 (bit_xor bits MAGIC))) MAGIC ≡ bits =
    ap (λ (x : ℕ). bit_xor x MAGIC) (from_be_bytes-to_be_bytes_4 (bit_xor bits MAGIC) (xor_lt 32 bits MAGIC (v4_bits_fit (ipv4_octets (v4_ip a)) small) (omega arith)))
    ∙ xor_twice bits MAGIC in
    let port_same : bit_xor (from_be_bytes w16 (to_be_bytes w16 (bit_xor port PORT_MASK))) PORT_MASK ≡ port =
    ap (λ (x : ℕ). bit_xor x PORT_MASK) (from_be_bytes-to_be_bytes_2 (bit_xor port PORT_MASK) (xor_lt 16 port PORT_MASK port_fits (omega arith)))
    ∙ xor_twice port PORT_MASK in
    record {
      short = omega arith;
      back = ap (λ (x : ℕ). Ok (ipv4_socket x (bit_xor (from_be_bytes w16 (to_be_bytes w16 (bit_xor port PORT_MASK))) PORT_MASK))) bits_same
          ∙ ap (λ (x : ℕ). Ok (ipv4_socket bits x)) port_same
          ∙ ap Ok (sym (ipv4_socket-is bits port a (v4_ip a) (sym (be_bytes_4 (ipv4_octets (v4_ip a)) bits len small refl)) refl refl));
    }

-- ---- IPv6

eight : (xs : List ℕ) → length xs ≡ 8
    → xs ≡ get_or xs 0 0 ∷ get_or xs 1 0 ∷ get_or xs 2 0 ∷ get_or xs 3 0 ∷ get_or xs 4 0 ∷ get_or xs 5 0 ∷ get_or xs 6 0 ∷ get_or xs 7 0 ∷ []
eight ([]) l = absurd (omega (arith, l))
eight (a ∷ []) l = absurd (omega (arith, l))
eight (a ∷ b ∷ []) l = absurd (omega (arith, l))
eight (a ∷ b ∷ c ∷ []) l = absurd (omega (arith, l))
eight (a ∷ b ∷ c ∷ d ∷ []) l = absurd (omega (arith, l))
eight (a ∷ b ∷ c ∷ d ∷ e ∷ []) l = absurd (omega (arith, l))
eight (a ∷ b ∷ c ∷ d ∷ e ∷ f ∷ []) l = absurd (omega (arith, l))
eight (a ∷ b ∷ c ∷ d ∷ e ∷ f ∷ g ∷ []) l = absurd (omega (arith, l))
eight (a ∷ b ∷ c ∷ d ∷ e ∷ f ∷ g ∷ h ∷ []) l = refl
eight (a ∷ b ∷ c ∷ d ∷ e ∷ f ∷ g ∷ h ∷ x ∷ xs) l = absurd (omega (arith, l))

twelve : (xs : List ℕ) → length xs ≡ 12
    → xs ≡ get_or xs 0 0 ∷ get_or xs 1 0 ∷ get_or xs 2 0 ∷ get_or xs 3 0 ∷ get_or xs 4 0 ∷ get_or xs 5 0 ∷ get_or xs 6 0 ∷ get_or xs 7 0 ∷ get_or xs 8 0 ∷ get_or xs 9 0 ∷ get_or xs 10 0 ∷ get_or xs 11 0 ∷ []
twelve ([]) l = absurd (omega (arith, l))
twelve (b0 ∷ []) l = absurd (omega (arith, l))
twelve (b0 ∷ b1 ∷ []) l = absurd (omega (arith, l))
twelve (b0 ∷ b1 ∷ b2 ∷ []) l = absurd (omega (arith, l))
twelve (b0 ∷ b1 ∷ b2 ∷ b3 ∷ []) l = absurd (omega (arith, l))
twelve (b0 ∷ b1 ∷ b2 ∷ b3 ∷ b4 ∷ []) l = absurd (omega (arith, l))
twelve (b0 ∷ b1 ∷ b2 ∷ b3 ∷ b4 ∷ b5 ∷ []) l = absurd (omega (arith, l))
twelve (b0 ∷ b1 ∷ b2 ∷ b3 ∷ b4 ∷ b5 ∷ b6 ∷ []) l = absurd (omega (arith, l))
twelve (b0 ∷ b1 ∷ b2 ∷ b3 ∷ b4 ∷ b5 ∷ b6 ∷ b7 ∷ []) l = absurd (omega (arith, l))
twelve (b0 ∷ b1 ∷ b2 ∷ b3 ∷ b4 ∷ b5 ∷ b6 ∷ b7 ∷ b8 ∷ []) l = absurd (omega (arith, l))
twelve (b0 ∷ b1 ∷ b2 ∷ b3 ∷ b4 ∷ b5 ∷ b6 ∷ b7 ∷ b8 ∷ b9 ∷ []) l = absurd (omega (arith, l))
twelve (b0 ∷ b1 ∷ b2 ∷ b3 ∷ b4 ∷ b5 ∷ b6 ∷ b7 ∷ b8 ∷ b9 ∷ b10 ∷ []) l = absurd (omega (arith, l))
twelve (b0 ∷ b1 ∷ b2 ∷ b3 ∷ b4 ∷ b5 ∷ b6 ∷ b7 ∷ b8 ∷ b9 ∷ b10 ∷ b11 ∷ []) l = refl
twelve (b0 ∷ b1 ∷ b2 ∷ b3 ∷ b4 ∷ b5 ∷ b6 ∷ b7 ∷ b8 ∷ b9 ∷ b10 ∷ b11 ∷ x ∷ xs) l = absurd (omega (arith, l))

bytes_8 : (a b c d e f g h : ℕ) → a < 256 → b < 256 → c < 256 → d < 256 → e < 256 → f < 256 → g < 256 → h < 256 → AreBytes (a ∷ b ∷ c ∷ d ∷ e ∷ f ∷ g ∷ h ∷ [])
bytes_8 a b c d e f g h a' b' c' d' e' f' g' h' (zero) = a'
bytes_8 a b c d e f g h a' b' c' d' e' f' g' h' (suc zero) = b'
bytes_8 a b c d e f g h a' b' c' d' e' f' g' h' (suc (suc zero)) = c'
bytes_8 a b c d e f g h a' b' c' d' e' f' g' h' (suc (suc (suc zero))) = d'
bytes_8 a b c d e f g h a' b' c' d' e' f' g' h' (suc (suc (suc (suc zero)))) = e'
bytes_8 a b c d e f g h a' b' c' d' e' f' g' h' (suc (suc (suc (suc (suc zero))))) = f'
bytes_8 a b c d e f g h a' b' c' d' e' f' g' h' (suc (suc (suc (suc (suc (suc zero)))))) = g'
bytes_8 a b c d e f g h a' b' c' d' e' f' g' h' (suc (suc (suc (suc (suc (suc (suc zero))))))) = h'
bytes_8 a b c d e f g h a' b' c' d' e' f' g' h' (suc (suc (suc (suc (suc (suc (suc (suc i)))))))) = omega arith

mask_fits_by : (b0 b1 b2 b3 b4 b5 b6 b7 b8 b9 b10 b11 : ℕ) → AreBytes (b4 ∷ b5 ∷ b6 ∷ b7 ∷ b8 ∷ b9 ∷ b10 ∷ b11 ∷ []) → b0 < 256 → b1 < 256 → b2 < 256 → b3 < 256 → mask_of (b0 ∷ b1 ∷ b2 ∷ b3 ∷ b4 ∷ b5 ∷ b6 ∷ b7 ∷ b8 ∷ b9 ∷ b10 ∷ b11 ∷ []) < 2 ^ 128
mask_fits_by b0 b1 b2 b3 b4 b5 b6 b7 b8 b9 b10 b11 low s0 s1 s2 s3 =
    let high = small_8 0x21 0x12 0xA4 0x42 b0 b1 b2 b3 (bytes_8 0x21 0x12 0xA4 0x42 b0 b1 b2 b3 (omega arith) (omega arith) (omega arith) (omega arith) s0 s1 s2 s3) in
    omega (arith, from_be_bytes_16 0x21 0x12 0xA4 0x42 b0 b1 b2 b3 b4 b5 b6 b7 b8 b9 b10 b11, high, small_8 b4 b5 b6 b7 b8 b9 b10 b11 low)

mask_fits : (id : List ℕ) → IsId id → mask_of id < 2 ^ 128
mask_fits id (len, small) =
    subst (λ (xs : List ℕ). mask_of xs < 2 ^ 128) (sym (twelve id len))
    (mask_fits_by (get_or id 0 0) (get_or id 1 0) (get_or id 2 0) (get_or id 3 0) (get_or id 4 0) (get_or id 5 0) (get_or id 6 0) (get_or id 7 0) (get_or id 8 0) (get_or id 9 0) (get_or id 10 0) (get_or id 11 0)
    (bytes_8 (get_or id 4 0) (get_or id 5 0) (get_or id 6 0) (get_or id 7 0) (get_or id 8 0) (get_or id 9 0) (get_or id 10 0) (get_or id 11 0) (small 4) (small 5) (small 6) (small 7) (small 8) (small 9) (small 10) (small 11)) (small 0) (small 1) (small 2) (small 3))

octets_same_by : (s0 s1 s2 s3 s4 s5 s6 s7 : ℕ) → s0 < 2 ^ 16 → s1 < 2 ^ 16 → s2 < 2 ^ 16 → s3 < 2 ^ 16 → s4 < 2 ^ 16 → s5 < 2 ^ 16 → s6 < 2 ^ 16 → s7 < 2 ^ 16 → to_be_bytes w128 (from_be_bytes w128 (octets_of (s0 ∷ s1 ∷ s2 ∷ s3 ∷ s4 ∷ s5 ∷ s6 ∷ s7 ∷ []))) ≡ octets_of (s0 ∷ s1 ∷ s2 ∷ s3 ∷ s4 ∷ s5 ∷ s6 ∷ s7 ∷ [])
octets_same_by s0 s1 s2 s3 s4 s5 s6 s7 f0 f1 f2 f3 f4 f5 f6 f7 =
    be_bytes_16 (s0 / 256) (s0 % 256) (s1 / 256) (s1 % 256) (s2 / 256) (s2 % 256) (s3 / 256) (s3 % 256) (s4 / 256) (s4 % 256) (s5 / 256) (s5 % 256) (s6 / 256) (s6 % 256) (s7 / 256) (s7 % 256)
    (bytes_8 (s0 / 256) (s0 % 256) (s1 / 256) (s1 % 256) (s2 / 256) (s2 % 256) (s3 / 256) (s3 % 256) (omega (arith, f0)) (omega arith) (omega (arith, f1)) (omega arith) (omega (arith, f2)) (omega arith) (omega (arith, f3)) (omega arith))
    (bytes_8 (s4 / 256) (s4 % 256) (s5 / 256) (s5 % 256) (s6 / 256) (s6 % 256) (s7 / 256) (s7 % 256) (omega (arith, f4)) (omega arith) (omega (arith, f5)) (omega arith) (omega (arith, f6)) (omega arith) (omega (arith, f7)) (omega arith))

bits_fit_by : (s0 s1 s2 s3 s4 s5 s6 s7 : ℕ) → s0 < 2 ^ 16 → s1 < 2 ^ 16 → s2 < 2 ^ 16 → s3 < 2 ^ 16 → s4 < 2 ^ 16 → s5 < 2 ^ 16 → s6 < 2 ^ 16 → s7 < 2 ^ 16 → from_be_bytes w128 (octets_of (s0 ∷ s1 ∷ s2 ∷ s3 ∷ s4 ∷ s5 ∷ s6 ∷ s7 ∷ [])) < 2 ^ 128
bits_fit_by s0 s1 s2 s3 s4 s5 s6 s7 f0 f1 f2 f3 f4 f5 f6 f7 =
    let high = small_8 (s0 / 256) (s0 % 256) (s1 / 256) (s1 % 256) (s2 / 256) (s2 % 256) (s3 / 256) (s3 % 256) (bytes_8 (s0 / 256) (s0 % 256) (s1 / 256) (s1 % 256) (s2 / 256) (s2 % 256) (s3 / 256) (s3 % 256) (omega (arith, f0)) (omega arith) (omega (arith, f1)) (omega arith) (omega (arith, f2)) (omega arith) (omega (arith, f3)) (omega arith)) in
    let low = small_8 (s4 / 256) (s4 % 256) (s5 / 256) (s5 % 256) (s6 / 256) (s6 % 256) (s7 / 256) (s7 % 256) (bytes_8 (s4 / 256) (s4 % 256) (s5 / 256) (s5 % 256) (s6 / 256) (s6 % 256) (s7 / 256) (s7 % 256) (omega (arith, f4)) (omega arith) (omega (arith, f5)) (omega arith) (omega (arith, f6)) (omega arith) (omega (arith, f7)) (omega arith)) in
    omega (arith, from_be_bytes_16 (s0 / 256) (s0 % 256) (s1 / 256) (s1 % 256) (s2 / 256) (s2 % 256) (s3 / 256) (s3 % 256) (s4 / 256) (s4 % 256) (s5 / 256) (s5 % 256) (s6 / 256) (s6 % 256) (s7 / 256) (s7 % 256), high, low)

whole : (s : ℕ) → s / 256 * 256 + s % 256 ≡ s
whole s = omega arith

segments_same_by : (s0 s1 s2 s3 s4 s5 s6 s7 : ℕ) → segments_of (octets_of (s0 ∷ s1 ∷ s2 ∷ s3 ∷ s4 ∷ s5 ∷ s6 ∷ s7 ∷ [])) ≡ s0 ∷ s1 ∷ s2 ∷ s3 ∷ s4 ∷ s5 ∷ s6 ∷ s7 ∷ []
segments_same_by s0 s1 s2 s3 s4 s5 s6 s7 i = whole s0 i ∷ whole s1 i ∷ whole s2 i ∷ whole s3 i ∷ whole s4 i ∷ whole s5 i ∷ whole s6 i ∷ whole s7 i ∷ []

octets_same : (xs : List ℕ) → length xs ≡ 8 → ((k : ℕ) → slice_index xs k < 2 ^ 16) → to_be_bytes w128 (from_be_bytes w128 (octets_of xs)) ≡ octets_of xs
octets_same xs len small =
    subst (λ (ys : List ℕ). to_be_bytes w128 (from_be_bytes w128 (octets_of ys)) ≡ octets_of ys) (sym (eight xs len))
    (octets_same_by (get_or xs 0 0) (get_or xs 1 0) (get_or xs 2 0) (get_or xs 3 0) (get_or xs 4 0) (get_or xs 5 0) (get_or xs 6 0) (get_or xs 7 0) (small 0) (small 1) (small 2) (small 3) (small 4) (small 5) (small 6) (small 7))

bits_fit : (xs : List ℕ) → length xs ≡ 8 → ((k : ℕ) → slice_index xs k < 2 ^ 16) → from_be_bytes w128 (octets_of xs) < 2 ^ 128
bits_fit xs len small =
    subst (λ (ys : List ℕ). from_be_bytes w128 (octets_of ys) < 2 ^ 128) (sym (eight xs len)) (bits_fit_by (get_or xs 0 0) (get_or xs 1 0) (get_or xs 2 0) (get_or xs 3 0) (get_or xs 4 0) (get_or xs 5 0) (get_or xs 6 0) (get_or xs 7 0) (small 0) (small 1) (small 2) (small 3) (small 4) (small 5) (small 6) (small 7))

segments_same : (xs : List ℕ) → length xs ≡ 8 → segments_of (octets_of xs) ≡ xs
segments_same xs len =
    subst (λ (ys : List ℕ). segments_of (octets_of ys) ≡ ys) (sym (eight xs len)) (segments_same_by (get_or xs 0 0) (get_or xs 1 0) (get_or xs 2 0) (get_or xs 3 0) (get_or xs 4 0) (get_or xs 5 0) (get_or xs 6 0) (get_or xs 7 0))

pub v6_trips : (id : List ℕ) (a : SocketAddrV6) → IsId id → IsSocketAddrV6 a → v6_flowinfo a ≡ 0 → v6_scope_id a ≡ 0 → Trips (address_in id) (xor_address id (V6 a)) (V6 a)
unfolding xor_address address_in ipv6_bits IsIpv6OfBits
v6_trips id a id_is ((len, small), port_fits, scope_fits) flow scope =
    let segments : List ℕ = ipv6_segments (v6_ip a) in
    let bits : ℕ = from_be_bytes w128 (octets_of segments) in
    let mask : ℕ = mask_of id in
    let port : ℕ = v6_port a in
    let bits_same : bit_xor (from_be_bytes w128 (to_be_bytes w128 (bit_xor bits mask))) mask ≡ bits =
    ap (λ (x : ℕ). bit_xor x mask) (from_be_bytes-to_be_bytes_16 (bit_xor bits mask) (xor_lt 128 bits mask (bits_fit segments len small) (mask_fits id id_is)))
    ∙ xor_twice bits mask in
    let port_same : bit_xor (from_be_bytes w16 (to_be_bytes w16 (bit_xor port PORT_MASK))) PORT_MASK ≡ port =
    ap (λ (x : ℕ). bit_xor x PORT_MASK) (from_be_bytes-to_be_bytes_2 (bit_xor port PORT_MASK) (xor_lt 16 port PORT_MASK port_fits (omega arith)))
    ∙ xor_twice port PORT_MASK in
    let of_bits : segments ≡ segments_of (to_be_bytes w128 bits) = sym (ap segments_of (octets_same segments len small) ∙ segments_same segments len) in
    record {
      short = omega arith;
      back = ap (λ (x : ℕ). Ok (ipv6_socket x (bit_xor (from_be_bytes w16 (to_be_bytes w16 (bit_xor port PORT_MASK))) PORT_MASK))) bits_same
          ∙ ap (λ (x : ℕ). Ok (ipv6_socket bits x)) port_same
          ∙ ap Ok (sym (ipv6_socket-is bits port a (v6_ip a) of_bits refl refl flow scope));
    }

pub address_trips : (id : List ℕ) (a : SocketAddr) → IsId id → IsPlainAddress a → Trips (address_in id) (xor_address id a) a
address_trips id (V4 a) id_is (fits, flow, scope) = v4_trips id a fits
address_trips id (V6 a) id_is (fits, flow, scope) = v6_trips id a id_is fits flow scope

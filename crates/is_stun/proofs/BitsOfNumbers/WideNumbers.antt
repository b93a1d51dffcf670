-- Numbers of 128 bits by their two halves.
use native.Mathlib.Nat as nat
use Rattle.is_stun.proofs.Common.{[], ◌%◌, ◌*◌, ◌++◌, ◌+◌, ◌/◌, ◌<◌, ◌^◌, ◌∙◌, ◌∷◌, ◌≡◌, ap, arith, be_bytes_8, from_be_bytes}
use Rattle.is_stun.proofs.Common.{from_be_bytes-to_be_bytes_8, get_or, List, refl, sym, to_be_bytes, w128, w64, ℕ}

-- byte k of a number is byte k - 8 of its high half, or byte k of its low one
byte_15 : (n : ℕ) → n / 1329227995784915872903807060280344576 % 256 ≡ n / 18446744073709551616 / 72057594037927936 % 256
byte_15 n = ap (λ (x : ℕ). x % 256) (sym (nat.div-div-eq-div-mul n 18446744073709551616 72057594037927936))

byte_14 : (n : ℕ) → n / 5192296858534827628530496329220096 % 256 ≡ n / 18446744073709551616 / 281474976710656 % 256
byte_14 n = ap (λ (x : ℕ). x % 256) (sym (nat.div-div-eq-div-mul n 18446744073709551616 281474976710656))

byte_13 : (n : ℕ) → n / 20282409603651670423947251286016 % 256 ≡ n / 18446744073709551616 / 1099511627776 % 256
byte_13 n = ap (λ (x : ℕ). x % 256) (sym (nat.div-div-eq-div-mul n 18446744073709551616 1099511627776))

byte_12 : (n : ℕ) → n / 79228162514264337593543950336 % 256 ≡ n / 18446744073709551616 / 4294967296 % 256
byte_12 n = ap (λ (x : ℕ). x % 256) (sym (nat.div-div-eq-div-mul n 18446744073709551616 4294967296))

byte_11 : (n : ℕ) → n / 309485009821345068724781056 % 256 ≡ n / 18446744073709551616 / 16777216 % 256
byte_11 n = ap (λ (x : ℕ). x % 256) (sym (nat.div-div-eq-div-mul n 18446744073709551616 16777216))

byte_10 : (n : ℕ) → n / 1208925819614629174706176 % 256 ≡ n / 18446744073709551616 / 65536 % 256
byte_10 n = ap (λ (x : ℕ). x % 256) (sym (nat.div-div-eq-div-mul n 18446744073709551616 65536))

byte_9 : (n : ℕ) → n / 4722366482869645213696 % 256 ≡ n / 18446744073709551616 / 256 % 256
byte_9 n = ap (λ (x : ℕ). x % 256) (sym (nat.div-div-eq-div-mul n 18446744073709551616 256))

byte_8 : (n : ℕ) → n / 18446744073709551616 % 256 ≡ n / 18446744073709551616 % 256
byte_8 n = refl

byte_7 : (n : ℕ) → n / 72057594037927936 % 256 ≡ n % 18446744073709551616 / 72057594037927936 % 256
byte_7 n = omega arith

byte_6 : (n : ℕ) → n / 281474976710656 % 256 ≡ n % 18446744073709551616 / 281474976710656 % 256
byte_6 n = omega arith

byte_5 : (n : ℕ) → n / 1099511627776 % 256 ≡ n % 18446744073709551616 / 1099511627776 % 256
byte_5 n = omega arith

byte_4 : (n : ℕ) → n / 4294967296 % 256 ≡ n % 18446744073709551616 / 4294967296 % 256
byte_4 n = omega arith

byte_3 : (n : ℕ) → n / 16777216 % 256 ≡ n % 18446744073709551616 / 16777216 % 256
byte_3 n = omega arith

byte_2 : (n : ℕ) → n / 65536 % 256 ≡ n % 18446744073709551616 / 65536 % 256
byte_2 n = omega arith

byte_1 : (n : ℕ) → n / 256 % 256 ≡ n % 18446744073709551616 / 256 % 256
byte_1 n = omega arith

byte_0 : (n : ℕ) → n % 256 ≡ n % 18446744073709551616 % 256
byte_0 n = omega arith

pub to_be_bytes_16 : (n : ℕ) → to_be_bytes w128 n ≡ to_be_bytes w64 (n / 18446744073709551616) ++ to_be_bytes w64 (n % 18446744073709551616)
to_be_bytes_16 n i = byte_15 n i ∷ byte_14 n i ∷ byte_13 n i ∷ byte_12 n i ∷ byte_11 n i ∷ byte_10 n i ∷ byte_9 n i ∷ byte_8 n i ∷ byte_7 n i ∷ byte_6 n i ∷ byte_5 n i ∷ byte_4 n i ∷ byte_3 n i ∷ byte_2 n i ∷ byte_1 n i ∷ byte_0 n i ∷ []

pub from_be_bytes_16 : (a b c d e f g h i j k l m n o p : ℕ) → from_be_bytes w128 (a ∷ b ∷ c ∷ d ∷ e ∷ f ∷ g ∷ h ∷ i ∷ j ∷ k ∷ l ∷ m ∷ n ∷ o ∷ p ∷ [])
    ≡ from_be_bytes w64 (a ∷ b ∷ c ∷ d ∷ e ∷ f ∷ g ∷ h ∷ []) * 18446744073709551616 + from_be_bytes w64 (i ∷ j ∷ k ∷ l ∷ m ∷ n ∷ o ∷ p ∷ [])
from_be_bytes_16 a b c d e f g h i j k l m n o p = omega arith

halves : (h l : ℕ) → l < 18446744073709551616 → ((h * 18446744073709551616 + l) / 18446744073709551616 ≡ h) × ((h * 18446744073709551616 + l) % 18446744073709551616 ≡ l)
halves h l fits = (omega (arith, fits), omega (arith, fits))

pub from_be_bytes-to_be_bytes_16 : (n : ℕ) → n < 2 ^ 128 → from_be_bytes w128 (to_be_bytes w128 n) ≡ n
from_be_bytes-to_be_bytes_16 n fits =
    let h : ℕ = n / 18446744073709551616 in
    let l : ℕ = n % 18446744073709551616 in
    ap (from_be_bytes w128) (to_be_bytes_16 n)
    ∙ from_be_bytes_16 (h / 72057594037927936 % 256) (h / 281474976710656 % 256) (h / 1099511627776 % 256) (h / 4294967296 % 256) (h / 16777216 % 256) (h / 65536 % 256) (h / 256 % 256) (h % 256) (l / 72057594037927936 % 256) (l / 281474976710656 % 256) (l / 1099511627776 % 256) (l / 4294967296 % 256) (l / 16777216 % 256) (l / 65536 % 256) (l / 256 % 256) (l % 256)
    ∙ ap (λ (x : ℕ). x * 18446744073709551616 + from_be_bytes w64 (to_be_bytes w64 l)) (from_be_bytes-to_be_bytes_8 h (omega (arith, fits)))
    ∙ ap (λ (x : ℕ). h * 18446744073709551616 + x) (from_be_bytes-to_be_bytes_8 l (omega arith))
    ∙ omega arith

-- eight bytes, and the number that they are
abbrev pub AreBytes : List ℕ → Type 0
AreBytes bytes = (i : ℕ) → get_or bytes i 0 < 256

pub small_8 : (a b c d e f g h : ℕ) → AreBytes (a ∷ b ∷ c ∷ d ∷ e ∷ f ∷ g ∷ h ∷ []) → from_be_bytes w64 (a ∷ b ∷ c ∷ d ∷ e ∷ f ∷ g ∷ h ∷ []) < 18446744073709551616
small_8 a b c d e f g h bytes = omega (arith, bytes 0, bytes 1, bytes 2, bytes 3, bytes 4, bytes 5, bytes 6, bytes 7)

pub be_bytes_16 : (a b c d e f g h i j k l m n o p : ℕ) → AreBytes (a ∷ b ∷ c ∷ d ∷ e ∷ f ∷ g ∷ h ∷ []) → AreBytes (i ∷ j ∷ k ∷ l ∷ m ∷ n ∷ o ∷ p ∷ [])
    → to_be_bytes w128 (from_be_bytes w128 (a ∷ b ∷ c ∷ d ∷ e ∷ f ∷ g ∷ h ∷ i ∷ j ∷ k ∷ l ∷ m ∷ n ∷ o ∷ p ∷ [])) ≡ a ∷ b ∷ c ∷ d ∷ e ∷ f ∷ g ∷ h ∷ i ∷ j ∷ k ∷ l ∷ m ∷ n ∷ o ∷ p ∷ []
be_bytes_16 a b c d e f g h i j k l m n o p high low =
    let xs : List ℕ = a ∷ b ∷ c ∷ d ∷ e ∷ f ∷ g ∷ h ∷ [] in
    let ys : List ℕ = i ∷ j ∷ k ∷ l ∷ m ∷ n ∷ o ∷ p ∷ [] in
    let x : ℕ = from_be_bytes w64 xs in
    let y : ℕ = from_be_bytes w64 ys in
    let parts = halves x y (small_8 i j k l m n o p low) in
    ap (to_be_bytes w128) (from_be_bytes_16 a b c d e f g h i j k l m n o p)
    ∙ to_be_bytes_16 (x * 18446744073709551616 + y)
    ∙ ap (λ (q : ℕ). to_be_bytes w64 q ++ to_be_bytes w64 ((x * 18446744073709551616 + y) % 18446744073709551616)) parts.0
    ∙ ap (λ (r : ℕ). to_be_bytes w64 x ++ to_be_bytes w64 r) parts.1
    ∙ ap (λ (zs : List ℕ). zs ++ to_be_bytes w64 y) (be_bytes_8 xs x refl high refl)
    ∙ ap (λ (zs : List ℕ). xs ++ zs) (be_bytes_8 ys y refl low refl)

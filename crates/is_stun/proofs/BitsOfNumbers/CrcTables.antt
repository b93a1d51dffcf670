-- Bit steps are linear, so that those of a whole byte can be looked up.
use lib.Bits.{xor_shifted, xor_assoc, xor_zero_r, xor_self}
use lib.Pow.{split}
use Rattle.is_stun.proofs.Common.{[], ◌%◌, ◌*◌, ◌++◌, ◌+◌, ◌-◌, ◌/◌, ◌<◌, ◌^◌, ◌∙◌, ◌∷◌, ◌≡◌, ◌≤◌, add-zero, add_comm, AllByRecursion, ap}
use Rattle.is_stun.proofs.Common.{arith, bit_xor, bits_of, byte_at, crc_bit, crc_bits, drop, drop_all, drop_more, flat_map-append}
use Rattle.is_stun.proofs.Common.{from_le_bytes, get_or, length, List, low_bits, mod-lt, mul_assoc, pow-suc, pow_pos, refl, shifted}
use Rattle.is_stun.proofs.Common.{stepped, suc, sym, take, take_all, w64, xor_comm, xor_mod, xor_shr, zero, zero-add, ℕ}
use Rattle.is_stun.proofs.BitsOfNumbers.CrcOfConcatenation.{crc_bits-append}

-- ---- one bit step

shifted-odd : (a : ℕ) → a % 2 ≡ 1 → shifted a ≡ bit_xor (a / 2) 0xEDB8_8320
shifted-odd a e = rw e refl

shifted-even : (a : ℕ) → a % 2 ≡ 0 → shifted a ≡ a / 2
shifted-even a e = rw e refl

half-xor : (a b : ℕ) → bit_xor a b / 2 ≡ bit_xor (a / 2) (b / 2)
half-xor a b = xor_shr a b 1

parity-xor : (a b r s : ℕ) → a % 2 ≡ r → b % 2 ≡ s → bit_xor a b % 2 ≡ bit_xor r s
parity-xor a b r s e f = rw (sym e, sym f) (xor_mod a b 1)

swap : (x y p : ℕ) → bit_xor (bit_xor x y) p ≡ bit_xor (bit_xor x p) y
swap x y p = xor_assoc x y p ∙ ap (bit_xor x) (xor_comm y p) ∙ sym (xor_assoc x p y)

twice : (x y p : ℕ) → bit_xor (bit_xor x p) (bit_xor y p) ≡ bit_xor x y
twice x y p =
    swap x p (bit_xor y p)
    ∙ ap (λ (z : ℕ). bit_xor z p) (sym (xor_assoc x y p))
    ∙ xor_assoc (bit_xor x y) p p
    ∙ ap (bit_xor (bit_xor x y)) (xor_self p)
    ∙ xor_zero_r (bit_xor x y)

xor_by : (a b r s : ℕ) → a % 2 ≡ r → b % 2 ≡ s → shifted (bit_xor a b) ≡ bit_xor (shifted a) (shifted b)
xor_by a b zero zero e f =
    shifted-even (bit_xor a b) (parity-xor a b 0 0 e f) ∙ half-xor a b ∙ sym (rw (shifted-even a e, shifted-even b f) refl)
xor_by a b (suc zero) zero e f =
    shifted-odd (bit_xor a b) (parity-xor a b 1 0 e f) ∙ ap (λ (z : ℕ). bit_xor z 0xEDB8_8320) (half-xor a b)
    ∙ swap (a / 2) (b / 2) 0xEDB8_8320 ∙ sym (rw (shifted-odd a e, shifted-even b f) refl)
xor_by a b zero (suc zero) e f =
    shifted-odd (bit_xor a b) (parity-xor a b 0 1 e f) ∙ ap (λ (z : ℕ). bit_xor z 0xEDB8_8320) (half-xor a b)
    ∙ xor_assoc (a / 2) (b / 2) 0xEDB8_8320 ∙ sym (rw (shifted-even a e, shifted-odd b f) refl)
xor_by a b (suc zero) (suc zero) e f =
    shifted-even (bit_xor a b) (parity-xor a b 1 1 e f) ∙ half-xor a b
    ∙ sym (twice (a / 2) (b / 2) 0xEDB8_8320) ∙ sym (rw (shifted-odd a e, shifted-odd b f) refl)
xor_by a b (suc (suc r)) s e f = absurd (omega (arith, e))
xor_by a b zero (suc (suc s)) e f = absurd (omega (arith, f))
xor_by a b (suc zero) (suc (suc s)) e f = absurd (omega (arith, f))

pub shifted-xor : (a b : ℕ) → shifted (bit_xor a b) ≡ bit_xor (shifted a) (shifted b)
shifted-xor a b = xor_by a b (a % 2) (b % 2) refl refl

-- ---- many

pub stepped-xor : (n a b : ℕ) → stepped n (bit_xor a b) ≡ bit_xor (stepped n a) (stepped n b)
unfolding stepped
stepped-xor zero a b = refl
stepped-xor (suc n) a b = ap (stepped n) (shifted-xor a b) ∙ stepped-xor n (shifted a) (shifted b)

twice-half : (a : ℕ) → shifted (a * 2) ≡ a
twice-half a =
    let even : a * 2 % 2 ≡ 0 = omega arith in
    let half : a * 2 / 2 ≡ a = omega arith in
    shifted-even (a * 2) even ∙ half

-- the steps of a number whose lowest n bits are not set
pub stepped-high : (n m a : ℕ) → stepped (n + m) (a * 2 ^ n) ≡ stepped m a
unfolding stepped
stepped-high zero m a = let same : a * 2 ^ 0 ≡ a = omega arith in rw (same, zero-add m) refl
stepped-high (suc n) m a =
    let half : a * 2 ^ suc n ≡ a * 2 ^ n * 2 = ap (λ (x : ℕ). a * x) (pow-suc 2 n) ∙ sym (mul_assoc a (2 ^ n) 2) in
    let next : suc n + m ≡ suc (n + m) = omega arith in
    ap (λ (k : ℕ). stepped k (a * 2 ^ suc n)) next ∙ ap (λ (x : ℕ). stepped (n + m) (shifted x)) half ∙ ap (stepped (n + m)) (twice-half (a * 2 ^ n)) ∙ stepped-high n m a

-- a number by its lowest n bits and the others
parts : (n a : ℕ) → a ≡ bit_xor (a / 2 ^ n * 2 ^ n) (a % 2 ^ n)
parts n a = sym (xor_shifted (a / 2 ^ n) n (a % 2 ^ n) (mod-lt a (pow_pos n)) ∙ split a n)

-- n steps of a number, by those of its lowest n bits
pub by-low : (n a : ℕ) → stepped n a ≡ bit_xor (a / 2 ^ n) (stepped n (a % 2 ^ n))
unfolding stepped
by-low n a =
    let high : stepped n (a / 2 ^ n * 2 ^ n) ≡ a / 2 ^ n = ap (λ (k : ℕ). stepped k (a / 2 ^ n * 2 ^ n)) (sym (add-zero n)) ∙ stepped-high n 0 (a / 2 ^ n) in
    ap (stepped n) (parts n a) ∙ stepped-xor n (a / 2 ^ n * 2 ^ n) (a % 2 ^ n) ∙ ap (λ (x : ℕ). bit_xor x (stepped n (a % 2 ^ n))) high

-- ---- the bits of a number below 2 ^ n, by n steps

one-bit : (crc byte : ℕ) → bit_xor (crc_bit crc (byte % 2)) (byte / 2) ≡ shifted (bit_xor crc byte)
one-bit crc byte =
    let whole : byte ≡ bit_xor (byte % 2) (byte / 2 * 2) = parts 1 byte ∙ xor_comm (byte / 2 * 2) (byte % 2) in
    sym (ap (λ (x : ℕ). shifted (bit_xor crc x)) whole
    ∙ ap shifted (sym (xor_assoc crc (byte % 2) (byte / 2 * 2)))
    ∙ shifted-xor (bit_xor crc (byte % 2)) (byte / 2 * 2)
    ∙ ap (bit_xor (crc_bit crc (byte % 2))) (twice-half (byte / 2)))

pub bits-stepped : (n crc byte : ℕ) → byte < 2 ^ n → crc_bits crc (low_bits n byte) ≡ stepped n (bit_xor crc byte)
unfolding crc_bits low_bits stepped
bits-stepped zero crc byte fits =
    let none : byte ≡ 0 = omega (arith, fits) in
    sym (ap (bit_xor crc) none ∙ xor_zero_r crc)
bits-stepped (suc n) crc byte fits =
    bits-stepped n (crc_bit crc (byte % 2)) (byte / 2) (omega (arith, fits, pow-suc 2 n)) ∙ ap (stepped n) (one-bit crc byte)

-- a byte, by the entry of one
pub byte-by-entry : (crc byte : ℕ) → byte < 2 ^ 8 → crc_bits crc (low_bits 8 byte) ≡ bit_xor (crc / 2 ^ 8) (stepped 8 (bit_xor crc byte % 2 ^ 8))
byte-by-entry crc byte fits =
    let none : byte / 2 ^ 8 ≡ 0 = omega (arith, fits) in
    let high : bit_xor crc byte / 2 ^ 8 ≡ crc / 2 ^ 8 = xor_shr crc byte 8 ∙ ap (bit_xor (crc / 2 ^ 8)) none ∙ xor_zero_r (crc / 2 ^ 8) in
    bits-stepped 8 crc byte fits ∙ by-low 8 (bit_xor crc byte) ∙ ap (λ (x : ℕ). bit_xor x (stepped 8 (bit_xor crc byte % 2 ^ 8))) high

-- ---- the bits of many bytes

pub stepped-more : (n m a : ℕ) → stepped (n + m) a ≡ stepped m (stepped n a)
unfolding stepped
stepped-more zero m a = rw (zero-add m) refl
stepped-more (suc n) m a =
    let next : suc n + m ≡ suc (n + m) = omega arith in
    ap (λ (k : ℕ). stepped k a) next ∙ stepped-more n m (shifted a)

-- the number that bytes encode, the lowest first
unfoldable pub low_first : List ℕ → ℕ
low_first [] = 0
low_first (byte ∷ bytes) = byte + low_first bytes * 2 ^ 8

pub bytes-stepped : (crc : ℕ) (bytes : List ℕ) → AllByRecursion (λ b. b < 2 ^ 8) bytes → crc_bits crc (bits_of bytes) ≡ stepped (length bytes * 8) (bit_xor crc (low_first bytes))
unfolding crc_bits low_first stepped
bytes-stepped crc [] fit = sym (xor_zero_r crc)
bytes-stepped crc (byte ∷ bytes) fit =
    let n : ℕ = length bytes * 8 in
    let m : ℕ = low_first bytes in
    let steps : suc (length bytes) * 8 ≡ 8 + n = omega arith in
    let whole : bit_xor byte (m * 2 ^ 8) ≡ byte + m * 2 ^ 8 = xor_comm byte (m * 2 ^ 8) ∙ xor_shifted m 8 byte fit.0 ∙ add_comm (m * 2 ^ 8) byte in
    crc_bits-append crc (low_bits 8 byte) (bits_of bytes)
    ∙ ap (λ (x : ℕ). crc_bits x (bits_of bytes)) (bits-stepped 8 crc byte fit.0)
    ∙ bytes-stepped (stepped 8 (bit_xor crc byte)) bytes fit.1
    ∙ ap (λ (x : ℕ). stepped n (bit_xor (stepped 8 (bit_xor crc byte)) x)) (sym (stepped-high 8 0 m))
    ∙ ap (stepped n) (sym (stepped-xor 8 (bit_xor crc byte) (m * 2 ^ 8)))
    ∙ ap (λ (x : ℕ). stepped n (stepped 8 x)) (xor_assoc crc byte (m * 2 ^ 8) ∙ ap (bit_xor crc) whole)
    ∙ sym (ap (λ (k : ℕ). stepped k (bit_xor crc (byte + m * 2 ^ 8))) steps ∙ stepped-more 8 n (bit_xor crc (byte + m * 2 ^ 8)))

-- the steps of a number by its lowest byte and the others
pub next-byte : (n a : ℕ) → stepped (8 + n) a ≡ bit_xor (stepped n (a / 2 ^ 8)) (stepped (8 + n) (a % 2 ^ 8))
next-byte n a =
    ap (stepped (8 + n)) (parts 8 a) ∙ stepped-xor (8 + n) (a / 2 ^ 8 * 2 ^ 8) (a % 2 ^ 8)
    ∙ ap (λ (x : ℕ). bit_xor x (stepped (8 + n) (a % 2 ^ 8))) (stepped-high 8 n (a / 2 ^ 8))

next-of : (n a b : ℕ) → a / 2 ^ 8 ≡ b → stepped (8 + n) a ≡ bit_xor (stepped n b) (stepped (8 + n) (a % 2 ^ 8))
next-of n a b e = next-byte n a ∙ ap (λ (x : ℕ). bit_xor (stepped n x) (stepped (8 + n) (a % 2 ^ 8))) e

-- eight bytes
pub word-by-bytes : (x : ℕ) → x < 2 ^ 64 → stepped 64 x
    ≡ bit_xor (bit_xor (bit_xor (bit_xor (bit_xor (bit_xor (bit_xor (stepped 8 (byte_at 7 x)) (stepped 16 (byte_at 6 x))) (stepped 24 (byte_at 5 x))) (stepped 32 (byte_at 4 x)))
    (stepped 40 (byte_at 3 x))) (stepped 48 (byte_at 2 x))) (stepped 56 (byte_at 1 x))) (stepped 64 (byte_at 0 x))
word-by-bytes x fits =
    let last : x / 2 ^ 56 ≡ byte_at 7 x = omega (arith, fits) in
    next-of 56 x (x / 2 ^ 8) refl
    ∙ ap (λ y. bit_xor y (stepped 64 (byte_at 0 x))) (next-of 48 (x / 2 ^ 8) (x / 2 ^ 16) (omega arith)
    ∙ ap (λ y. bit_xor y (stepped 56 (byte_at 1 x))) (next-of 40 (x / 2 ^ 16) (x / 2 ^ 24) (omega arith)
    ∙ ap (λ y. bit_xor y (stepped 48 (byte_at 2 x))) (next-of 32 (x / 2 ^ 24) (x / 2 ^ 32) (omega arith)
    ∙ ap (λ y. bit_xor y (stepped 40 (byte_at 3 x))) (next-of 24 (x / 2 ^ 32) (x / 2 ^ 40) (omega arith)
    ∙ ap (λ y. bit_xor y (stepped 32 (byte_at 4 x))) (next-of 16 (x / 2 ^ 40) (x / 2 ^ 48) (omega arith)
    ∙ ap (λ y. bit_xor y (stepped 24 (byte_at 5 x))) (next-of 8 (x / 2 ^ 48) (x / 2 ^ 56) (omega arith)
    ∙ ap (λ y. bit_xor y (stepped 16 (byte_at 6 x))) (ap (stepped 8) last)))))))

eight : (crc a b c d e f g h : ℕ) → AllByRecursion (λ x. x < 2 ^ 8) (a ∷ b ∷ c ∷ d ∷ e ∷ f ∷ g ∷ h ∷ [])
    → stepped 64 (bit_xor crc (from_le_bytes w64 (a ∷ b ∷ c ∷ d ∷ e ∷ f ∷ g ∷ h ∷ []))) ≡ crc_bits crc (bits_of (a ∷ b ∷ c ∷ d ∷ e ∷ f ∷ g ∷ h ∷ []))
unfolding low_first
eight crc a b c d e f g h fit =
    let spelled : from_le_bytes w64 (a ∷ b ∷ c ∷ d ∷ e ∷ f ∷ g ∷ h ∷ []) ≡ low_first (a ∷ b ∷ c ∷ d ∷ e ∷ f ∷ g ∷ h ∷ []) = omega arith in
    ap (λ (x : ℕ). stepped 64 (bit_xor crc x)) spelled ∙ sym (bytes-stepped crc (a ∷ b ∷ c ∷ d ∷ e ∷ f ∷ g ∷ h ∷ []) fit)

pub by-eight : (crc : ℕ) (bytes : List ℕ) → length bytes ≡ 8 → ((i : ℕ) → get_or bytes i 0 < 256) → stepped 64 (bit_xor crc (from_le_bytes w64 bytes)) ≡ crc_bits crc (bits_of bytes)
by-eight crc [] long fit = absurd (omega (arith, long))
by-eight crc (a ∷ []) long fit = absurd (omega (arith, long))
by-eight crc (a ∷ b ∷ []) long fit = absurd (omega (arith, long))
by-eight crc (a ∷ b ∷ c ∷ []) long fit = absurd (omega (arith, long))
by-eight crc (a ∷ b ∷ c ∷ d ∷ []) long fit = absurd (omega (arith, long))
by-eight crc (a ∷ b ∷ c ∷ d ∷ e ∷ []) long fit = absurd (omega (arith, long))
by-eight crc (a ∷ b ∷ c ∷ d ∷ e ∷ f ∷ []) long fit = absurd (omega (arith, long))
by-eight crc (a ∷ b ∷ c ∷ d ∷ e ∷ f ∷ g ∷ []) long fit = absurd (omega (arith, long))
by-eight crc (a ∷ b ∷ c ∷ d ∷ e ∷ f ∷ g ∷ h ∷ []) long fit =
    eight crc a b c d e f g h (fit 0, (fit 1, (fit 2, (fit 3, (fit 4, (fit 5, (fit 6, (fit 7, tt))))))))
by-eight crc (a ∷ b ∷ c ∷ d ∷ e ∷ f ∷ g ∷ h ∷ i ∷ more) long fit = absurd (omega (arith, long))

-- bytes in front of others
pub bits-in-front : (crc : ℕ) (front tail : List ℕ) → crc_bits (crc_bits crc (bits_of front)) (bits_of tail) ≡ crc_bits crc (bits_of (front ++ tail))
bits-in-front crc front tail = sym (ap (crc_bits crc) (flat_map-append (low_bits 8) front tail) ∙ crc_bits-append crc (bits_of front) (bits_of tail))

-- eight bytes are read from the front of what is left
pub front-read : (crc new : ℕ) (rest : List ℕ) (all : ℕ) → 8 ≤ length rest → new ≡ crc_bits crc (bits_of (get_or rest 0 0 ∷ get_or rest 1 0 ∷ get_or rest 2 0 ∷ get_or rest 3 0 ∷ get_or rest 4 0 ∷ get_or rest 5 0 ∷ get_or rest 6 0 ∷ get_or rest 7 0 ∷ [])) → crc_bits crc (bits_of rest) ≡ all
    → crc_bits new (bits_of (take (length rest - 8) (drop 8 rest))) ≡ all
front-read crc new [] all long reported so_far = absurd (omega (arith, long))
front-read crc new (a ∷ []) all long reported so_far = absurd (omega (arith, long))
front-read crc new (a ∷ b ∷ []) all long reported so_far = absurd (omega (arith, long))
front-read crc new (a ∷ b ∷ c ∷ []) all long reported so_far = absurd (omega (arith, long))
front-read crc new (a ∷ b ∷ c ∷ d ∷ []) all long reported so_far = absurd (omega (arith, long))
front-read crc new (a ∷ b ∷ c ∷ d ∷ e ∷ []) all long reported so_far = absurd (omega (arith, long))
front-read crc new (a ∷ b ∷ c ∷ d ∷ e ∷ f ∷ []) all long reported so_far = absurd (omega (arith, long))
front-read crc new (a ∷ b ∷ c ∷ d ∷ e ∷ f ∷ g ∷ []) all long reported so_far = absurd (omega (arith, long))
front-read crc new (a ∷ b ∷ c ∷ d ∷ e ∷ f ∷ g ∷ x ∷ tail) all long reported so_far =
    let left : length (a ∷ b ∷ c ∷ d ∷ e ∷ f ∷ g ∷ x ∷ tail) - 8 ≡ length tail = omega arith in
    rw (left, take_all (length tail) tail (omega arith), reported) (bits-in-front crc (a ∷ b ∷ c ∷ d ∷ e ∷ f ∷ g ∷ x ∷ []) tail ∙ so_far)

-- one byte is read
pub byte-read : (crc new : ℕ) (rest : List ℕ) (i all : ℕ) → i < length rest → new ≡ crc_bits crc (low_bits 8 (get_or rest i 0)) → crc_bits crc (bits_of (drop i rest)) ≡ all
    → crc_bits new (bits_of (drop (i + 1) rest)) ≡ all
byte-read crc new rest i all lt e h =
    rw e (sym (crc_bits-append crc (low_bits 8 (get_or rest i 0)) (bits_of (drop (i + 1) rest)))
    ∙ sym (ap (λ (l : List ℕ). crc_bits crc (bits_of l)) (drop_more rest i 0 lt)) ∙ h)

pub all-read : (crc : ℕ) (rest : List ℕ) (i all : ℕ) → length rest ≤ i → crc_bits crc (bits_of (drop i rest)) ≡ all → crc ≡ all
unfolding crc_bits
all-read crc rest i all le h = sym (ap (λ (l : List ℕ). crc_bits crc (bits_of l)) (drop_all i rest le)) ∙ h

-- ---- tables

-- the values of f at the n numbers from one on
unfoldable pub values : {A : Type 0} → (ℕ → A) → ℕ → ℕ → List A
values f start zero = []
values f start (suc n) = f start ∷ values f (suc start) n

pub value-at : {A : Type 0} (f : ℕ → A) (start n i : ℕ) (none : A) → i < n → get_or (values f start n) i none ≡ f (start + i)
unfolding values
value-at f start zero i none lt = absurd (omega (arith, lt))
value-at f start (suc n) zero none lt = let same : start ≡ start + 0 = omega arith in ap f same
value-at f start (suc n) (suc i) none lt =
    let same : suc start + i ≡ start + suc i = omega arith in
    value-at f (suc start) n i none (omega (arith, lt)) ∙ ap f same

pub looked-up : (tables : List (List ℕ)) (f : ℕ → ℕ → ℕ) (n k i : ℕ) (none : List ℕ) → tables ≡ values (λ j. values (f j) 0 256) 0 n → k < n → i < 256 → get_or (get_or tables k none) i 0 ≡ f k i
looked-up tables f n k i none e lt small =
    ap (λ (t : List (List ℕ)). get_or (get_or t k none) i 0) e
    ∙ ap (λ (t : List ℕ). get_or t i 0) (value-at (λ j. values (f j) 0 256) 0 n k none lt ∙ ap (λ (j : ℕ). values (f j) 0 256) (zero-add k))
    ∙ value-at (f k) 0 256 i 0 small ∙ ap (f k) (zero-add i)

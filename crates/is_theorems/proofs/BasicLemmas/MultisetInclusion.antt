-- A list is contained in another one as a multiset, if no test passes more of its elements.
use Rattle.is_theorems.proofs.Common.{[], ◌&&◌, ◌++◌, ◌+◌, ◌∙◌, ◌∷◌, ◌≡◌, ◌≤◌, ap, AreAmong, arith, Bool, bytes_eq, bytes_eq-Decides, count}
use Rattle.is_theorems.proofs.Common.{eq-eqb, false, ipv4_octets, ipv6_segments, List, one_if, Protocol, protocol_number, refl}
use Rattle.is_theorems.proofs.Common.{same_address, same_protocol, SocketAddr, sym, Transaction, true, V4, v4_ip, v4_port, V6, v6_flowinfo}
use Rattle.is_theorems.proofs.Common.{v6_ip, v6_port, v6_scope_id, ℕ}
use Rattle.is_theorems.proofs.BasicLemmas.EqualAddresses.{both, same_address-sound, same_protocol-sound}

-- ---- whether two transactions are one

abbrev same_transaction : Transaction → Transaction → Bool
same_transaction a b =
    same_protocol a.via.proto b.via.proto && same_address a.via.source b.via.source && same_address a.via.destination b.via.destination && bytes_eq a.id b.id

and_true : (a b : Bool) → a ≡ true → b ≡ true → (a && b) ≡ true
and_true true b h k = k
and_true false b h k = let no : false ≡ true = h in cc

same_bytes : (a : List ℕ) → bytes_eq a a ≡ true
same_bytes a = (bytes_eq-Decides a a).1 refl

address-same : (a : SocketAddr) → same_address a a ≡ true
address-same (V4 a) = and_true _ _ (same_bytes (ipv4_octets (v4_ip a))) (eq-eqb (v4_port a) (v4_port a) refl)
address-same (V6 a) =
    and_true _ _
    (and_true _ _ (and_true _ _ (same_bytes (ipv6_segments (v6_ip a))) (eq-eqb (v6_port a) (v6_port a) refl)) (eq-eqb (v6_flowinfo a) (v6_flowinfo a) refl))
    (eq-eqb (v6_scope_id a) (v6_scope_id a) refl)

same-refl : (a : Transaction) → same_transaction a a ≡ true
same-refl a =
    and_true _ _
    (and_true _ _ (and_true _ _ (eq-eqb (protocol_number a.via.proto) (protocol_number a.via.proto) refl) (address-same a.via.source)) (address-same a.via.destination))
    (same_bytes a.id)

same-sound : (a b : Transaction) → same_transaction a b ≡ true → a ≡ b
same-sound a b h =
    let k = both (same_protocol a.via.proto b.via.proto && same_address a.via.source b.via.source && same_address a.via.destination b.via.destination) (bytes_eq a.id b.id) h in
    let l = both (same_protocol a.via.proto b.via.proto && same_address a.via.source b.via.source) (same_address a.via.destination b.via.destination) k.0 in
    let m = both (same_protocol a.via.proto b.via.proto) (same_address a.via.source b.via.source) l.0 in
    let proto : a.via.proto ≡ b.via.proto = same_protocol-sound a.via.proto b.via.proto m.0 in
    let source : a.via.source ≡ b.via.source = same_address-sound a.via.source b.via.source m.1 in
    let destination : a.via.destination ≡ b.via.destination = same_address-sound a.via.destination b.via.destination l.1 in
    let id : a.id ≡ b.id = (bytes_eq-Decides a.id b.id).0 k.1 in
    ap (λ p. made p a.via.source a.via.destination a.id) proto
    ∙ ap (λ s. made b.via.proto s a.via.destination a.id) source
    ∙ ap (λ d. made b.via.proto b.via.source d a.id) destination
    ∙ ap (λ i. made b.via.proto b.via.source b.via.destination i) id where
      made : Protocol → SocketAddr → SocketAddr → List ℕ → Transaction
      made p s d i = record { via = record { proto = p; source = s; destination = d }; id = i }

-- ---- counts

count-split : (test : Transaction → Bool) (front back : List Transaction) (x : Transaction)
    → count test (front ++ x ∷ back) ≡ one_if (test x) + count test (front ++ back)
count-split test [] back x = refl
count-split test (y ∷ front) back x =
    let k : count test (front ++ x ∷ back) ≡ one_if (test x) + count test (front ++ back) = count-split test front back x in omega (arith, k)

-- the element is there, if its test passes one
abbrev Persists : Transaction → List Transaction → Type 0
Persists x ys = (front back : List Transaction) × (ys ≡ front ++ x ∷ back)

found_at : (x y : Transaction) (ys : List Transaction) (b : Bool) → same_transaction x y ≡ b → 1 ≤ one_if b + count (same_transaction x) ys
    → (1 ≤ count (same_transaction x) ys → Persists x ys) → Persists x (y ∷ ys)
found_at x y ys true is some later = ([], ys, ap (λ (z : Transaction). z ∷ ys) (sym (same-sound x y is)))
found_at x y ys false is some later = let k = later (omega (arith, some)) in (y ∷ k.0, k.1, ap (λ (zs : List Transaction). y ∷ zs) k.2)

found : (x : Transaction) (ys : List Transaction) → 1 ≤ count (same_transaction x) ys → Persists x ys
found x [] some = absurd (let none : ⊥ = omega (arith, some) in none)
found x (y ∷ ys) some = found_at x y ys (same_transaction x y) refl some (λ fewer. found x ys fewer)

pub among_by_counts : (xs ys : List Transaction) → ((test : Transaction → Bool) → count test xs ≤ count test ys) → AreAmong xs ys
among_by_counts [] ys fewer = tt
among_by_counts (x ∷ xs) ys fewer =
    let one : one_if (same_transaction x x) ≡ 1 = ap one_if (same-refl x) in
    let at_least : one_if (same_transaction x x) + count (same_transaction x) xs ≤ count (same_transaction x) ys = fewer (same_transaction x) in
    let k = found x ys (omega (arith, one, at_least)) in (
      k.0,
      k.1,
      k.2,
      among_by_counts xs (k.0 ++ k.1) (λ test. (
          let least : one_if (test x) + count test xs ≤ count test ys = fewer test in
          let all : count test ys ≡ one_if (test x) + count test (k.0 ++ k.1) = ap (count test) k.2 ∙ count-split test k.0 k.1 x in
          omega (arith, least, all))),
    )

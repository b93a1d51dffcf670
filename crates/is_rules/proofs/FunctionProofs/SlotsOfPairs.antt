-- The slots by which a combination finds its redundant pairs.
use Rattle.std.specs.declared.net.ipv4_addr.Ipv4Addr.{Ipv4Addr}
use Rattle.std.specs.Net.Addr.{ipv4_bits, ipv4_octets, ipv6_segments}
use Rattle.std.specs.Net.Socket.{v4_ip, v4_port, v6_ip, v6_port, v6_flowinfo, v6_scope_id}
use Rattle.is_candidate.specs.Addresses.{same_address, same_protocol}
use Rattle.is_rules.proofs.Common.{[], ◌%◌, ◌&&◌, ◌*◌, ◌++◌, ◌+◌, ◌-◌, ◌<◌, ◌==◌, ◌^◌, ◌∙◌, ◌∷◌, ◌≡◌, ◌⊎◌, address_number, ap, AreHeld}
use Rattle.is_rules.proofs.Common.{arith, base_of, Bool, bytes_eq, bytes_eq-Decides, candidate_at, Combination, combined_priority, eqb-true}
use Rattle.is_rules.proofs.Common.{false, filter, Formed, formed_as, Has, if◌then◌else◌, inl, inr, is_numbered, is_redundant, IsGreatest}
use Rattle.is_rules.proofs.Common.{IsHeld, length, List, MAX, nat_lt, None, not, Option, pair_numbered, pair_of, PairRecord, refl, rises}
use Rattle.is_rules.proofs.Common.{SidesRecord, slice_index, slot_of, SocketAddr, Some, subst, sym, taking_over, tried, true, unwrap_or, V4}
use Rattle.is_rules.proofs.Common.{V6, without, ℕ}
use Rattle.is_rules.proofs.FunctionProofs.EvictedPairs.{filtered-had}
use Rattle.is_rules.proofs.PairLists.PairsByNumber.{both, numbered-found}
use Rattle.is_rules.proofs.PairLists.PairsInLists.{taken-places}

-- ---- equal addresses have the same slot

same_bytes : (a b : List ℕ) → bytes_eq a b ≡ true → a ≡ b
same_bytes a b h = (bytes_eq-Decides a b).0 h

number-same : (a b : SocketAddr) → same_address a b ≡ true → address_number a ≡ address_number b
number-same (V4 a) (V4 b) h =
    let k = both (bytes_eq (ipv4_octets (v4_ip a)) (ipv4_octets (v4_ip b))) (v4_port a == v4_port b) h in
    let octets : a.ip ≡ b.ip = ap (λ o. let x : Ipv4Addr = record { octets = o } in x) (same_bytes (ipv4_octets (v4_ip a)) (ipv4_octets (v4_ip b)) k.0) in
    let port : v4_port a ≡ v4_port b = eqb-true (v4_port a) (v4_port b) k.1 in
    ap (λ ip. ipv4_bits ip * 2 ^ 16 + v4_port a) octets ∙ ap (λ p. ipv4_bits (v4_ip b) * 2 ^ 16 + p) port
number-same (V6 a) (V6 b) h =
    let k = both (bytes_eq (ipv6_segments (v6_ip a)) (ipv6_segments (v6_ip b)) && v6_port a == v6_port b && v6_flowinfo a == v6_flowinfo b) (v6_scope_id a == v6_scope_id b) h in
    let l = both (bytes_eq (ipv6_segments (v6_ip a)) (ipv6_segments (v6_ip b)) && v6_port a == v6_port b) (v6_flowinfo a == v6_flowinfo b) k.0 in
    let m = both (bytes_eq (ipv6_segments (v6_ip a)) (ipv6_segments (v6_ip b))) (v6_port a == v6_port b) l.0 in
    let port : v6_port a ≡ v6_port b = eqb-true (v6_port a) (v6_port b) m.1 in
    ap (λ (o : List ℕ). (slice_index o 3 * 2 ^ 16 + slice_index o 7) * 2 ^ 16 + v6_port a) (same_bytes (ipv6_segments (v6_ip a)) (ipv6_segments (v6_ip b)) m.0)
    ∙ ap (λ p. (slice_index (ipv6_segments (v6_ip b)) 3 * 2 ^ 16 + slice_index (ipv6_segments (v6_ip b)) 7) * 2 ^ 16 + p) port
number-same (V4 a) (V6 b) h = absurd (cc)
number-same (V6 a) (V4 b) h = absurd (cc)

slot-same : (s : SidesRecord) (many : ℕ) (at : Combination) (q : PairRecord) → is_redundant s at q ≡ true → slot_of s many (q.local, q.remote) ≡ slot_of s many at
slot-same s many at q h =
    let base = same_address (base_of (candidate_at s.local q.local)) (base_of (candidate_at s.local at.0)) in
    let proto = same_protocol (candidate_at s.local q.local).proto (candidate_at s.local at.0).proto in
    let addr = same_address (candidate_at s.remote q.remote).addr (candidate_at s.remote at.1).addr in
    let k = both (base && proto && addr) (same_protocol (candidate_at s.remote q.remote).proto (candidate_at s.remote at.1).proto) h in
    let l = both (base && proto) addr k.0 in
    let m = both base proto l.0 in
    let b = number-same (base_of (candidate_at s.local q.local)) (base_of (candidate_at s.local at.0)) m.0 in
    let a = number-same (candidate_at s.remote q.remote).addr (candidate_at s.remote at.1).addr l.1 in
    ap (λ n. (n * 65521 + address_number (candidate_at s.remote q.remote).addr) % many) b
    ∙ ap (λ n. (address_number (base_of (candidate_at s.local at.0)) * 65521 + n) % many) a

-- ---- what is found

none-filter : {X : Type 0} (t : X → Bool) (xs : List X) → ((x : X) → Has xs x → t x ≡ true → ⊥) → filter t xs ≡ []
none-filter t [] none = refl
none-filter t (x ∷ xs) none = elim (t x) as (λ b. t x ≡ b → (if b then x ∷ filter t xs else filter t xs) ≡ []) [
  | true ↦ λ is. absurd (none x (inl refl) is)
  | false ↦ λ is. none-filter t xs (λ y has. none y (inr has))
] refl

module _ (s : SidesRecord) (at : Combination) (held : List ℕ) (pairs : List PairRecord) (are : AreHeld s held pairs) (some : 0 < length held) where
  -- the slot of the combination holds each redundant pair
  held-redundant : (q : PairRecord) → Has pairs q → is_redundant s at q ≡ true → IsHeld held (slot_of s (length held) at) q.number
  held-redundant q has is = subst (λ k. IsHeld held k q.number) (slot-same s (length held) at q is) (are some q has)

  pub none-held : slice_index held (slot_of s (length held) at) ≡ 0 → IsGreatest (is_redundant s at) pairs None
  none-held empty = none-filter (is_redundant s at) pairs (λ q has is. by q (held-redundant q has is)) where
    by : (q : PairRecord) → IsHeld held (slot_of s (length held) at) q.number → ⊥
    by q (inl e) = omega (arith, e, empty)
    by q (inr e) = omega (arith, e, empty)

  pub only-held : (next : ℕ) → slice_index held (slot_of s (length held) at) ≡ next → next < MAX → (q : PairRecord) → Has pairs q → is_redundant s at q ≡ true → q.number ≡ next - 1
  only-held next is few q has passes = by (held-redundant q has passes) where
    by : IsHeld held (slot_of s (length held) at) q.number → q.number ≡ next - 1
    by (inl e) = omega (arith, e, is)
    by (inr e) = absurd (omega (arith, e, is, few))

-- only the pair with the number can pass
module _ (t : PairRecord → Bool) (ps : List PairRecord) (number : ℕ) (rising : rises ps ≡ true) (only : (q : PairRecord) → Has ps q → t q ≡ true → q.number ≡ number) where
  found-only : (q : PairRecord) → Has ps q → t q ≡ true → pair_numbered number ps ≡ Some q
  found-only q has is = subst (λ n. pair_numbered n ps ≡ Some q) (only q has is) (numbered-found ps q rising has)

  pub one-none : pair_numbered number ps ≡ None → IsGreatest t ps None
  one-none none = none-filter t ps (λ q has is. let found = found-only q has is in cc)

  pub one-fails : (p : PairRecord) → pair_numbered number ps ≡ Some p → t p ≡ false → IsGreatest t ps None
  one-fails p found fails = none-filter t ps (λ q has is. let other = found-only q has is in let same : p ≡ q = cc in let its : t p ≡ true = ap t same ∙ is in cc)

  pub one-greatest : (p : PairRecord) → pair_numbered number ps ≡ Some p → Has ps p → t p ≡ true → IsGreatest t ps (Some p)
  one-greatest p found has is = (
    has,
    is,
    λ q there passes.
        let other = found-only q there passes in
        let same : p ≡ q = cc in
        let priority : p.priority ≡ q.priority = ap (λ (r : PairRecord). r.priority) same in
        omega (arith, priority),
  )

-- ---- after one combination

has-last : {X : Type 0} (xs : List X) (y x : X) → Has (xs ++ y ∷ []) x → Has xs x ⊎ (y ≡ x)
has-last [] y x (inl e) = inr e
has-last [] y x (inr h) = absurd h
has-last (z ∷ zs) y x (inl e) = inl (inl e)
has-last (z ∷ zs) y x (inr h) = wider (has-last zs y x h) where
  wider : Has zs x ⊎ (y ≡ x) → Has (z ∷ zs) x ⊎ (y ≡ x)
  wider (inl had) = inl (inr had)
  wider (inr e) = inr e

taken-number : (lite : Bool) (other p : PairRecord) → (taking_over lite other p).number ≡ p.number
taken-number true other p = refl
taken-number false other p = refl

-- the pair is the new one
abbrev pub IsNew : Combination → Formed → Formed → PairRecord → Type 0
IsNew at old new q = (q.number ≡ old.next_number) × (q.local ≡ at.0) × (q.remote ≡ at.1) × (new.next_number ≡ old.next_number + 1)

pub has-tried : (s : SidesRecord) (at : Combination) (found : Option PairRecord) (old : Formed) (q : PairRecord) → Has (tried s at found old).pairs q
    → Has old.pairs q ⊎ IsNew at old (tried s at found old) q
has-tried s at None old q has = by (has-last old.pairs (pair_of s at old.next_number) q has) where
  by : Has old.pairs q ⊎ (pair_of s at old.next_number ≡ q) → Has old.pairs q ⊎ IsNew at old (tried s at None old) q
  by (inl had) = inl had
  by (inr e) = inr (sym (ap (λ (p : PairRecord). p.number) e), sym (ap (λ (p : PairRecord). p.local) e), sym (ap (λ (p : PairRecord). p.remote) e), refl)
has-tried s at (Some found) old q has = (elim (nat_lt found.priority (combined_priority s at))
    as (λ b. Has (if b then formed_as (without (is_numbered found.number) old.pairs ++ taking_over s.lite found (pair_of s at old.next_number) ∷ []) (old.next_number + 1) else old).pairs q
    → Has old.pairs q ⊎ IsNew at old (if b then formed_as (without (is_numbered found.number) old.pairs ++ taking_over s.lite found (pair_of s at old.next_number) ∷ []) (old.next_number + 1) else old) q) [
      | true ↦ λ h. by (has-last (without (is_numbered found.number) old.pairs) own q h)
      | false ↦ λ h. inl h
    ]) has
  where
    own : PairRecord
    own = taking_over s.lite found (pair_of s at old.next_number)

    by : Has (without (is_numbered found.number) old.pairs) q ⊎ (own ≡ q)
        → Has old.pairs q ⊎ IsNew at old (formed_as (without (is_numbered found.number) old.pairs ++ own ∷ []) (old.next_number + 1)) q
    by (inl had) = inl (filtered-had (λ p. not (is_numbered found.number p)) old.pairs q had)
    by (inr e) =
        let places = taken-places s.lite found (pair_of s at old.next_number) in
        inr (
          sym (ap (λ (p : PairRecord). p.number) e) ∙ taken-number s.lite found (pair_of s at old.next_number),
          sym (ap (λ (p : PairRecord). p.local) e) ∙ places.0,
          sym (ap (λ (p : PairRecord). p.remote) e) ∙ places.1,
          refl,
        )

-- ---- the slots hold one more pair

module _ (s : SidesRecord) (old new : List ℕ) (long : length new ≡ length old) (others : (other n : ℕ) → IsHeld old other n → IsHeld new other n) where
  still : (p : PairRecord) → (0 < length old → IsHeld old (slot_of s (length old) (p.local, p.remote)) p.number)
      → 0 < length new → IsHeld new (slot_of s (length new) (p.local, p.remote)) p.number
  still p k some = subst (λ n. IsHeld new (slot_of s n (p.local, p.remote)) p.number) (sym long)
      (others (slot_of s (length old) (p.local, p.remote)) p.number (k (subst (λ n. 0 < n) long some)))

  pub hold-step : (x p : PairRecord) (now rest : List PairRecord) → now ≡ x ∷ rest → (0 < length new → IsHeld new (slot_of s (length new) (x.local, x.remote)) x.number)
      → Has now p ⊎ (0 < length old → IsHeld old (slot_of s (length old) (p.local, p.remote)) p.number)
      → Has rest p ⊎ (0 < length new → IsHeld new (slot_of s (length new) (p.local, p.remote)) p.number)
  hold-step x p now rest is here (inr k) = inr (still p k)
  hold-step x p now rest is here (inl has) = by (subst (λ (ps : List PairRecord). Has ps p) is has) where
    by : Has (x ∷ rest) p → Has rest p ⊎ (0 < length new → IsHeld new (slot_of s (length new) (p.local, p.remote)) p.number)
    by (inl e) = inr (subst (λ (q : PairRecord). 0 < length new → IsHeld new (slot_of s (length new) (q.local, q.remote)) q.number) e here)
    by (inr later) = inl later

  pub next-held : (at : Combination) (number : ℕ) (found : Option PairRecord) (f g : Formed) → g ≡ tried s at found f → f.next_number ≡ number → AreHeld s old f.pairs
      → (0 < length new → IsHeld new (slot_of s (length new) at) number) → AreHeld s new g.pairs
  next-held at number found f g is next held here = λ some p has. by some p (has-tried s at found f p (subst (λ (h : Formed). Has h.pairs p) is has)) where
    by : 0 < length new → (p : PairRecord) → Has f.pairs p ⊎ IsNew at f (tried s at found f) p → IsHeld new (slot_of s (length new) (p.local, p.remote)) p.number
    by some p (inl had) = still p (λ there. held there p had) some
    by some p (inr (number-is, local-is, remote-is, _)) =
        let slot : slot_of s (length new) (p.local, p.remote) ≡ slot_of s (length new) at =
        ap (λ k. slot_of s (length new) (k, p.remote)) local-is ∙ ap (λ k. slot_of s (length new) (at.0, k)) remote-is in
        let own : p.number ≡ number = number-is ∙ next in
        subst (λ k. IsHeld new k p.number) (sym slot) (subst (λ n. IsHeld new (slot_of s (length new) at) n) (sym own) (here some))

-- the pair that is found is one of the pairs
pub found-in : (n : ℕ) (ps : List PairRecord) (p : PairRecord) → pair_numbered n ps ≡ Some p → Has ps p
found-in n [] p is = absurd (cc)
found-in n (x ∷ xs) p is = (elim (is_numbered n x) as (λ b. (if b then Some x else pair_numbered n xs) ≡ Some p → Has (x ∷ xs) p) [
  | true ↦ λ e. inl (ap (λ o. unwrap_or o x) e)
  | false ↦ λ e. inr (found-in n xs p e)
]) is

-- The indices of combinations are in the lists of candidates.
use Rattle.is_rules.proofs.Common.{[], ◌++◌, ◌+◌, ◌<◌, ◌∷◌, ◌≡◌, ◌≤◌, ◌⊎◌, All, ap, AreIn, arith, Bool, candidate_at, CandidateRecord}
use Rattle.is_rules.proofs.Common.{Combination, false, filter, flat_map, get_or, Has, if◌then◌else◌, inl, inr, is_alive, is_partner, length}
use Rattle.is_rules.proofs.Common.{List, live_combinations, live_places, live_row, local_combinations, map, nowhere, partners, places_where}
use Rattle.is_rules.proofs.Common.{range_with_len, refl, remote_combinations, subst, suc, true, zero, ℕ}

Has-filter : {X : Type 0} (keep : X → Bool) (xs : List X) (x : X) → Has (filter keep xs) x → Has xs x
Has-filter keep [] x h = absurd h
Has-filter keep (y ∷ ys) x h =
    (elim (keep y) as (λ b. Has (if b then y ∷ filter keep ys else filter keep ys) x → Has (y ∷ ys) x) [
      | true ↦ λ k. elim k [ inl e ↦ inl e | inr rest ↦ inr (Has-filter keep ys x rest) ]
      | false ↦ λ k. inr (Has-filter keep ys x k)
    ]) h

Has-map : {X Y : Type 0} (f : X → Y) (xs : List X) (y : Y) → Has (map f xs) y → (x : X) × Has xs x × (f x ≡ y)
Has-map f [] y h = absurd h
Has-map f (x ∷ xs) y (inl e) = (x, inl refl, e)
Has-map f (x ∷ xs) y (inr h) = let r = Has-map f xs y h in (r.0, inr r.1, r.2)

pub Has-at : {X : Type 0} (xs : List X) (i : ℕ) (d : X) → i < length xs → Has xs (get_or xs i d)
Has-at [] i d lt = let at_least : 0 ≤ i = omega arith in absurd (let none : ⊥ = omega (arith, lt) in none)
Has-at (x ∷ xs) zero d lt = inl refl
Has-at (x ∷ xs) (suc i) d lt = inr (Has-at xs i d (omega (arith, lt)))

pub Has-append : {X : Type 0} (xs ys : List X) (x : X) → Has (xs ++ ys) x → Has xs x ⊎ Has ys x
Has-append [] ys x h = inr h
Has-append (z ∷ zs) ys x (inl e) = inl (inl e)
Has-append (z ∷ zs) ys x (inr h) = elim (Has-append zs ys x h) [ inl k ↦ inl (inr k) | inr k ↦ inr k ]

in_range : (a n i : ℕ) → Has (range_with_len a n) i → i < a + n
in_range a zero i h = absurd h
in_range a (suc n) i (inl e) = subst (λ k. k < a + suc n) e (omega arith)
in_range a (suc n) i (inr h) = let rest = in_range (a + 1) n i h in omega (arith, rest)

pub in_places : (test : CandidateRecord → Bool) (cs : List CandidateRecord) (i : ℕ) → Has (places_where nowhere test cs) i → i < length cs
in_places test cs i h = let lt = in_range 0 (length cs) i (Has-filter _ (range_with_len 0 (length cs)) i h) in omega (arith, lt)

-- the combinations of a local candidate, of a remote one, and of all live ones
pub own_places : (c : CandidateRecord) (l : ℕ) (remote : List CandidateRecord) (at : Combination) → Has (local_combinations c l remote) at → (l ≡ at.0) × (at.1 < length remote)
own_places c l remote at h =
    let o = Has-map (λ r. (let pair : Combination = (l, r) in pair)) (partners c remote) at h in
    (ap (λ (x : Combination). x.0) o.2, subst (λ r. r < length remote) (ap (λ (x : Combination). x.1) o.2) (in_places (is_partner c) remote o.0 o.1))

pub their_places : (c : CandidateRecord) (r : ℕ) (local : List CandidateRecord) (at : Combination) → Has (remote_combinations c r local) at → (at.0 < length local) × (r ≡ at.1)
their_places c r local at h =
    let o = Has-map (λ l. (let pair : Combination = (l, r) in pair)) (partners c local) at h in
    (subst (λ l. l < length local) (ap (λ (x : Combination). x.0) o.2) (in_places (is_partner c) local o.0 o.1), ap (λ (x : Combination). x.1) o.2)

pub all_places : (local remote : List CandidateRecord) (ls : List ℕ) (at : Combination) → Has (flat_map (live_row local remote) ls) at → Has ls at.0 × (at.1 < length remote)
all_places local remote [] at h = absurd h
all_places local remote (l ∷ ls) at h = elim (Has-append (live_row local remote l) (flat_map (live_row local remote) ls) at h) [
  | inl k ↦ (let o = own_places (candidate_at local l) l remote at k in (inl o.0, o.1))
  | inr k ↦ (let o = all_places local remote ls at k in (inr o.0, o.1))
]

-- ---- for the functions that form pairs

every : {X : Type 0} (P : X → Type 0) (xs : List X) → ((x : X) → Has xs x → P x) → All P xs
every P xs each k d lt = each (get_or xs k d) (Has-at xs k d lt)

pub own-in : (c : CandidateRecord) (l : ℕ) (remote : List CandidateRecord) (locals : ℕ) → l < locals → AreIn locals (length remote) (local_combinations c l remote)
own-in c l remote locals lt = every (λ (at : Combination). (at.0 < locals) × (at.1 < length remote)) (local_combinations c l remote) (λ at has.
    let o = own_places c l remote at has in (subst (λ k. k < locals) o.0 lt, o.1))

pub their-in : (c : CandidateRecord) (r : ℕ) (local : List CandidateRecord) (remotes : ℕ) → r < remotes → AreIn (length local) remotes (remote_combinations c r local)
their-in c r local remotes lt = every (λ (at : Combination). (at.0 < length local) × (at.1 < remotes)) (remote_combinations c r local) (λ at has.
    let o = their_places c r local at has in (o.0, subst (λ k. k < remotes) o.1 lt))

pub live-in : (local remote : List CandidateRecord) → AreIn (length local) (length remote) (live_combinations local remote)
live-in local remote = every (λ (at : Combination). (at.0 < length local) × (at.1 < length remote)) (live_combinations local remote) (λ at has.
    let o = all_places local remote (live_places local) at has in (in_places is_alive local at.0 o.0, o.1))

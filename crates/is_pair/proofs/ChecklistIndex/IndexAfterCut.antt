-- The index of a checklist after one check was cut.
use Rattle.is_pair.specs.declared.pair.cut.Cut.TheVariants.{Nothing, Oldest, Several}
use Rattle.is_pair.proofs.Common.{[], ◌++◌, ◌-◌, ◌<◌, ◌||◌, ◌∙◌, ◌∷◌, ◌≡◌, ap, arith, Bool, bytes_eq, bytes_eq-Decides, Check, Cut}
use Rattle.is_pair.proofs.Common.{CutsByNext, drop, false, filter, get_or, has_id, if◌then◌else◌, is_before, is_current, is_kept, IsIndex}
use Rattle.is_pair.proofs.Common.{Kept, last_checks, LeavesCurrent, length, length-append, List, list_all, list_any-append, not}
use Rattle.is_pair.proofs.Common.{pair_numbered, PairRecord, refl, remove, rises, slice_get, Some, suc, sym, true, zero, ℕ}
use Rattle.is_pair.proofs.PairEntries.ChangedEntry.{both, filter-whole}
use Rattle.is_pair.proofs.ChecklistIndex.SortedById.{IsEnd, IsPoint, is-following, not-before, other-id}
use Rattle.is_pair.proofs.ChecklistIndex.IndexAfterCheck.{all-current, all-spared, kept-uncut}

-- ---- one entry is removed

other-before : (a b : List ℕ) → is_before a b ≡ true → bytes_eq a b ≡ false
other-before a b is =
    elim (bytes_eq a b) as (λ x. bytes_eq a b ≡ x → x ≡ false) [
      | true ↦ λ same. let none = not-before a b same in absurd (cc)
      | false ↦ λ same. refl
    ] refl

spared : (a b : Bool) → a ≡ false → a || b ≡ true → b ≡ true
spared true b is h = absurd (cc)
spared false b is h = h

module _ (id : List ℕ) (p : PairRecord) where
  abbrev Spares : Kept → Bool
  Spares k = bytes_eq k.id.0 id || is_current p k

  following-current : (ks : List Kept) → list_all Spares ks ≡ true → ((j : ℕ) (d : Kept) → j < length ks → not (is_before id (get_or ks j d).id.0) ≡ false)
      → list_all (is_current p) ks ≡ true
  following-current [] all end = refl
  following-current (k ∷ ks) all end =
      let b = both (Spares k) (list_all Spares ks) all in
      let other = other-id k.id.0 id (is-following (is_before id k.id.0) (end zero k (omega arith))) in
      rw (spared (bytes_eq k.id.0 id) (is_current p k) other b.0) (following-current ks b.1 (λ j d within. end (suc j) d (omega (arith, within))))

  -- if one entry has the id
  pub filter-around : (ks : List Kept) (i : ℕ) (d : Kept) → i < length ks → list_all Spares ks ≡ true → IsPoint id ks i → IsEnd id (drop i ks) 1
      → filter (is_current p) ks ≡ (if is_current p (get_or ks i d) then ks else remove ks i)
  filter-around [] i d within all point end = absurd (omega (arith, within))
  filter-around (k ∷ ks) zero d within all point end =
      let b = both (Spares k) (list_all Spares ks) all in
      let whole = filter-whole (is_current p) ks (following-current ks b.1 (λ j d within. end.1 (suc j) d (omega arith) (omega (arith, within)))) in
      rw whole refl
  filter-around (k ∷ ks) (suc i) d within all point end =
      let b = both (Spares k) (list_all Spares ks) all in
      let other = other-before k.id.0 id (point.0 zero k (omega arith) (omega arith)) in
      let rest = filter-around ks i d (omega (arith, within)) b.1 ((λ j d low below. point.0 (suc j) d (omega arith) (omega arith)), λ j d from in_list. point.1 (suc j) d (omega arith) (omega arith)) end in
      rw (spared (bytes_eq k.id.0 id) (is_current p k) other b.0, rest)
      (elim (is_current p (get_or ks i d)) as (λ c. k ∷ (if c then ks else remove ks i) ≡ (if c then k ∷ ks else k ∷ remove ks i)) [ true ↦ refl | false ↦ refl ])

-- ---- the checks that stay

kept-but-oldest : (m : ℕ) (checks : List Check) (oldest c : Check) (id i : List ℕ) → length checks ≡ m → slice_get checks 0 ≡ Some oldest → oldest.id ≡ id → is_kept i checks ≡ true
    → (bytes_eq i id || is_kept i (last_checks m (checks ++ c ∷ []))) ≡ true
kept-but-oldest m [] oldest c id i full first its kept = absurd (cc)
kept-but-oldest m (d ∷ ds) oldest c id i full first its kept =
    let long = length-append ds (c ∷ []) in
    let one : length (d ∷ (ds ++ c ∷ [])) - m ≡ 1 = omega (arith, long, full) in
    rw (one, list_any-append (has_id i) ds (c ∷ [])) (elim (bytes_eq d.id i) as (λ b. bytes_eq d.id i ≡ b → (b || is_kept i ds) ≡ true → (bytes_eq i id || (is_kept i ds || (bytes_eq c.id i || false))) ≡ true) [
      | true ↦ λ same _.
          let here : d.id ≡ i = (bytes_eq-Decides d.id i).0 same in
          let whose : d ≡ oldest = cc in
          let its_id : i ≡ id = sym here ∙ ap (λ (x : Check). x.id) whose ∙ its in
          rw ((bytes_eq-Decides i id).1 its_id) refl
      | false ↦ λ _ in_rest. rw (in_rest) (or-true (bytes_eq i id))
    ] refl kept) where
      or-true : (a : Bool) → a || true ≡ true
      or-true true = refl
      or-true false = refl

-- what a check leaves of the entries
pub leaves : (m : ℕ) (index : List Kept) (ps : List PairRecord) (n : ℕ) (p after : PairRecord) (c : Check) (cut : Cut) → rises ps ≡ true → pair_numbered n ps ≡ Some p
    → IsIndex index ps → after.number ≡ n → after.checks ≡ last_checks m (p.checks ++ c ∷ []) → CutsByNext m p.checks cut → LeavesCurrent after index cut
leaves m index ps n p after c Nothing rising found indexed number kept few =
    all-current index ps n p after rising found indexed number (λ i was. rw kept (kept-uncut m p.checks c i few was))
leaves m index ps n p after c (Oldest id) rising found indexed number kept (full, oldest, first, its) =
    all-spared (λ i. bytes_eq i id.0) index ps n p after rising found indexed number (λ i was. rw kept (kept-but-oldest m p.checks oldest c id.0 i full first its was))
leaves m index ps n p after c Several rising found indexed number kept cut = tt

-- The pair that `selected_pair` names is valid and nominated, and its path was selected last. So after nomination, if a pair is
-- eligible, the path that was selected last is that of an eligible pair with the greatest stored priority.
use Rattle.is_theorems.proofs.Common.{◌&&◌, ◌<◌, ◌==◌, ◌∙◌, ◌≡◌, ◌≤◌, AgentRecord, ap, arith, Bool, Call, chosen-able, chosen-none, clears}
use Rattle.is_theorems.proofs.Common.{Continues, Entry, eqb-true, false, followed, found-in, Has, HasSelected, if◌then◌else◌, inl, inr}
use Rattle.is_theorems.proofs.Common.{is_eligible, is_nominated, is_numbered, is_valid, IsChosen, IsGreatest, IsSound, IsTopSelected}
use Rattle.is_theorems.proofs.Common.{last_of, List, named-by, None, none_pass, Option, option_and_then, option_map_or, option_or}
use Rattle.is_theorems.proofs.Common.{pair_numbered, PairRecord, Path, path_of, PathEffect, persists_at, refl, remains, selection_of, Some}
use Rattle.is_theorems.proofs.Common.{subst, sym, true, ℕ}
use Rattle.is_theorems.proofs.CallEffects.PathEffects.{below_is}

-- a valid and nominated pair is eligible in either role
eligible : (c : Bool) (p : PairRecord) → is_valid p ≡ true → is_nominated p ≡ true → is_eligible c p ≡ true
eligible true p v n = ap (λ b. b && true) v
eligible false p v n = ap (λ b. b && is_nominated p) v ∙ n

module _ {H P : Type 0} where
  -- a pair that `selected_pair` names is valid and nominated, and on this path
  abbrev pub IsNamed : Option Path → AgentRecord H P → Type 0
  IsNamed path a =
      (p : PairRecord) → Has a.pairs p → a.selected_pair ≡ Some p.number → (is_valid p ≡ true) × (is_nominated p ≡ true) × (path ≡ Some (path_of a p))

  -- ---- the pair that it names

  pub persists-with : (priority : ℕ) (a : AgentRecord H P) → persists_at a.selected_pair priority a.pairs ≡ true → (p : PairRecord) × Has a.pairs p × (a.selected_pair ≡ Some p.number) × (p.priority ≡ priority)
  persists-with priority a h = by a.selected_pair refl h where
    at : (n : ℕ) (o : Option PairRecord) → pair_numbered n a.pairs ≡ o → a.selected_pair ≡ Some n → option_map_or (λ (p : PairRecord). p.priority == priority) o false ≡ true
        → (p : PairRecord) × Has a.pairs p × (a.selected_pair ≡ Some p.number) × (p.priority ≡ priority)
    at n None is named h = let no : false ≡ true = h in absurd (cc)
    at n (Some p) is named h =
        let k = found-in (is_numbered n) a.pairs p is in
        (p, k.0, named ∙ ap Some (sym (eqb-true p.number n k.1)), eqb-true p.priority priority h)

    by : (o : Option ℕ) → a.selected_pair ≡ o → option_map_or (λ (p : PairRecord). p.priority == priority) (option_and_then (λ number. pair_numbered number a.pairs) o) false ≡ true
        → (p : PairRecord) × Has a.pairs p × (a.selected_pair ≡ Some p.number) × (p.priority ≡ priority)
    by None is h = let no : false ≡ true = h in absurd (cc)
    by (Some n) is h = at n (pair_numbered n a.pairs) refl is h

  -- if a pair is eligible, the path that was selected last is that of a best one
  pub names-best : (a : AgentRecord H P) (path : Option Path) (q : PairRecord) → Has a.pairs q → is_eligible a.controlling q ≡ true → IsNamed path a → IsTopSelected a → HasSelected path a
  names-best a path q has able named (None, none, _) =
      absurd (none_pass (is_eligible a.controlling) a.pairs q (chosen-none a.controlling (followed a) (selection_of a) none) has able)
  names-best a path q has able named (Some best, chosen, persists) = by (followed a) refl where
    by : (o : Option ℕ) → followed a ≡ o → HasSelected path a
    by None none =
        let most : IsGreatest (is_eligible a.controlling) a.pairs (Some best) = subst (λ f. IsChosen a.controlling f (selection_of a) (Some best)) none chosen in
        let n = persists-with best.priority a (subst (λ f. remains f best (selection_of a) ≡ true) none persists) in
        let k = named n.0 n.1 n.2 in
        let is = eligible a.controlling n.0 k.0 k.1 in (
          n.0,
          n.1,
          is,
          k.2,
          subst (λ f. IsChosen a.controlling f (selection_of a) (Some n.0)) (sym none)
              (n.1, is, λ p has_p is_p. subst (λ m. p.priority ≤ m) (sym n.3) (most.2 p has_p is_p)),
        )
    by (Some n) follows =
        let is = chosen-able a.controlling (followed a) (selection_of a) best chosen in
        let k = named best is.0 (named-by a.selected_pair best (subst (λ f. remains f best (selection_of a) ≡ true) follows persists)) in
        (best, is.0, is.1, k.2, chosen)

  -- ---- one more call

  module _ (mac : H → List ℕ → List ℕ → List ℕ) (old new : AgentRecord H P) (call : Call P) (e : Entry) where
    -- a pair that it names was named before, if no path is selected now
    pub was-named : PathEffect mac old call e new → IsSound old → last_of e.emitted.selected_paths ≡ None → (p : PairRecord) → Has new.pairs p → new.selected_pair ≡ Some p.number
        → (k : Continues old new p) × (old.selected_pair ≡ Some k.0.number)
    was-named f sound none p has named =
        let was : old.selected_pair ≡ Some p.number = sym (f.number_stays none) ∙ named in
        elim (f.numbers p has) [
          | inl k ↦ (k, was ∙ ap Some (sym k.2))
          | inr n ↦
              (let lt : p.number < old.next_number = below_is old.next_number p.number old.selected_pair sound.selected_paths was in
              let le : old.next_number ≤ p.number = n.0 in
              absurd (let no : ⊥ = omega (arith, lt, le) in no))
        ]

    pub names-next : (path : Option Path) → PathEffect mac old call e new → IsSound old → IsNamed path old
        → IsNamed (option_or (last_of e.emitted.selected_paths) (if clears call e.answer then None else path)) new
    names-next path f sound were = by (last_of e.emitted.selected_paths) refl where
      -- after a clear it names no pair
      kept : (b : Bool) → clears call e.answer ≡ b → last_of e.emitted.selected_paths ≡ None → (p : PairRecord) → Has new.pairs p → new.selected_pair ≡ Some p.number
          → (is_valid p ≡ true) × (is_nominated p ≡ true) × ((if b then None else path) ≡ Some (path_of new p))
      kept true clear none p has named =
          let lt : p.number < old.next_number = below_is old.next_number p.number old.selected_pair sound.selected_paths (sym (f.number_stays none) ∙ named) in
          let le : old.next_number ≤ p.number = (f.cleared_pairs clear p has).0 in
          absurd (let no : ⊥ = omega (arith, lt, le) in no)
      kept false clear none p has named =
          let w = was-named f sound none p has named in
          let k = were w.0.0 w.0.1 w.1 in
          (w.0.4 k.0, w.0.5 k.1, k.2 ∙ ap Some w.0.3)

      by : (o : Option Path) → last_of e.emitted.selected_paths ≡ o → IsNamed (option_or o (if clears call e.answer then None else path)) new
      by (Some one) is p has named = let k = f.number_names one is p has named in (k.1, k.2, ap Some (sym k.0))
      by None is p has named = kept (clears call e.answer) refl is p has named

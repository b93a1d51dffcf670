-- Pairs that become due at a time: nomination adds none.
use Rattle.is_rules.specs.Due.{awaits_nomination, falls_due}
use Rattle.is_rules.proofs.Common.{[], ◌&&◌, ◌||◌, ◌∙◌, ◌∷◌, ◌≡◌, ap, Bool, change_at, change_pair, eqb-true, false, Has, if◌then◌else◌}
use Rattle.is_rules.proofs.Common.{inl, inr, is_eligible, is_nominated, is_numbered, is_some, is_valid, List, list_any, map, nat_le}
use Rattle.is_rules.proofs.Common.{nominated, nominated_by_self, None, not, Option, pair_numbered, PairRecord, refl, rises, Some}
use Rattle.is_rules.proofs.Common.{StunTiming, subst, sym, true, unwrap_or, ℕ}
use Rattle.is_rules.proofs.PairLists.PairsByNumber.{both, has-any, numbered-found}

Has-map : {X Y : Type 0} (f : X → Y) (xs : List X) (y : Y) → Has (map f xs) y → (x : X) × Has xs x × (f x ≡ y)
Has-map f [] y h = absurd h
Has-map f (x ∷ xs) y (inl e) = (x, inl refl, e)
Has-map f (x ∷ xs) y (inr h) = let r = Has-map f xs y h in (r.0, inr r.1, r.2)

or-right : (a b : Bool) → b ≡ true → a || b ≡ true
or-right true b h = refl
or-right false b h = h

any-has : {X : Type 0} (t : X → Bool) (xs : List X) → list_any t xs ≡ true → (x : X) × Has xs x × (t x ≡ true)
any-has t [] none = absurd (cc)
any-has t (x ∷ xs) h =
    elim (t x) as (λ b. t x ≡ b → (b || list_any t xs) ≡ true → (y : _) × Has (x ∷ xs) y × (t y ≡ true)) [
      | true ↦ λ is any. (x, inl refl, is)
      | false ↦ λ is any. let rest = any-has t xs any in (rest.0, inr rest.1, rest.2)
    ] refl h

-- a fixed due time does not change; without one the pair becomes due if it awaits its nomination
due-either : (due : Option ℕ) (x y now : ℕ) (a b : Bool) → b ≡ true
    → nat_le (unwrap_or due x) now || (not (is_some due) && a) ≡ true → nat_le (unwrap_or due y) now || (not (is_some due) && b) ≡ true
due-either None x y now a b awaits h = or-right (nat_le y now) b awaits
due-either (Some d) x y now a b awaits h = h

module _ (controlling lite : Bool) (now : ℕ) (t : StunTiming) where
  abbrev Falls : PairRecord → Bool
  Falls p = falls_due controlling now t p

  awaits : (c : Bool) (p : PairRecord) → is_nominated p ≡ false → is_eligible c p ≡ true → (c ≡ true) × (awaits_nomination c p ≡ true)
  awaits true p is eligible = let valid = (both (is_valid p) true eligible).0 in (refl, rw (valid, is) refl)
  awaits false p is eligible = let no = (both (is_valid p) (is_nominated p) eligible).1 in absurd (cc)

  -- a pair that is nominated was due before
  fell-before : (p : PairRecord) → is_eligible controlling p ≡ true → Falls (nominated_by_self controlling lite p) ≡ true → Falls p ≡ true
  fell-before p eligible h =
      elim (is_nominated p) as (λ b. is_nominated p ≡ b → Falls (if not b && (controlling || lite) then nominated lite p else p) ≡ true → Falls p ≡ true) [
        | true ↦ λ is falls. falls
        | false ↦ λ is falls.
            let ready = awaits controlling p is eligible in
            by_lite lite ready.1 (by_controlling controlling ready.0 falls)
      ] refl h where
        by_controlling : (b : Bool) → b ≡ true → Falls (if not false && (b || lite) then nominated lite p else p) ≡ true → Falls (nominated lite p) ≡ true
        by_controlling true is falls = falls
        by_controlling false is falls = absurd (cc)

        by_lite : (b : Bool) → awaits_nomination controlling p ≡ true → Falls (nominated b p) ≡ true → Falls p ≡ true
        by_lite true awaiting falls = due-either p.due _ _ now _ (awaits_nomination controlling p) awaiting falls
        by_lite false awaiting falls = due-either p.due _ _ now _ (awaits_nomination controlling p) awaiting falls

  same-pair : (ps : List PairRecord) (p q : PairRecord) → rises ps ≡ true → Has ps p → Has ps q → q.number ≡ p.number → q ≡ p
  same-pair ps p q rising has there same =
      let one = numbered-found ps p rising has in
      let other = subst (λ n. pair_numbered n ps ≡ Some q) same (numbered-found ps q rising there) in
      ap (λ o. unwrap_or o p) (sym other ∙ one)

  pub falls-named : (ps : List PairRecord) (top : PairRecord) → rises ps ≡ true → Has ps top → is_eligible controlling top ≡ true
      → list_any Falls (change_pair top.number (nominated_by_self controlling lite) ps) ≡ true → list_any Falls ps ≡ true
  falls-named ps top rising has eligible h =
      let found = any-has Falls (change_pair top.number (nominated_by_self controlling lite) ps) h in
      let from = Has-map (change_at top.number (nominated_by_self controlling lite)) ps found.0 found.1 in
      let falls : Falls (change_at top.number (nominated_by_self controlling lite) from.0) ≡ true = ap (λ p. Falls p) from.2 ∙ found.2 in
      elim (is_numbered top.number from.0) as (λ b. is_numbered top.number from.0 ≡ b → Falls (if b then nominated_by_self controlling lite from.0 else from.0) ≡ true → list_any Falls ps ≡ true) [
        | true ↦ λ is h.
            let same : from.0 ≡ top = same-pair ps top from.0 rising has from.1 (eqb-true from.0.number top.number is) in
            has-any Falls ps top has (fell-before top eligible (subst (λ (p : PairRecord). Falls (nominated_by_self controlling lite p) ≡ true) same h))
        | false ↦ λ is h. has-any Falls ps from.0 from.1 h
      ] refl falls

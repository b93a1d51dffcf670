-- For each call: the fields of its effect that are about paths, and the invariant of pairs after it.
use Rattle.is_stun.specs.declared.header.Class.TheVariants as class
use Rattle.is_theorems.proofs.Common.{◌<◌, ◌∙◌, ◌≡◌, ◌≤◌, ◌⊎◌, AgentRecord, ap, arith, Bool, Call, CandidateRecord, Class, Continues, Entry}
use Rattle.is_theorems.proofs.Common.{false, Has, inl, inr, is_nominated, is_valid, IsAnswered, IsBelow, IsKept, IsNominatedByPeer}
use Rattle.is_theorems.proofs.Common.{IsNominatedOn, IsServing, IsSound, Issued, issued_as, IsValidOn, last_of, List, nominates, None}
use Rattle.is_theorems.proofs.Common.{Option, PairRecord, Path, path_of, refl, RequestRecord, reversed, Some, Step, Stream, subst, sym}
use Rattle.is_theorems.proofs.Common.{true, ℕ}
use Rattle.is_theorems.proofs.RuleEffects.EarlierAndNewPairs.{Fit}
use Rattle.is_theorems.proofs.RuleEffects.ChangedPairs.{parts_of}
use Rattle.is_theorems.proofs.RuleEffects.SelectedPaths.{some_is}
use Rattle.is_theorems.proofs.CallEffects.PairsAndSelectedPaths.{Asks, Met, Sent, Posted, PairEffect, paired}

never : {A : Type 0} → false ≡ true → A
never h = cc

no_class : {A : Type 0} (path : Path) (c : Class) (id : List ℕ) (issued : Issued) → Some (issued_as path c id) ≡ Some issued → issued.class ≡ class.Success → (c ≡ class.Success → ⊥) → A
no_class path c id issued is success differs = let same : issued_as path c id ≡ issued = cc in absurd (differs (ap (λ (i : Issued). i.class) same ∙ success))

below_as : (next : ℕ) (number : Option ℕ) → ((n : ℕ) → number ≡ Some n → n < next) → IsBelow next number
below_as next None h = _
below_as next (Some n) h = h n refl

pub below_is : (next n : ℕ) (number : Option ℕ) → IsBelow next number → number ≡ Some n → n < next
below_is next n None h is = absurd (let no : None ≡ Some n = is in cc)
below_is next n (Some k) h is = let same : k ≡ n = cc in subst (λ x. x < next) same h

module _ {H P : Type 0} (mac : H → List ℕ → List ℕ → List ℕ) where
  -- word for word as in `Effect`
  pub record PathPart (old : AgentRecord H P) (call : Call P) (e : Entry) (new : AgentRecord H P) : Type 0 where
    pub checks : (path : Path) (id : List ℕ) (controlling : Bool) → IsKept new path id controlling
        → IsKept old path id controlling
        ⊎ ((e.emitted.issued ≡ Some (issued_as path class.Request id)) × (controlling ≡ old.controlling) × (new.controlling ≡ old.controlling))
    pub valid : old.lite ≡ false → (path : Path) → IsValidOn new path → IsValidOn old path ⊎ IsAnswered mac old call e path
    pub nominated : old.lite ≡ false → old.controlling ≡ false → new.controlling ≡ false
        → (path : Path) → IsNominatedOn new path → IsNominatedOn old path ⊎ IsNominatedByPeer old call e path
    pub selected_paths : old.lite ≡ false → (path : Path) → Has e.emitted.selected_paths (Some path)
        → IsValidOn old path ⊎ IsAnswered mac old call e path
    pub counter : old.next_number ≤ new.next_number
    pub numbers : (p : PairRecord) → Has new.pairs p
        → Continues old new p ⊎ ((old.next_number ≤ p.number) × (p.number < new.next_number))
    pub selected_asked : old.lite ≡ false → old.controlling ≡ false → new.controlling ≡ false → (path : Path) → Has e.emitted.selected_paths (Some path)
        → IsNominatedOn old path ⊎ IsNominatedByPeer old call e path
    pub replied : (issued : Issued) → e.emitted.issued ≡ Some issued → issued.class ≡ class.Success
        → (q : RequestRecord) × IsServing old call e q × (issued ≡ issued_as (reversed q.path) class.Success q.id)
        × (nominates old q ≡ true → new.controlling ≡ false → IsNominatedOn new (reversed q.path))
    pub number_stays : last_of e.emitted.selected_paths ≡ None → new.selected_pair ≡ old.selected_pair
    pub number_names : (path : Path) → last_of e.emitted.selected_paths ≡ Some path
        → (p : PairRecord) → Has new.pairs p → new.selected_pair ≡ Some p.number
        → (path_of new p ≡ path) × (is_valid p ≡ true) × (is_nominated p ≡ true)
    pub number_below : IsBelow old.next_number old.selected_pair → IsBelow new.next_number new.selected_pair

  module _ (answers : P → CandidateRecord → ℕ → ℕ → Type 0) (old new : AgentRecord H P) (s t : Stream) (e : Entry) (call : Call P) where
    abbrev M : Path → Type 0
    M = Met mac answers old new s t e call

    abbrev A : Path → ℕ → Type 0
    A = Asks mac answers old new s t e call

    abbrev S : Path → List ℕ → Bool → Type 0
    S = Sent mac answers old new s t e

    met_is : old.lite ≡ false → (path : Path) → M path → IsAnswered mac old call e path
    met_is plain path (inl h) = h
    met_is plain path (inr h) = never (sym plain ∙ h)

    asks_is : old.lite ≡ false → old.controlling ≡ false → new.controlling ≡ false → (path : Path) → A path 0 → IsNominatedByPeer old call e path
    asks_is plain before following path (inl h) = (h.0, h.1, h.2, h.3)
    asks_is plain before following path (inr (inl h)) = never (sym plain ∙ h)
    asks_is plain before following path (inr (inr (inl h))) = never (sym before ∙ h)
    asks_is plain before following path (inr (inr (inr h))) = never (sym following ∙ h)

    replied_on : Posted mac answers old new s t e call → (issued : Issued) → e.emitted.issued ≡ Some issued → issued.class ≡ class.Success
        → (q : RequestRecord) × IsServing old call e q × (issued ≡ issued_as (reversed q.path) class.Success q.id)
        × (nominates old q ≡ true → new.controlling ≡ false → IsNominatedOn new (reversed q.path))
    replied_on (inl none) issued is success = let no : None ≡ Some issued = sym none ∙ is in absurd (cc)
    replied_on (inr (inl (role, inl none))) issued is success = let no : None ≡ Some issued = sym none ∙ is in absurd (cc)
    replied_on (inr (inl (role, inr (path, id, peer, c, names, number, out, known, has, values, put, leads, with_number)))) issued is success =
        no_class path class.Request id issued (sym out ∙ is) success (λ (h : class.Request ≡ class.Success). cc)
    replied_on (inr (inr (r, serves, inl (inl none)))) issued is success = let no : None ≡ Some issued = sym none.0 ∙ is in absurd (cc)
    replied_on (inr (inr (r, serves, inl (inr (out, values, put, named))))) issued is success =
        let both : Some issued ≡ Some (issued_as (reversed r.path) class.Success r.id) = sym is ∙ out in
        (r, serves, some_is issued (issued_as (reversed r.path) class.Success r.id) both, named)
    replied_on (inr (inr (r, serves, inr (out, values, put, sends_487, stays)))) issued is success =
        no_class (reversed r.path) class.Failure r.id issued (sym out ∙ is) success (λ (h : class.Failure ≡ class.Success). cc)

    below_on : (o : Option Path) → last_of e.emitted.selected_paths ≡ o → PairEffect mac answers old new s t e call → IsBelow old.next_number old.selected_pair → IsBelow new.next_number new.selected_pair
    below_on None is (o, emitted, posted) below =
        below_as new.next_number new.selected_pair
        (λ n has. (let lt : n < old.next_number = below_is old.next_number n old.selected_pair below (sym (emitted.stays is) ∙ has) in let le = o.counter in omega (arith, lt, le)))
    below_on (Some path) is (o, emitted, posted) below = below_as new.next_number new.selected_pair (λ n has. (emitted.names path is).below n has)

    by_paths : PairEffect mac answers old new s t e call → PathPart old call e new
    by_paths (o, emitted, posted) = record {
      checks = λ path id role (p, c, has, keeps, id_is, role_is, path_is). elim (o.pairs p has) [
        | inl k ↦ elim (k.checks c keeps) [
          | inl (d, there, id_was, role_was) ↦ inl (k.was, d, k.there, there, id_was ∙ id_is, role_was ∙ role_is, k.path ∙ path_is)
          | inr out ↦ inr (subst (λ r. S path id r) role_is (subst (λ i. S path i c.controlling) id_is (subst (λ w. S w c.id c.controlling) path_is out)))
        ]
        | inr j ↦ inr (subst (λ r. S path id r) role_is (subst (λ i. S path i c.controlling) id_is (subst (λ w. S w c.id c.controlling) path_is (j.checks c keeps))))
      ];
      valid = λ plain path (p, has, is, path_is). elim (o.pairs p has) [
        | inl k ↦ elim (k.valid is) [ inl v ↦ inl (k.was, k.there, v, k.path ∙ path_is) | inr m ↦ inr (met_is plain path (subst M path_is m)) ]
        | inr j ↦ elim (j.valid is) [ inl v ↦ inl (v.0, v.1, v.2, v.3 ∙ path_is) | inr m ↦ inr (met_is plain path (subst M path_is m)) ]
      ];
      nominated = λ plain before following path (p, has, is, path_is). elim (o.pairs p has) [
        | inl k ↦ elim (k.asked is) [ inl v ↦ inl (k.was, k.there, v, k.path ∙ path_is) | inr m ↦ inr (asks_is plain before following path (subst (λ z. A z 0) path_is m)) ]
        | inr j ↦ elim (j.asked is) [ inl v ↦ inl (v.0, v.1, v.2, v.3 ∙ path_is) | inr m ↦ inr (asks_is plain before following path (subst (λ z. A z 0) path_is m)) ]
      ];
      selected_paths = λ plain path has. elim (emitted.valid path has) [ inl v ↦ inl v | inr m ↦ inr (met_is plain path m) ];
      counter = o.counter;
      numbers = λ p has. elim (o.pairs p has) [
        | inl k ↦ inl (k.was, k.there, k.number, k.path, k.still_valid, k.still_nominated)
        | inr j ↦ inr (j.above, j.below)
      ];
      selected_asked = λ plain before following path has. elim (emitted.asked path has) [ inl v ↦ inl v | inr m ↦ inr (asks_is plain before following path m) ];
      replied = replied_on posted;
      number_stays = emitted.stays;
      number_names = λ path is. (emitted.names path is).is;
      number_below = below_on (last_of e.emitted.selected_paths) refl (o, emitted, posted);
    }

    -- each step from a state that satisfies the invariant, and the invariant of its pairs after it
    pub path_effect : IsSound old → Step mac answers old s call e new t → PathPart old call e new × Fit (parts_of A M S new) × Posted mac answers old new s t e call
    path_effect sound h = let k = paired mac answers old new s t e call sound h in (by_paths k, k.0.fit, k.2)

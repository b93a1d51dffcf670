-- The pair that was selected last: after nomination it exists if a pair is valid and nominated. And the state as it is evaluated then.
use Rattle.is_theorems.proofs.Common.{[], ◌&&◌, ◌||◌, ◌∙◌, ◌∷◌, ◌≡◌, AgentRecord, ap, Bool, change_at, Checking, chosen-able, chosen-none}
use Rattle.is_theorems.proofs.Common.{Completed, cond, Connected, Disconnected, eq-eqb, eqb-true, evaluated, false, find, followed}
use Rattle.is_theorems.proofs.Common.{found-in, Has, has_nominated, has_possible, IceConnectionState, if◌then◌else◌, inl, inr, is_connected}
use Rattle.is_theorems.proofs.Common.{is_eligible, is_nominated, is_nominated_and_valid, is_numbered, is_some, is_valid, List, map}
use Rattle.is_theorems.proofs.Common.{named-by, New, next_state, nominated_by_self, nominated_emitted, Nominates, None, none_pass, not}
use Rattle.is_theorems.proofs.Common.{Option, pair_numbered, pair_selected, PairRecord, Path, refl, remains, same_state, selection_of, Some}
use Rattle.is_theorems.proofs.Common.{subst, sym, true, with_selection, ℕ}
use Rattle.is_theorems.proofs.BasicLemmas.EqualAddresses.{both}
use Rattle.is_theorems.proofs.BasicLemmas.UsernamesAndFirstMatches.{any_has}
use Rattle.is_theorems.proofs.CallEffects.ServedRequests.{Has-mapped}
use Rattle.is_theorems.proofs.ConnectedConsent.ConnectedPairs.{HasNominated}
use Rattle.is_theorems.proofs.PathSelection.SelectedAfterResponse.{nominated-eligible}
use Rattle.is_theorems.proofs.PathSelection.SelectedPairIsNominated.{persists-with}
use Rattle.is_theorems.proofs.RuleEffects.ChangedPairs.{self_kept}
use Rattle.is_theorems.proofs.RuleEffects.NominatedPairs.{SelectsPath, selects_path}
use Rattle.is_theorems.proofs.RuleEffects.UnchangedSettings.{either}
use Rattle.is_theorems.proofs.SettledStates.LivePairs.{no-live}

-- ---- lists

-- the list has the pair of this number
abbrev pub HasSelected : Option ℕ → List PairRecord → Type 0
HasSelected number ps = (p : PairRecord) × Has ps p × (number ≡ Some p.number)

pub map-selected : (number : Option ℕ) (f : PairRecord → PairRecord) (ps : List PairRecord) → ((p : PairRecord) → (f p).number ≡ p.number)
    → HasSelected number ps → HasSelected number (map f ps)
map-selected number f ps same (p, has, is) = (f p, Has-mapped f ps p has, is ∙ ap Some (sym (same p)))

pub at-number : (n : ℕ) (f : PairRecord → PairRecord) (p : PairRecord) → (f p).number ≡ p.number → (change_at n f p).number ≡ p.number
at-number n f p same = by (is_numbered n p) where
  by : (b : Bool) → (if b then f p else p).number ≡ p.number
  by true = same
  by false = refl

found-some : (test : PairRecord → Bool) (ps : List PairRecord) (p : PairRecord) → Has ps p → test p ≡ true → is_some (find test ps) ≡ true
found-some test [] p has is = absurd has
found-some test (x ∷ xs) p (inl same) is =
    ap (λ b. is_some (cond b (Some x) (find test xs))) (ap test same ∙ is)
found-some test (x ∷ xs) p (inr has) is = by (test x) (found-some test xs p has is) where
  by : (b : Bool) → is_some (find test xs) ≡ true → is_some (cond b (Some x) (find test xs)) ≡ true
  by true others = refl
  by false others = others

pub is-selected : (number : Option ℕ) (ps : List PairRecord) → HasSelected number ps → is_some (pair_selected number ps) ≡ true
is-selected number ps (p, has, is) =
    ap (λ o. is_some (pair_selected o ps)) is ∙ found-some (is_numbered p.number) ps p has (eq-eqb p.number p.number refl)

pub was-selected : (number : Option ℕ) (ps : List PairRecord) → is_some (pair_selected number ps) ≡ true → HasSelected number ps
was-selected None ps h = no-live h
was-selected (Some n) ps h = by (pair_numbered n ps) refl h where
  by : (o : Option PairRecord) → pair_numbered n ps ≡ o → is_some o ≡ true → HasSelected (Some n) ps
  by None is k = no-live k
  by (Some p) is k = let f = found-in (is_numbered n) ps p is in (p, f.0, ap Some (sym (eqb-true p.number n f.1)))

-- ---- the state

connected-or : (b : Bool) → is_connected (if b then Connected else Completed) ≡ true
connected-or true = refl
connected-or false = refl

begun-with : (b : Bool) → same_state (if b then Connected else Completed) New ≡ false
begun-with true = refl
begun-with false = refl

begun-without : (b : Bool) → same_state (if b then Checking else Disconnected) New ≡ false
begun-without true = refl
begun-without false = refl

-- an evaluation leaves New
pub begun-next : (state : IceConnectionState) (selected possible lite : Bool) → same_state (next_state state selected possible lite) New ≡ false
begun-next New selected possible lite = refl
begun-next Checking true possible lite = begun-with (possible && (not lite || same_state Checking Connected))
begun-next Checking false possible lite = begun-without possible
begun-next Connected true possible lite = begun-with (possible && (not lite || same_state Connected Connected))
begun-next Connected false possible lite = begun-without possible
begun-next Completed true possible lite = begun-with (possible && (not lite || same_state Completed Connected))
begun-next Completed false possible lite = begun-without possible
begun-next Disconnected true possible lite = begun-with (possible && (not lite || same_state Disconnected Connected))
begun-next Disconnected false possible lite = begun-without possible

selected-connected : (state : IceConnectionState) (possible lite : Bool) → same_state state New ≡ false
    → is_connected (next_state state true possible lite) ≡ true
selected-connected New possible lite begun = no-live (sym begun)
selected-connected Checking possible lite begun = connected-or (possible && (not lite || same_state Checking Connected))
selected-connected Connected possible lite begun = connected-or (possible && (not lite || same_state Connected Connected))
selected-connected Completed possible lite begun = connected-or (possible && (not lite || same_state Completed Connected))
selected-connected Disconnected possible lite begun = connected-or (possible && (not lite || same_state Disconnected Connected))

pub is-new : (state : IceConnectionState) → same_state state New ≡ true → state ≡ New
is-new New is = refl
is-new Checking is = no-live is
is-new Connected is = no-live is
is-new Completed is = no-live is
is-new Disconnected is = no-live is

module _ {H P : Type 0} where
  abbrev pub Selects : AgentRecord H P → Type 0
  Selects a = HasSelected a.selected_pair a.pairs

  pub begun-evaluated : (now : ℕ) (a : AgentRecord H P) → same_state (evaluated now a).state New ≡ false
  begun-evaluated now a = begun-next a.state (has_nominated a) (has_possible now a) a.lite

  pub evaluated-connects : (now : ℕ) (a : AgentRecord H P) → same_state a.state New ≡ false → HasNominated a.pairs → is_connected (evaluated now a).state ≡ true
  evaluated-connects now a begun (p, has, live) =
      ap (λ b. is_connected (next_state a.state b (has_possible now a) a.lite)) (any_has is_nominated_and_valid a.pairs p has live)
      ∙ selected-connected a.state (has_possible now a) a.lite begun

  -- ---- nomination

  named-state : (path : Option Path) (a : AgentRecord H P) → (nominated_emitted path a).state ≡ a.state
  named-state None a = refl
  named-state (Some path) a = refl

  pub nominates-state : (old new : AgentRecord H P) (path : Option Path) → Nominates old path new → new.state ≡ old.state
  nominates-state old new path (chosen, names, made) = ap (λ (a : AgentRecord H P). a.state) made ∙ named-state path (with_selection chosen old)

  module _ (old new : AgentRecord H P) (path : Option Path) (h : Nominates old path new) where
    abbrev change : PairRecord → PairRecord
    change = nominated_by_self old.controlling old.lite

    remains-selected : (top : PairRecord) → Has old.pairs top → remains (followed old) top (selection_of old) ≡ true → Selects old
    remains-selected top has stays = by (followed old) stays where
      by : (o : Option ℕ) → remains o top (selection_of old) ≡ true → Selects old
      by None is = let k = persists-with top.priority old is in (k.0, k.1, k.2)
      by (Some n) is = (top, has, named-by old.selected_pair top is)

    -- the pair that is selected exists if it did, and if a pair is valid and nominated
    selected-by : (Selects old → Selects new) × (HasNominated new.pairs → Selects new)
    selected-by = from (selects_path old new path h) where
      both-ways : Selects new → (Selects old → Selects new) × (HasNominated new.pairs → Selects new)
      both-ways is = (λ _. is, λ _. is)

      from : SelectsPath old path new → (Selects old → Selects new) × (HasNominated new.pairs → Selects new)
      from (None, none, (is, same)) = (
        λ was. subst (λ (a : AgentRecord H P). Selects a) (sym same) was,
        λ live. (let p = subst (λ (a : AgentRecord H P). HasNominated a.pairs) same live in
            let able = both (is_valid p.0) (is_nominated p.0) p.2 in
            absurd (none_pass (is_eligible old.controlling) old.pairs p.0 (chosen-none old.controlling (followed old) (selection_of old) none) p.1
            (nominated-eligible old.controlling p.0 able.0 able.1))),
      )
      from (Some top, chosen, k) =
          let able = chosen-able old.controlling (followed old) (selection_of old) top chosen in
          both-ways (either (remains (followed old) top (selection_of old)) k
          (λ stays l. subst (λ (a : AgentRecord H P). Selects a) (sym l.1) (remains-selected top able.0 stays))
          (λ _ l. subst (λ (a : AgentRecord H P). Selects a) (sym l.1) (
            change_at top.number change top,
            Has-mapped (change_at top.number change) old.pairs top able.0,
            ap Some (sym (at-number top.number change top (self_kept (not (is_nominated top) && (old.controlling || old.lite)) old.lite top).number)),
          )))

    pub nominates-keeps : Selects old → Selects new
    nominates-keeps = selected-by.0

    pub nominates-selects : HasNominated new.pairs → Selects new
    nominates-selects = selected-by.1

-- After nomination the selected pair exists, and is a greatest one among the eligible.
use Rattle.is_theorems.proofs.Common.{[], ◌&&◌, ◌==◌, ◌||◌, ◌∙◌, ◌∷◌, ◌≡◌, ◌≤◌, AgentRecord, ap, AreRising, arith, Bool, change_at}
use Rattle.is_theorems.proofs.Common.{change_pair, chosen-able, cond, eligible_numbered, eq-eqb, eqb-true, false, favored, find}
use Rattle.is_theorems.proofs.Common.{first_numbered, followed, followed_by_number, Has, if_eligible, if◌then◌else◌, inl, inr, is_eligible}
use Rattle.is_theorems.proofs.Common.{is_nominated, is_numbered, is_valid, IsChosen, IsGreatest, IsTopSelected, List, map, MatchOption}
use Rattle.is_theorems.proofs.Common.{no-some, nominated, nominated_by_self, Nominates, None, not, numbers, Option, option_and_then}
use Rattle.is_theorems.proofs.Common.{option_map, option_map_or, option_or, PairRecord, Path, persists_at, refl, remains, same-some}
use Rattle.is_theorems.proofs.Common.{selection, selection_of, Some, subst, sym, true, ℕ}
use Rattle.is_theorems.proofs.PathSelection.FirstNumbered.{first-in, first-stays, first-there}
use Rattle.is_theorems.proofs.RuleEffects.UnchangedSettings.{either}
use Rattle.is_theorems.proofs.RuleEffects.ChangedPairs.{Has-map}
use Rattle.is_theorems.proofs.RuleEffects.SelectedPaths.{one_pair}
use Rattle.is_theorems.proofs.RuleEffects.NominatedPairs.{selected_paths, SelectsPath, selects_path}

false_true : false ≡ true → ⊥
false_true h = cc

and_right : (a b : Bool) → (a && b) ≡ true → b ≡ true
and_right true b h = h
and_right false b h = absurd (false_true h)

-- only a controlled agent follows its peer
controlled : (on c : Bool) (last : Option ℕ) (n : ℕ) → (if on && not c then last else None) ≡ Some n → c ≡ false
controlled true false last n h = refl
controlled true true last n h = absurd (no-some n h)
controlled false c last n h = absurd (no-some n h)

-- which pair is followed, by the first one in the order of numbers
pub followed-on : (on by_number : Bool) (first second last o : Option ℕ) → (first ≡ o → second ≡ o) → (if on then (if by_number then first else last) else None) ≡ o
    → (if on then (if by_number then second else last) else None) ≡ o
followed-on true true first second last o f is = f is
followed-on true false first second last o f is = is
followed-on false b first second last o f is = is

same_pairs : (n : ℕ) (g : PairRecord → PairRecord) (ps : List PairRecord) → ((q : PairRecord) → Has ps q → is_numbered n q ≡ true → g q ≡ q)
    → map (change_at n g) ps ≡ ps
same_pairs n g [] h = refl
same_pairs n g (q ∷ qs) h =
    ap (λ (x : PairRecord). x ∷ map (change_at n g) qs) (kept (is_numbered n q) refl) ∙ ap (λ (xs : List PairRecord). q ∷ xs) (same_pairs n g qs (λ x has. h x (inr has))) where
      kept : (b : Bool) → is_numbered n q ≡ b → (if b then g q else q) ≡ q
      kept true is = h q (inl refl) is
      kept false is = refl

Has-mapped : {X Y : Type 0} (f : X → Y) (xs : List X) (x : X) → Has xs x → Has (map f xs) (f x)
Has-mapped f [] x h = absurd h
Has-mapped f (y ∷ xs) x (inl e) = inl (ap f e)
Has-mapped f (y ∷ xs) x (inr h) = inr (Has-mapped f xs x h)

same_pair : (c l : Bool) (p : PairRecord) → ((nominated_by_self c l p).number ≡ p.number) × ((nominated_by_self c l p).priority ≡ p.priority) × (is_valid (nominated_by_self c l p) ≡ is_valid p)
same_pair c l p = elim (not (is_nominated p) && (c || l)) as (λ b. ((if b then nominated l p else p).number ≡ p.number) × ((if b then nominated l p else p).priority ≡ p.priority) × (is_valid (if b then nominated l p else p) ≡ is_valid p)) [
  | true ↦ (elim l as (λ l. ((nominated l p).number ≡ p.number) × ((nominated l p).priority ≡ p.priority) × (is_valid (nominated l p) ≡ is_valid p)) [ true ↦ (refl, refl, refl) | false ↦ (refl, refl, refl) ])
  | false ↦ (refl, refl, refl)
]

change_priority : (b c l : Bool) (p : PairRecord) → (if b then nominated_by_self c l p else p).priority ≡ p.priority
change_priority true c l p = (same_pair c l p).1
change_priority false c l p = refl

-- an eligible pair stays so if the agent nominates it
still_eligible : (c l n v : Bool) (p : PairRecord) → is_nominated p ≡ n → is_valid p ≡ v → is_eligible c p ≡ true → is_eligible c (nominated_by_self c l p) ≡ true
still_eligible true l n v p n_is v_is h =
    let same = (same_pair true l p).2 in
    subst (λ x. (x && true) ≡ true) (sym same) h
still_eligible false l true v p n_is v_is h =
    subst (λ n. is_eligible false (if not n && (false || l) then nominated l p else p) ≡ true) (sym n_is) h
still_eligible false l false v p n_is v_is h =
    let no : (is_valid p && false) ≡ true = subst (λ n. (is_valid p && n) ≡ true) n_is h in absurd (never_and (is_valid p) no) where
      never_and : (b : Bool) → (b && false) ≡ true → ⊥
      never_and true h = cc
      never_and false h = cc

-- a pair found by its number is the one that changed
found_step : (b : Bool) (n : ℕ) (q r : PairRecord) (g : PairRecord → PairRecord) (rest : List PairRecord) → is_numbered n q ≡ b → (b ≡ true → (g q ≡ r) × (r.number ≡ n))
    → (b ≡ false → find (is_numbered n) rest ≡ Some r)
    → find (is_numbered n) ((if b then g q else q) ∷ rest) ≡ Some r
found_step true n q r g rest is here_it later =
    let k = here_it refl in
    let numbered : is_numbered n (g q) ≡ true = subst (λ (x : PairRecord). is_numbered n x ≡ true) (sym k.0) (eq-eqb r.number n k.1) in
    ap (λ b. cond b (Some (g q)) (find (is_numbered n) rest)) numbered ∙ ap (λ (x : PairRecord). Some x) k.0
found_step false n q r g rest is here_it later = ap (λ b. cond b (Some q) (find (is_numbered n) rest)) is ∙ later refl

found : (ps : List PairRecord) (top : PairRecord) (g : PairRecord → PairRecord) → AreRising ps → Has ps top → (g top).number ≡ top.number
    → find (is_numbered top.number) (map (change_at top.number g) ps) ≡ Some (g top)
found [] top g rising has number = absurd has
found (q ∷ qs) top g rising (inl e) number =
    found_step (is_numbered top.number q) top.number q (g top) g (map (change_at top.number g) qs) refl
    (λ _. (ap g e, number))
    (λ no. (let yes : is_numbered top.number q ≡ true = eq-eqb q.number top.number (ap (λ (x : PairRecord). x.number) e) in absurd (false_true (sym no ∙ yes))))
found (q ∷ qs) top g rising (inr has) number =
    found_step (is_numbered top.number q) top.number q (g top) g (map (change_at top.number g) qs) refl
    (λ yes. (ap g (one_pair (q ∷ qs) q top rising (inl refl) (inr has) (eqb-true q.number top.number yes)), number))
    (λ _. found qs top g rising.1 has number)

module _ {H P : Type 0} where
  module _ (old : AgentRecord H P) (top : PairRecord) (rising : AreRising old.pairs) (has : Has old.pairs top) (eligible : is_eligible old.controlling top ≡ true)
      (greatest : (p : PairRecord) → Has old.pairs p → is_eligible old.controlling p ≡ true → p.priority ≤ top.priority) where
    abbrev g : PairRecord → PairRecord
    g = nominated_by_self old.controlling old.lite

    at_most : (b : Bool) (q : PairRecord) → Has old.pairs q → is_numbered top.number q ≡ b → is_eligible old.controlling (if b then g q else q) ≡ true
        → q.priority ≤ top.priority
    at_most true q there is able =
        let same : q ≡ top = one_pair old.pairs q top rising there has (eqb-true q.number top.number is) in
        subst (λ (x : PairRecord). x.priority ≤ top.priority) (sym same) (omega arith)
    at_most false q there is able = greatest q there able

    it_has : Has (change_pair top.number g old.pairs) (g top)
    it_has = subst (λ (x : PairRecord). Has (change_pair top.number g old.pairs) x) (ap (λ b. if b then g top else top) (eq-eqb top.number top.number refl))
        (Has-mapped (change_at top.number g) old.pairs top has)

    it_greatest : (p : PairRecord) → Has (change_pair top.number g old.pairs) p → is_eligible old.controlling p ≡ true → p.priority ≤ (g top).priority
    it_greatest p in_new able =
        let o = Has-map (change_at top.number g) old.pairs p in_new in
        let bound : o.0.priority ≤ top.priority =
        at_most (is_numbered top.number o.0) o.0 o.1 refl (subst (λ (x : PairRecord). is_eligible old.controlling x ≡ true) (sym o.2) able) in
        let own : p.priority ≡ o.0.priority = ap (λ (x : PairRecord). x.priority) (sym o.2) ∙ change_priority (is_numbered top.number o.0) old.controlling old.lite o.0 in
        subst (λ n. n ≤ (g top).priority) (sym own) (subst (λ n. o.0.priority ≤ n) (sym (same_pair old.controlling old.lite top).1) bound)

    it_persists : persists_at (selected_paths top old).selected_pair (g top).priority (selected_paths top old).pairs ≡ true
    it_persists = ap (λ (o : Option PairRecord). option_map_or (λ (p : PairRecord). p.priority == (g top).priority) o false)
        (found old.pairs top g rising has (same_pair old.controlling old.lite top).0) ∙ eq-eqb (g top).priority (g top).priority refl

    -- an agent that goes by numbers follows some pair, if one is eligible
    follows_none : followed old ≡ None → followed (selected_paths top old) ≡ None
    follows_none is = followed-on (old.renominates && not old.controlling) (numbers old && old.numbers_seen) (followed_by_number old) (followed_by_number (selected_paths top old)) old.last_nominated None
        (λ none. absurd (some_first (first_numbered old.controlling old.selected_pair old.pairs) refl none)) is where
          some_first : (o : Option PairRecord) → first_numbered old.controlling old.selected_pair old.pairs ≡ o → option_map (λ (p : PairRecord). p.number) o ≡ None → ⊥
          some_first None is none = first-there old.controlling old.selected_pair old.pairs is top has eligible
          some_first (Some q) is none = no-some q.number (sym none)

    selects_top : followed old ≡ None → IsTopSelected (selected_paths top old)
    selects_top is =
        let none : followed (selected_paths top old) ≡ None = follows_none is in (
          Some (g top),
          subst (λ f. IsChosen old.controlling f (selection_of (selected_paths top old)) (Some (g top))) (sym none)
              (it_has, still_eligible old.controlling old.lite (is_nominated top) (is_valid top) top refl refl eligible, it_greatest),
          subst (λ f. remains f (g top) (selection_of (selected_paths top old)) ≡ true) (sym none) it_persists,
        )

  -- an agent that follows its peer does not nominate, so the pairs stay as they were
  module _ (old : AgentRecord H P) (top : PairRecord) (rising : AreRising old.pairs) (chosen : IsChosen old.controlling (followed old) (selection_of old) (Some top))
      (n : ℕ) (follows : followed old ≡ Some n) where
    abbrev by_self : PairRecord → PairRecord
    by_self = nominated_by_self old.controlling old.lite

    able : Has old.pairs top × (is_eligible old.controlling top ≡ true)
    able = chosen-able old.controlling (followed old) (selection_of old) top chosen

    was_nominated : is_nominated top ≡ true
    was_nominated = and_right (is_valid top) (is_nominated top)
        (subst (λ c. (is_valid top && (c || is_nominated top)) ≡ true) (controlled old.renominates old.controlling (if numbers old && old.numbers_seen then followed_by_number old else old.last_nominated) n follows) able.1)

    as_it_was : by_self top ≡ top
    as_it_was = ap (λ b. if not b && (old.controlling || old.lite) then nominated old.lite top else top) was_nominated

    pairs_same : change_pair top.number by_self old.pairs ≡ old.pairs
    pairs_same = same_pairs top.number by_self old.pairs (λ q there is. (
        let same : q ≡ top = one_pair old.pairs q top rising there able.0 (eqb-true q.number top.number is) in
        subst (λ (x : PairRecord). by_self x ≡ x) (sym same) as_it_was))

    able_found : (p : PairRecord) → Has old.pairs p → is_eligible old.controlling p ≡ true → eligible_numbered old.controlling old.pairs p.number ≡ Some p
    able_found p has is = ap (λ (ps : List PairRecord). eligible_numbered old.controlling ps p.number) (sym (same_pairs p.number (λ q. q) old.pairs (λ q _ _. refl)))
        ∙ ap (λ (o : Option PairRecord). option_and_then (if_eligible old.controlling) o) (found old.pairs p (λ q. q) rising has refl)
        ∙ ap (λ b. if b then Some p else None) is

    own_found : eligible_numbered old.controlling old.pairs top.number ≡ Some top
    own_found = able_found top able.0 able.1

    still_chosen : IsChosen old.controlling (Some n) (selection old.pairs (Some top.number)) (Some top)
    still_chosen = by (eligible_numbered old.controlling old.pairs n) refl where
      was : IsChosen old.controlling (Some n) (selection_of old) (Some top)
      was = subst (λ f. IsChosen old.controlling f (selection_of old) (Some top)) follows chosen

      by : (o : Option PairRecord) → eligible_numbered old.controlling old.pairs n ≡ o
          → MatchOption (option_or (eligible_numbered old.controlling old.pairs n) (eligible_numbered old.controlling old.pairs top.number))
          (IsGreatest (is_eligible old.controlling) old.pairs (Some top)) (λ p. Some top ≡ Some p)
      by (Some p) is =
          subst (λ o. MatchOption (option_or o (eligible_numbered old.controlling old.pairs top.number))
          (IsGreatest (is_eligible old.controlling) old.pairs (Some top)) (λ p. Some top ≡ Some p)) (sym is)
          (subst (λ o. MatchOption (option_or o (option_and_then (eligible_numbered old.controlling old.pairs) old.selected_pair))
          (IsGreatest (is_eligible old.controlling) old.pairs (Some top)) (λ p. Some top ≡ Some p)) is was)
      by None is =
          subst (λ o. MatchOption (option_or o (eligible_numbered old.controlling old.pairs top.number))
          (IsGreatest (is_eligible old.controlling) old.pairs (Some top)) (λ p. Some top ≡ Some p)) (sym is)
          (subst (λ o. MatchOption o (IsGreatest (is_eligible old.controlling) old.pairs (Some top)) (λ p. Some top ≡ Some p)) (sym own_found) refl)

    -- the first pair by numbers is the chosen one, and stays first
    first_follows : followed_by_number old ≡ Some n → followed_by_number (selected_paths top old) ≡ Some n
    first_follows is = by (first_numbered old.controlling old.selected_pair old.pairs) refl is where
      by : (o : Option PairRecord) → first_numbered old.controlling old.selected_pair old.pairs ≡ o → option_map (λ (p : PairRecord). p.number) o ≡ Some n
          → followed_by_number (selected_paths top old) ≡ Some n
      by None first is = absurd (no-some n is)
      by (Some q) first is =
          let k = first-in old.controlling old.selected_pair old.pairs q first in
          let found_it : eligible_numbered old.controlling old.pairs n ≡ Some q =
          subst (λ m. eligible_numbered old.controlling old.pairs m ≡ Some q) (same-some q.number n is) (able_found q k.0 k.1) in
          let favored_is : favored old.controlling (Some n) (selection_of old) ≡ Some q =
          ap (λ (o : Option PairRecord). option_or o (option_and_then (eligible_numbered old.controlling old.pairs) old.selected_pair)) found_it in
          let top_is : Some top ≡ Some q =
          subst (λ (o : Option PairRecord). MatchOption o (IsGreatest (is_eligible old.controlling) old.pairs (Some top)) (λ p. Some top ≡ Some p)) favored_is
          (subst (λ f. IsChosen old.controlling f (selection_of old) (Some top)) follows chosen) in
          let same : q ≡ top = same-some q top (sym top_is) in
          let stays : first_numbered old.controlling (Some top.number) old.pairs ≡ Some top =
          subst (λ (p : PairRecord). first_numbered old.controlling (Some p.number) old.pairs ≡ Some p) same (first-stays old.controlling old.selected_pair old.pairs q rising first) in
          ap (λ (ps : List PairRecord). option_map (λ (p : PairRecord). p.number) (first_numbered old.controlling (Some top.number) ps)) pairs_same
          ∙ (ap (λ (o : Option PairRecord). option_map (λ (p : PairRecord). p.number) o) (stays ∙ ap Some (sym same)) ∙ is)

    still_follows : followed (selected_paths top old) ≡ Some n
    still_follows = followed-on (old.renominates && not old.controlling) (numbers old && old.numbers_seen) (followed_by_number old) (followed_by_number (selected_paths top old)) old.last_nominated (Some n)
        first_follows follows

    follows_top : IsTopSelected (selected_paths top old)
    follows_top = (
      Some top,
      subst (λ f. IsChosen old.controlling f (selection_of (selected_paths top old)) (Some top)) (sym still_follows)
          (subst (λ (ps : List PairRecord). IsChosen old.controlling (Some n) (selection ps (Some top.number)) (Some top)) (sym pairs_same) still_chosen),
      subst (λ f. remains f top (selection_of (selected_paths top old)) ≡ true) (sym still_follows) (eq-eqb top.number top.number refl),
    )

  -- after nomination a greatest pair is selected, if any is eligible
  selects_greatest : (old new : AgentRecord H P) (path : Option Path) → AreRising old.pairs → SelectsPath old path new → IsTopSelected new
  selects_greatest old new path rising (None, none, (is, same)) =
      subst (λ (a : AgentRecord H P). IsTopSelected a) (sym same) (None, none, tt)
  selects_greatest old new path rising (Some top, chosen, h) = either (remains (followed old) top (selection_of old)) h
      (λ persists k. subst (λ (a : AgentRecord H P). IsTopSelected a) (sym k.1) (Some top, chosen, persists))
      (λ _ k. subst (λ (a : AgentRecord H P). IsTopSelected a) (sym k.1) (by (followed old) refl)) where
        by : (o : Option ℕ) → followed old ≡ o → IsTopSelected (selected_paths top old)
        by None is =
            let most : IsGreatest (is_eligible old.controlling) old.pairs (Some top) = subst (λ f. IsChosen old.controlling f (selection_of old) (Some top)) is chosen in
            selects_top old top rising most.0 most.1 most.2 is
        by (Some n) is = follows_top old top rising chosen n is

  pub nominates_top : (old new : AgentRecord H P) (path : Option Path) → AreRising old.pairs → Nominates old path new → IsTopSelected new
  nominates_top old new path rising h = selects_greatest old new path rising (selects_path old new path h)

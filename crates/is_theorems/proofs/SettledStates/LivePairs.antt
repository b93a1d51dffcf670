-- Pairs that are valid and nominated: what changes and additions of pairs make such a pair.
use Rattle.is_pair.specs.declared.pair.states.NominationState.TheVariants.{None as Unnominated}
use Rattle.is_theorems.proofs.Common.{[], ◌&&◌, ◌++◌, ◌∙◌, ◌∷◌, ◌≡◌, AgentRecord, ap, Attempt, Bool, CheckState, Combination}
use Rattle.is_theorems.proofs.Common.{combined_priority, Each, false, filter, Formed, FormsAll, Has, if◌then◌else◌, inl, InProgress, inr}
use Rattle.is_theorems.proofs.Common.{is_nominated, is_nominated_and_valid, is_nominated_state, is_numbered, is_valid, is_valid_state, List}
use Rattle.is_theorems.proofs.Common.{map, nat_lt, Nominated, nomination_from, NominationState, None, not, pair_of, PairRecord, removes}
use Rattle.is_theorems.proofs.Common.{RemovesInTurn, sides_of, SidesRecord, Some, state_from, subst, Succeeded, Success, sym, taking_over}
use Rattle.is_theorems.proofs.Common.{Tries, true, undue, Waiting, without, ℕ}
use Rattle.is_theorems.proofs.BasicLemmas.EqualAddresses.{both}
use Rattle.is_theorems.proofs.ConnectedConsent.ConnectedPairs.{HasNominated}
use Rattle.is_theorems.proofs.RuleEffects.ChangedPairs.{Has-map}
use Rattle.is_theorems.proofs.RuleEffects.EarlierAndNewPairs.{choose, Has-filter, Has-push}

pub no-live : {A : Type 0} → false ≡ true → A
no-live h = absurd (cc)

-- ---- one pair that replaces another

from-valid : (s : CheckState) → is_valid_state (state_from s Waiting) ≡ true → is_valid_state s ≡ true
from-valid Waiting h = h
from-valid InProgress h = h
from-valid Succeeded h = h

from-nominated : (s : NominationState) → is_nominated_state (nomination_from s Unnominated) ≡ true → is_nominated_state s ≡ true
from-nominated Unnominated h = h
from-nominated Nominated h = h
from-nominated Attempt h = h
from-nominated Success h = h

pub live-by : (p : PairRecord) → is_valid p ≡ true → is_nominated p ≡ true → is_nominated_and_valid p ≡ true
live-by p valid nominated = ap (λ b. b && is_nominated p) valid ∙ nominated

taken-live : (lite : Bool) (other : PairRecord) (s : SidesRecord) (at : Combination) (number : ℕ)
    → is_nominated_and_valid (taking_over lite other (pair_of s at number)) ≡ true → is_nominated_and_valid other ≡ true
taken-live true other s at number live =
    let is = both (is_valid_state (state_from other.state Waiting)) (is_nominated_state (nomination_from other.nomination Unnominated)) live in
    live-by other (from-valid other.state is.0) (from-nominated other.nomination is.1)
taken-live false other s at number live =
    let is = both (is_valid_state (state_from other.state Waiting)) (is_nominated_state (nomination_from other.nomination Unnominated)) live in
    live-by other (from-valid other.state is.0) (from-nominated other.nomination is.1)

-- ---- lists of pairs

-- a pair of a changed list was one before
pub map-back : (f : PairRecord → PairRecord) (ps : List PairRecord)
    → ((p : PairRecord) → Has ps p → is_nominated_and_valid (f p) ≡ true → is_nominated_and_valid p ≡ true) → HasNominated (map f ps) → HasNominated ps
map-back f ps back (q, has, live) =
    let o = Has-map f ps q has in (o.0, o.1, back o.0 o.1 (subst (λ (x : PairRecord). is_nominated_and_valid x ≡ true) (sym o.2) live))

pub filter-back : (keep : PairRecord → Bool) (ps : List PairRecord) → HasNominated (filter keep ps) → HasNominated ps
filter-back keep ps (q, has, live) = (q, Has-filter keep ps q has, live)

pub push-back : (ps : List PairRecord) (p : PairRecord) → (is_nominated_and_valid p ≡ true → HasNominated ps) → HasNominated (ps ++ p ∷ []) → HasNominated ps
push-back ps p one (q, has, live) = elim (Has-push ps p q has) [
  | inl was ↦ (q, was, live)
  | inr now ↦ one (subst (λ (x : PairRecord). is_nominated_and_valid x ≡ true) (sym now) live)
]

pub unless-back : (b : Bool) (ps : List PairRecord) → HasNominated (if b then ps else map undue ps) → HasNominated ps
unless-back true ps live = live
unless-back false ps live = map-back undue ps (λ p _ is. is) live

-- ---- forming

tries-back : (s : SidesRecord) (at : Combination) (old new : Formed) → Tries s at old new → HasNominated new.pairs → HasNominated old.pairs
tries-back s at old new (None, none, made) live =
    push-back old.pairs (pair_of s at old.next_number) (λ is. no-live is) (subst (λ (f : Formed). HasNominated f.pairs) made live)
tries-back s at old new (Some found, (has, redundant, greatest), made) live =
    choose (nat_lt found.priority (combined_priority s at)) (λ f. new ≡ f) _ old made
    (λ replaced. elim (Has-push kept taken (named replaced).0 (named replaced).1) [
      | inl was ↦ ((named replaced).0, Has-filter (λ q. not (is_numbered found.number q)) old.pairs (named replaced).0 was, (named replaced).2)
      | inr now ↦ (
        found,
        has,
        taken-live s.lite found s at old.next_number
            (subst (λ (x : PairRecord). is_nominated_and_valid x ≡ true) (sym now) (named replaced).2),
      )
    ])
    (λ dropped. subst (λ (f : Formed). HasNominated f.pairs) dropped live) where
      kept : List PairRecord
      kept = without (is_numbered found.number) old.pairs

      taken : PairRecord
      taken = taking_over s.lite found (pair_of s at old.next_number)

      named : {n : ℕ} → new ≡ record { pairs = kept ++ taken ∷ []; next_number = n } → HasNominated (kept ++ taken ∷ [])
      named replaced = subst (λ (f : Formed). HasNominated f.pairs) replaced live

each-back : (s : SidesRecord) (at : List Combination) (old new : Formed) → Each (Tries s) at old new → HasNominated new.pairs → HasNominated old.pairs
each-back s [] old new same live = subst (λ (f : Formed). HasNominated f.pairs) same live
each-back s (at ∷ more) old new (mid, one, others) live = tries-back s at old mid one (each-back s more mid new others live)

drops-back : (limit : ℕ) (gone old new : List PairRecord) → RemovesInTurn limit gone old new → HasNominated new → HasNominated old
drops-back limit [] old new (within, same) live = subst (λ (ps : List PairRecord). HasNominated ps) same live
drops-back limit (p ∷ gone) old new (over, has, others) live =
    filter-back (λ q. not (is_numbered p.number q)) old (drops-back limit gone (without (is_numbered p.number) old) new others live)

module _ {H P : Type 0} where
  -- only a pair that replaces one is valid and nominated
  pub forms-back : (old new : AgentRecord H P) (all : List Combination) → FormsAll old all new → HasNominated new.pairs → HasNominated old.pairs
  forms-back old new all (formed, (mid, each, evicts, number), made) live =
      let gone = removes (sides_of old) old.max_pairs mid.pairs formed.pairs evicts in
      each-back (sides_of old) all _ mid each (drops-back old.max_pairs gone.0 mid.pairs formed.pairs gone.1
      (subst (λ (a : AgentRecord H P). HasNominated a.pairs) made live))

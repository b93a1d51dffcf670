-- The pairs on a path on which no response and no request arrives: the times from which consent is counted stay.
use Rattle.is_pair.specs.Pairs.{last_of}
use Rattle.is_theorems.proofs.Common.{[], ◌<◌, ◌∙◌, ◌∷◌, ◌≡◌, ◌≤◌, ◌⊎◌, AgentRecord, ap, arith, base_of, below-each, Bool, candidate_at}
use Rattle.is_theorems.proofs.Common.{CandidateRecord, Combination, combined_priority, Continues, Each, evaluated, false, Formed, FormsAll}
use Rattle.is_theorems.proofs.Common.{Has, inl, inr, is_numbered, IsSound, List, nat_lt, Nominates, NominatesWhere, None, not, Option}
use Rattle.is_theorems.proofs.Common.{pair_of, PairRecord, Path, path_of, refl, removes, RemovesInTurn, Reselects, rising-each, sides_of}
use Rattle.is_theorems.proofs.Common.{SidesRecord, Some, subst, sym, taking_over, Tries, true, without, ℕ}
use Rattle.is_theorems.proofs.DuePairs.AfterNominationAndRemoval.{Base, nominates-thins, Thins}
use Rattle.is_theorems.proofs.PathSelection.NominationPoints.{All1, All3, AllNumbers}
use Rattle.is_theorems.proofs.RuleEffects.ChangedPairs.{parts_of}
use Rattle.is_theorems.proofs.RuleEffects.EarlierAndNewPairs.{choose, Fit, Has-filter, Has-push, Onward, Parts, parts_with, path_in}
use Rattle.is_theorems.proofs.RuleEffects.EarlierAndNewPairs.{redundant_path, taken_consent, taken_rest}
use Rattle.is_theorems.proofs.RuleEffects.SelectedPaths.{none_is, one_pair}

abbrev pub Goes : Parts → Parts → Type 0
Goes x y = Onward AllNumbers All1 All3 x y

last-none : (o : Option ℕ) → last_of o None ≡ o
last-none None = refl
last-none (Some at) = refl

-- a pair that stays is on its path
pub carry : (x y : Parts) → Fit x → Goes x y → (p q : PairRecord) → Has x.pairs p → Has y.pairs q → q.number ≡ p.number → path_in x p ≡ path_in y q
carry x y fit o p q has_p has_q same = elim (o.pairs q has_q) [
  | inl k ↦ (let is : k.was ≡ p = one_pair x.pairs k.was p fit.rising k.there has_p (k.number ∙ same) in
      subst (λ (z : PairRecord). path_in x z ≡ path_in y q) is k.path)
  | inr j ↦ (let above = j.above in let below = fit.below p has_p in absurd (let none : ⊥ = omega (arith, above, below, same) in none))
]

module _ (strict : Bool) (sent heard : ℕ) (path : Path) where
  -- the last check of the pair with a response was sent by then, and the peer's last check arrived by then
  pub record IsOver (p : PairRecord) : Type 0 where
    pub answered : (at : ℕ) → p.consented ≡ Some at → at ≤ sent
    pub asked : strict ≡ false → (at : ℕ) → p.last_request ≡ Some at → at ≤ heard

  -- so is each pair on the path
  abbrev pub AreOver : Parts → Type 0
  AreOver x = (p : PairRecord) → Has x.pairs p → path_in x p ≡ path → IsOver p

  pub over-as : (p q : PairRecord) → q.consented ≡ p.consented → q.last_request ≡ p.last_request → IsOver p → IsOver q
  over-as p q consented requested o = record {
    answered = λ at is. o.answered at (sym consented ∙ is);
    asked = λ loose at is. o.asked loose at (sym requested ∙ is);
  }

  pub over-new : (p : PairRecord) → p.consented ≡ None → p.last_request ≡ None → IsOver p
  over-new p consented requested = record {
    answered = λ at is. none_is at (sym consented ∙ is);
    asked = λ loose at is. none_is at (sym requested ∙ is);
  }

  -- the candidates of no pair change their addresses
  pub moved-over : (x y : Parts) → Fit x → Goes x y → ((p : PairRecord) → Has y.pairs p → Has x.pairs p) → AreOver x → AreOver y
  moved-over x y fit goes among o p has on = o p (among p has) (carry x y fit goes p p (among p has) has refl ∙ on)

  -- ---- forming

  abbrev SidesOver : SidesRecord → Formed → Type 0
  SidesOver s f = AreOver (parts_with AllNumbers All1 All3 s f)

  tries-one : (s : SidesRecord) (at : Combination) (old new : Formed) → SidesOver s old → Tries s at old new → SidesOver s new
  tries-one s at old new o (None, none, made) =
      subst (λ (f : Formed). SidesOver s f) (sym made) (λ p has on. elim (Has-push old.pairs (pair_of s at old.next_number) p has) [
        | inl was ↦ o p was on
        | inr now ↦ subst (λ (q : PairRecord). IsOver q) now (over-new (pair_of s at old.next_number) refl refl)
      ])
  tries-one s at old new o (Some found, (has, redundant, greatest), made) =
      choose (nat_lt found.priority (combined_priority s at)) (λ f. new ≡ f) _ old made
      (λ replaced. subst (λ (f : Formed). SidesOver s f) (sym replaced) (λ p there on. elim (Has-push (without (is_numbered found.number) old.pairs) taken p there) [
        | inl was ↦ o p (Has-filter (λ q. not (is_numbered found.number q)) old.pairs p was) on
        | inr now ↦ subst (λ (q : PairRecord). IsOver q) now (over-taken (o found has (same_path ∙ (ap (λ (q : PairRecord). path_in (parts_with AllNumbers All1 All3 s old) q) now ∙ on))))
      ]))
      (λ dropped. subst (λ (f : Formed). SidesOver s f) (sym dropped) o) where
        own : PairRecord
        own = pair_of s at old.next_number

        taken : PairRecord
        taken = taking_over s.lite found own

        same_path : path_in (parts_with AllNumbers All1 All3 s old) found ≡ path_in (parts_with AllNumbers All1 All3 s old) taken
        same_path =
            let rest = taken_rest AllNumbers All1 All3 s.lite found own in
            redundant_path AllNumbers All1 All3 s at old found taken redundant rest.2 rest.3

        requested : (lite : Bool) → IsOver found → strict ≡ false → (time : ℕ) → (taking_over lite found own).last_request ≡ Some time → time ≤ heard
        requested true over loose time is = over.asked loose time is
        requested false over loose time is = none_is time is

        over-taken : IsOver found → IsOver taken
        over-taken over = record {
          answered = λ time is. over.answered time (sym (taken_consent AllNumbers All1 All3 s.lite found own ∙ last-none found.consented) ∙ is);
          asked = requested s.lite over;
        }

  tries-each : (s : SidesRecord) (all : List Combination) (old new : Formed) → SidesOver s old → Each (Tries s) all old new → SidesOver s new
  tries-each s [] old new o same = subst (λ (f : Formed). SidesOver s f) (sym same) o
  tries-each s (at ∷ all) old new o (mid, one, others) = tries-each s all mid new (tries-one s at old mid o one) others

  removed-has : (limit : ℕ) (gone old new : List PairRecord) → RemovesInTurn limit gone old new → (p : PairRecord) → Has new p → Has old p
  removed-has limit [] old new (within, same) p has = subst (λ (ps : List PairRecord). Has ps p) same has
  removed-has limit (g ∷ gone) old new (over, there, others) p has =
      Has-filter (λ q. not (is_numbered g.number q)) old p (removed-has limit gone (without (is_numbered g.number) old) new others p has)

  module _ {H P : Type 0} where
    abbrev pub parts : AgentRecord H P → Parts
    parts a = parts_of AllNumbers All1 All3 a

    abbrev pub PairsOver : AgentRecord H P → Type 0
    PairsOver a = AreOver (parts a)

    pub made-over : (needed new : AgentRecord H P) → new ≡ needed → PairsOver needed → PairsOver new
    made-over needed new made o = subst (λ (a : AgentRecord H P). PairsOver a) (sym made) o

    pub forms-over : (old new : AgentRecord H P) (all : List Combination) → FormsAll old all new → PairsOver old → PairsOver new
    forms-over old new all (formed, (mid, each, evicts, number), made) o =
        let gone = removes (sides_of old) old.max_pairs mid.pairs formed.pairs evicts in
        let tried : SidesOver (sides_of old) mid = tries-each (sides_of old) all _ mid o each in
        subst (λ (a : AgentRecord H P). PairsOver a) (sym made)
        (λ p has on. tried p (removed-has old.max_pairs gone.0 mid.pairs formed.pairs gone.1 p has) on)

    -- ---- nomination

    pub thins-over : (old new : AgentRecord H P) → Thins 0 old new → PairsOver old → PairsOver new
    thins-over old new (base, thinned) o q has on =
        let k = thinned.back q has in
        let p : PairRecord = k.0 in
        let local : new.local ≡ old.local = ap (λ (b : Base). b.local) base in
        let remote : new.remote ≡ old.remote = ap (λ (b : Base). b.remote) base in
        over-as p q k.2.consented k.2.heard (o p k.1 (
        sym (ap (λ (cs : List CandidateRecord). at cs new.remote q.local q.remote) local
        ∙ (ap (λ (cs : List CandidateRecord). at old.local cs q.local q.remote) remote
        ∙ (ap (λ l. at old.local old.remote l q.remote) k.2.local ∙ ap (λ r. at old.local old.remote p.local r) k.2.remote))) ∙ on)) where
          at : List CandidateRecord → List CandidateRecord → ℕ → ℕ → Path
          at local remote l r = record { proto = (candidate_at local l).proto; source = base_of (candidate_at local l); destination = (candidate_at remote r).addr }

    pub nominates-over : (old new : AgentRecord H P) (named : Option Path) → Nominates old named new → PairsOver old → PairsOver new
    nominates-over old new named h o = thins-over old new (nominates-thins 0 old new named h) o

    pub where-over : (b : Bool) (old new : AgentRecord H P) (named : Option Path) → NominatesWhere b old named new → PairsOver old → PairsOver new
    where-over true old new named h o = nominates-over old new named h o
    where-over false old new named h o = made-over old new h.1 o

    pub reselects-over : (loses : Bool) (old new : AgentRecord H P) (named : Option Path) → Reselects loses old named new → PairsOver old → PairsOver new
    reselects-over true old new named (mid, nominates, made) o = made-over (evaluated _ mid) new made (nominates-over old mid named nominates o)
    reselects-over false old new named (none, made) o = made-over old new made o

    -- ---- no pair is added that has times

    -- Each pair is over, or was there before, with the same times, unless it is one of these.
    abbrev pub Carried : (PairRecord → Type 0) → AgentRecord H P → AgentRecord H P → Type 0
    Carried Changes old new =
        (q : PairRecord) → Has new.pairs q
        → ((p : PairRecord) × Has old.pairs p × (q.number ≡ p.number) × (((q.consented ≡ p.consented) × (q.last_request ≡ p.last_request)) ⊎ Changes p)) ⊎ IsOver q

    stayed-on : (old new : AgentRecord H P) → IsSound old → (p q : PairRecord) → Has old.pairs p → q.number ≡ p.number
        → Continues old new q ⊎ ((old.next_number ≤ q.number) × (q.number < new.next_number)) → path_of old p ≡ path_of new q
    stayed-on old new sound p q has same (inl (was, there, number, on, valid, nominated)) =
        let is : was ≡ p = one_pair old.pairs was p (rising-each old.pairs sound.rising) there has (number ∙ same) in
        subst (λ (z : PairRecord). path_of old z ≡ path_of new q) is on
    stayed-on old new sound p q has same (inr (above, below)) =
        let under = below-each old.next_number old.pairs sound.below p has in absurd (let none : ⊥ = omega (arith, above, under, same) in none)

    pub carried-over : (Changes : PairRecord → Type 0) (old new : AgentRecord H P) → IsSound old
        → ((q : PairRecord) → Has new.pairs q → Continues old new q ⊎ ((old.next_number ≤ q.number) × (q.number < new.next_number)))
        → ((p : PairRecord) → Changes p → path_of old p ≡ path → ⊥) → Carried Changes old new → PairsOver old → PairsOver new
    carried-over Changes old new sound numbers apart carried o q has on =
        by (carried q has) where
          by : ((p : PairRecord) × Has old.pairs p × (q.number ≡ p.number) × (((q.consented ≡ p.consented) × (q.last_request ≡ p.last_request)) ⊎ Changes p)) ⊎ IsOver q → IsOver q
          by (inr over) = over
          by (inl k) =
              let before : path_of old k.0 ≡ path = stayed-on old new sound k.0 q k.1 k.2 (numbers q has) ∙ on in
              elim k.3 [
                | inl same ↦ over-as k.0 q same.0 same.1 (o k.0 k.1 before)
                | inr changes ↦ absurd (apart k.0 changes before)
              ]

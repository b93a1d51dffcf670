-- A candidate that is added between two `handle_timeout` calls leaves no more checks of other pairs before a pair, except for
-- one by each pair that it adds.
use Rattle.is_pair.specs.declared.pair.states.NominationState.TheVariants.{None as Unnominated}
use Rattle.is_theorems.proofs.Common.{[], ◌++◌, ◌+◌, ◌∙◌, ◌∷◌, ◌≡◌, ◌≤◌, ◌⊎◌, AddsLocal, AddsRemote, AgentRecord, ap, appended, arith}
use Rattle.is_theorems.proofs.Common.{as_remote, Attempt, Bool, CandidateRecord, Combination, combined_priority, Each, enabled_again, false}
use Rattle.is_theorems.proofs.Common.{Formed, formed_of, FormsAll, Has, if◌then◌else◌, inl, inr, is_local_at, is_numbered, IsSound, List}
use Rattle.is_theorems.proofs.Common.{local_discarded, MayEndByLocal, MayEndByRemote, nat_lt, Nominated, NominationState, None, not, Ok}
use Rattle.is_theorems.proofs.Common.{one_if, pair_of, PairRecord, refl, removes, RemovesInTurn, rising-each, sides_of, SidesRecord, Some}
use Rattle.is_theorems.proofs.Common.{subst, Success, sym, taking_over, Tries, true, with_remote, without, ℕ}
use Rattle.is_theorems.proofs.CallEffects.AddedCandidates.{by_adding_local, by_adding_remote}
use Rattle.is_theorems.proofs.DuePairs.AfterNominationAndRemoval.{kept_of}
use Rattle.is_theorems.proofs.EarlierChecks.ChecksOfOtherPairs.{formed_by, own, leads, Measure, leads-filter, leads-push, weight}
use Rattle.is_theorems.proofs.EarlierChecks.BetweenTimeouts.{ground_of, Goes, goes-same}
use Rattle.is_theorems.proofs.StoredPairs.PairsAfterForming.{local-leaves, remote-leaves}
use Rattle.is_theorems.proofs.RuleEffects.SelectedPaths.{one_pair}

-- ---- one pair

weight-new : (both : Bool) (n : NominationState) → weight both n false ≤ one_if both
weight-new both Unnominated = omega arith
weight-new both Nominated = omega arith
weight-new both Attempt = omega arith
weight-new both Success = omega arith

unless-one : (b : Bool) (x one : ℕ) → x ≤ one → (if b then 0 else x) ≤ one
unless-one true x one le = omega arith
unless-one false x one le = le

module _ (w : Measure) (by : ℕ) where
  own-taken : (lite : Bool) (found : PairRecord) (s : SidesRecord) (at : Combination) (k : ℕ) → own w by (taking_over lite found (pair_of s at k)) ≤ one_if w.both
  own-taken true found s at k = unless-one (w.skips k) _ (one_if w.both) (weight-new w.both (taking_over true found (pair_of s at k)).nomination)
  own-taken false found s at k = unless-one (w.skips k) _ (one_if w.both) (weight-new w.both (taking_over false found (pair_of s at k)).nomination)

  own-new : (s : SidesRecord) (at : Combination) (k : ℕ) → own w by (pair_of s at k) ≤ one_if w.both
  own-new s at k = unless-one (w.skips k) (0 + one_if w.both) (one_if w.both) (omega arith)

  -- ---- forming

  abbrev Fewer : Formed → Formed → Type 0
  Fewer old new = leads w by new.pairs + formed_by w old.next_number ≤ leads w by old.pairs + formed_by w new.next_number

  pushes : (old : Formed) (rest : List PairRecord) (q : PairRecord) (new : Formed) → leads w by rest ≤ leads w by old.pairs → own w by q ≤ one_if w.both → new ≡ record { pairs = rest ++ q ∷ []; next_number = old.next_number + 1 }
      → Fewer old new
  pushes old rest q new fewer one made =
      let more : leads w by (rest ++ q ∷ []) ≤ leads w by rest + one_if w.both = leads-push w by (one_if w.both) q rest one in
      subst (λ (f : Formed). Fewer old f) (sym made) (counted w.both (leads w by (rest ++ q ∷ [])) (leads w by rest) (leads w by old.pairs) more fewer) where
        counted : (both : Bool) (x y z : ℕ) → x ≤ y + one_if both → y ≤ z → x + (if both then old.next_number else 0) ≤ z + (if both then old.next_number + 1 else 0)
        counted true x y z le less = omega (arith, le, less)
        counted false x y z le less = omega (arith, le, less)

  tries-leads : (s : SidesRecord) (at : Combination) (old new : Formed) → Tries s at old new → Fewer old new
  tries-leads s at old new (None, none, made) = pushes old old.pairs (pair_of s at old.next_number) new (omega arith) (own-new s at old.next_number) made
  tries-leads s at old new (Some found, is, made) = chosen (nat_lt found.priority (combined_priority s at)) made where
    chosen : (b : Bool) → new ≡ (if b then record { pairs = without (is_numbered found.number) old.pairs ++ taking_over s.lite found (pair_of s at old.next_number) ∷ []; next_number = old.next_number + 1 } else old)
        → Fewer old new
    chosen true replaced =
        pushes old (without (is_numbered found.number) old.pairs) (taking_over s.lite found (pair_of s at old.next_number)) new
        (leads-filter w by (λ q. not (is_numbered found.number q)) old.pairs) (own-taken s.lite found s at old.next_number) replaced
    chosen false same = subst (λ (f : Formed). Fewer old f) (sym same) (omega arith)

  each-leads : (s : SidesRecord) (all : List Combination) (old new : Formed) → Each (Tries s) all old new → Fewer old new
  each-leads s [] old new same = subst (λ (f : Formed). Fewer old f) (sym same) (omega arith)
  each-leads s (at ∷ all) old new (mid, one, others) =
      let a : Fewer old mid = tries-leads s at old mid one in
      let b : Fewer mid new = each-leads s all mid new others in
      omega (arith, a, b)

  drops-leads : (limit : ℕ) (gone old new : List PairRecord) → RemovesInTurn limit gone old new → leads w by new ≤ leads w by old
  drops-leads limit [] old new (within, same) = subst (λ ps. leads w by ps ≤ leads w by old) (sym same) (omega arith)
  drops-leads limit (p ∷ gone) old new (over, has, others) =
      let a : leads w by (without (is_numbered p.number) old) ≤ leads w by old = leads-filter w by (λ q. not (is_numbered p.number q)) old in
      let b : leads w by new ≤ leads w by (without (is_numbered p.number) old) = drops-leads limit gone (without (is_numbered p.number) old) new others in
      omega (arith, a, b)

module _ (n by : ℕ) where
  module _ {H P : Type 0} where
    -- the agent, and how many checks are left of the pairs that count
    abbrev Leads : AgentRecord H P → AgentRecord H P → Type 0
    Leads old new =
        (ground_of new ≡ ground_of old)
        × ((w : Measure) → leads w by new.pairs + formed_by w old.next_number ≤ leads w by old.pairs + formed_by w new.next_number)

    forms-leads : (mid new : AgentRecord H P) (all : List Combination) → FormsAll mid all new → Leads mid new
    forms-leads mid new all (f, (tried, each, evicts, next_is), made) = subst (λ (a : AgentRecord H P). Leads mid a) (sym made) (
      refl,
      (λ w. (let a : Fewer w by (formed_of mid) tried = each-leads w by (sides_of mid) all (formed_of mid) tried each in
          let b : leads w by f.pairs ≤ leads w by tried.pairs = (let all_gone = removes (sides_of mid) mid.max_pairs tried.pairs f.pairs evicts in drops-leads w by mid.max_pairs all_gone.0 tried.pairs f.pairs all_gone.1) in
          let same : formed_by w f.next_number ≡ formed_by w tried.next_number = ap (formed_by w) next_is in
          omega (arith, a, b, same))),
    )

    -- the pair is still there, as it was
    goes : (old new : AgentRecord H P) (p : PairRecord) → IsSound old → Has old.pairs p → p.number ≡ n → Leads old new → Has new.pairs p → Goes n by old new
    goes old new p sound has number l there = (
      l.0,
      record {
        less = λ w late. l.1 w;
        fixed = λ d cs le (q, q_there, is, due, checks). (
            let one : q ≡ p = one_pair old.pairs q p (rising-each old.pairs sound.rising) q_there has (is ∙ sym number) in
            (p, there, number, subst (λ (x : PairRecord). x.due ≡ Some d) one due, subst (λ (x : PairRecord). kept_of x ≡ cs) one checks));
      },
    )

    -- ---- the calls

    pub remote-goes : (old new : AgentRecord H P) (c : CandidateRecord) (p : PairRecord) → IsSound old → Has old.pairs p → p.number ≡ n → AddsRemote old c (Ok tt) new → MayEndByRemote old c p ⊎ Goes n by old new
    remote-goes old new c p sound has number h = elim (remote-leaves old new c p sound has h) [
      | inl there ↦ inr (by_adding_remote old new c h
          (λ same. goes-same n by old new same)
          (λ f. goes old new p sound has number (let k = forms-leads (with_remote (as_remote c) None old) new _ f in (k.0, k.1)) there)
          (λ k _ addr f. goes old new p sound has number (let k = forms-leads (with_remote (as_remote c) (Some k) old) new _ f in (k.0, k.1)) there))
      | inr ends ↦ inl ends
    ]

    pub local-goes : (answers : P → CandidateRecord → ℕ → ℕ → Type 0) (old new : AgentRecord H P) (c : CandidateRecord) (place : ℕ) (p : PairRecord) → IsSound old → Has old.pairs p → p.number ≡ n
        → AddsLocal answers old c (Ok (Some place)) new → MayEndByLocal answers old c p ⊎ Goes n by old new
    local-goes answers old new c place p sound has number h = elim (local-leaves answers old new c place p sound has h) [
      | inl there ↦ inr (by_adding_local old new answers c (Some place) h
          (λ same. goes-same n by old new same)
          (λ x _ f. goes old new p sound has number (let k = forms-leads (appended x old) new _ f in (k.0, k.1)) there)
          (λ k _ f. goes old new p sound has number (let l = forms-leads (enabled_again k old) new _ f in (l.0, l.1)) there)
          (λ x _ k f. goes old new p sound has number (superseded x k (forms-leads (appended x (local_discarded k old)) new _ f)) there))
      | inr ends ↦ inl ends
    ] where
      superseded : (x : CandidateRecord) (k : ℕ) → Leads (appended x (local_discarded k old)) new → Leads old new
      superseded x k l = (l.0, λ w. (let a = l.1 w in let b : leads w by (without (is_local_at k) old.pairs) ≤ leads w by old.pairs = leads-filter w by (λ q. not (is_local_at k q)) old.pairs in omega (arith, a, b)))

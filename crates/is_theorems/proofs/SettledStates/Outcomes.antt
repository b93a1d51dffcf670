-- What a call does to the state and to the selected pair: it leaves both, or nomination and then the state are evaluated.
use Rattle.is_stun.specs.declared.header.Class.TheVariants as class
use Rattle.is_theorems.proofs.Common.{◌&&◌, ◌∙◌, ◌≡◌, ◌⊎◌, AgentRecord, ap, Bool, Class, Emitted, false, IceConnectionState, inl, inr}
use Rattle.is_theorems.proofs.Common.{is_connected, is_modern, Issued, issued_as, last_of, List, New, None, not, nothing_emitted, Path}
use Rattle.is_theorems.proofs.Common.{refl, same_state, updates_late, Some, subst, sym, true, ℕ}
use Rattle.is_theorems.proofs.ConnectedConsent.ConnectedPairs.{HasNominated, IsBacked}
use Rattle.is_theorems.proofs.RuleEffects.SelectedPaths.{none_is, some_is}
use Rattle.is_theorems.proofs.SettledStates.LivePairs.{no-live}
use Rattle.is_theorems.proofs.SettledStates.SelectedPairs.{is-new, Selects}

-- no check is sent
abbrev pub IsUnasked : Emitted → Type 0
IsUnasked emitted = (issued : Issued) → emitted.issued ≡ Some issued → issued.class ≡ class.Request → ⊥

pub unasked-none : (emitted : Emitted) → emitted.issued ≡ None → IsUnasked emitted
unasked-none emitted none issued is asks = none_is issued (sym none ∙ is)

pub unasked-as : (emitted : Emitted) (path : Path) (c : Class) (id : List ℕ) → emitted.issued ≡ Some (issued_as path c id) → (c ≡ class.Request → ⊥)
    → IsUnasked emitted
unasked-as emitted path c id out differs issued is asks =
    differs (ap (λ (i : Issued). i.class) (some_is (issued_as path c id) issued (sym out ∙ is)) ∙ asks)

unsettled : (rule : Bool) → rule && false ≡ false
unsettled true = refl
unsettled false = refl

module _ {H P : Type 0} where
  -- the session has begun, and the profile is `Modern`
  abbrev pub HasRules : AgentRecord H P → Type 0
  HasRules a = (updates_late a ≡ true) × (is_modern a.timing ≡ true)

  -- or it has not begun
  abbrev pub MayGoOn : AgentRecord H P → Type 0
  MayGoOn a = (a.state ≡ New) ⊎ HasRules a

  pub new-unsettled : (a : AgentRecord H P) → a.state ≡ New → updates_late a ≡ false
  new-unsettled a is =
      ap (λ (state : IceConnectionState). is_modern a.timing && not (same_state state New)) is ∙ unsettled (is_modern a.timing)

  pub new-ruled : {A : Type 0} (a : AgentRecord H P) → a.state ≡ New → HasRules a → A
  new-ruled a is rules = no-live (sym (new-unsettled a is) ∙ rules.0)

  pub settles-begun : (a : AgentRecord H P) → updates_late a ≡ true → same_state a.state New ≡ false
  settles-begun a on = by (is_modern a.timing) (same_state a.state New) on where
    by : (rule new : Bool) → rule && not new ≡ true → new ≡ false
    by true true h = no-live h
    by true false h = refl
    by false new h = no-live h

  pub settles-as : (a b : AgentRecord H P) → b.state ≡ a.state → is_modern b.timing ≡ is_modern a.timing → updates_late b ≡ updates_late a
  settles-as a b state rules =
      ap (λ (s : IceConnectionState). is_modern b.timing && not (same_state s New)) state
      ∙ ap (λ (r : Bool). r && not (same_state a.state New)) rules

  pub may-go-on : (a : AgentRecord H P) → (a.state ≡ New) ⊎ (is_modern a.timing ≡ true) → MayGoOn a
  may-go-on a (inl new) = inl new
  may-go-on a (inr modern) = by (same_state a.state New) refl where
    by : (b : Bool) → same_state a.state New ≡ b → MayGoOn a
    by true is = inl (is-new a.state is)
    by false is = inr (
      ap (λ b. b && not (same_state a.state New)) modern ∙ ap (λ b. not b) is,
      modern,
    )

  -- ---- outcomes

  -- The state stays. With `Modern` the selected pair does too, and no pair is valid and nominated first, unless it is selected.
  pub record Stays (old : AgentRecord H P) (emitted : Emitted) (new : AgentRecord H P) : Type 0 where
    pub state : new.state ≡ old.state
    pub unasked : IsUnasked emitted
    pub silent : HasRules old → last_of emitted.selected_paths ≡ None
    pub back : HasRules old → HasNominated new.pairs → HasNominated old.pairs ⊎ Selects new
    pub keeps : HasRules old → Selects old → Selects new

  -- The state is evaluated. With `Modern` nomination was before it.
  pub record IsPlaceAtLimit (old new : AgentRecord H P) : Type 0 where
    pub begun : same_state new.state New ≡ false
    pub backed : IsBacked new
    pub connects : HasRules old → HasNominated new.pairs → is_connected new.state ≡ true
    pub selects : HasRules old → HasNominated new.pairs → Selects new

  abbrev pub Outcome : AgentRecord H P → Emitted → AgentRecord H P → Type 0
  Outcome old emitted new = Stays old emitted new ⊎ IsPlaceAtLimit old new

  -- a change before, which leaves the state
  pub record Prepares (old mid : AgentRecord H P) : Type 0 where
    pub state : mid.state ≡ old.state
    pub rules : is_modern mid.timing ≡ is_modern old.timing
    pub back : HasNominated mid.pairs → HasNominated old.pairs
    pub keeps : Selects old → Selects mid

  pub same-rules : (old mid : AgentRecord H P) → Prepares old mid → HasRules old → HasRules mid
  same-rules old mid k rules = (settles-as old mid k.state k.rules ∙ rules.0, k.rules ∙ rules.1)

  pub after-preparing : (old mid new : AgentRecord H P) (emitted : Emitted) → Prepares old mid → Outcome mid emitted new → Outcome old emitted new
  after-preparing old mid new emitted k (inl o) = inl (record {
    state = o.state ∙ k.state;
    unasked = o.unasked;
    silent = λ rules. o.silent (same-rules old mid k rules);
    back = λ rules live. elim (o.back (same-rules old mid k rules) live) [ inl was ↦ inl (k.back was) | inr is ↦ inr is ];
    keeps = λ rules was. o.keeps (same-rules old mid k rules) (k.keeps was);
  })
  after-preparing old mid new emitted k (inr o) = inr (record {
    begun = o.begun;
    backed = o.backed;
    connects = λ rules. o.connects (same-rules old mid k rules);
    selects = λ rules. o.selects (same-rules old mid k rules);
  })

  -- nothing else, and no path is selected
  pub prepared : (old mid new : AgentRecord H P) (emitted : Emitted) → Prepares old mid → last_of emitted.selected_paths ≡ None → IsUnasked emitted
      → new ≡ mid → Outcome old emitted new
  prepared old mid new emitted k none unasked made = inl (subst (λ (a : AgentRecord H P). Stays old emitted a) (sym made) (record {
    state = k.state;
    unasked = unasked;
    silent = λ _. none;
    back = λ _ live. inl (k.back live);
    keeps = λ _ was. k.keeps was;
  }))

  pub at-rest : (a : AgentRecord H P) → Prepares a a
  at-rest a = record { state = refl; rules = refl; back = λ live. live; keeps = λ is. is }

  pub nothing-done : (old mid new : AgentRecord H P) (emitted : Emitted) → Prepares old mid → emitted ≡ nothing_emitted → new ≡ mid → Outcome old emitted new
  nothing-done old mid new emitted k is made =
      prepared old mid new emitted k (ap (λ (x : Emitted). last_of x.selected_paths) is) (unasked-none emitted (ap (λ (x : Emitted). x.issued) is)) made

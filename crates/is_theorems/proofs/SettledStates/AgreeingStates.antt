-- With the profile `Modern`, an agent that is never lite is connected if and only if the path that it selected last is that of a pair that is valid
-- and nominated.
use Rattle.is_stun.specs.declared.header.Class.TheVariants as class
use Rattle.is_theorems.specs.Settled.{IsModernAlong, StatesAgree}
use Rattle.is_theorems.proofs.Common.{[], ◌∙◌, ◌∷◌, ◌≡◌, ◌⊎◌, AgentRecord, ap, AreNeverLite, Call, CandidateRecord, Check, clears, Entry}
use Rattle.is_theorems.proofs.Common.{Execution, false, Has, IceConnectionState, if◌then◌else◌, inl, inr, is_connected, is_modern}
use Rattle.is_theorems.proofs.Common.{is_nominated, is_nominated_and_valid, is_valid, IsAnswered, IsFresh, IsKept, IsSound, issued_as}
use Rattle.is_theorems.proofs.Common.{IsValidOn, last_of, List, lite_set_by, New, None, Option, option_or, PairRecord, Path, path_of}
use Rattle.is_theorems.proofs.Common.{PathEffect, refl, same_state, selected_along, Some, subst, sym, true, ℕ}
use Rattle.is_theorems.proofs.BasicLemmas.EqualAddresses.{both}
use Rattle.is_theorems.proofs.CallEffects.FailedCallsAndNewAgents.{fresh_sound}
use Rattle.is_theorems.proofs.CallEffects.PathAndTradeEffects.{path_theorem}
use Rattle.is_theorems.proofs.ConnectedConsent.ConnectedPairs.{HasNominated, IsBacked}
use Rattle.is_theorems.proofs.PathSelection.SelectedPairIsNominated.{IsNamed, names-next, was-named}
use Rattle.is_theorems.proofs.SettledStates.AfterCalls.{steps}
use Rattle.is_theorems.proofs.SettledStates.LivePairs.{live-by, no-live}
use Rattle.is_theorems.proofs.SettledStates.Outcomes.{HasRules, may-go-on, MayGoOn, new-ruled, Outcome, IsPlaceAtLimit, Stays}
use Rattle.is_theorems.proofs.SettledStates.SelectedPairs.{Selects}

begun-new : {A : Type 0} (state : IceConnectionState) → same_state state New ≡ false → state ≡ New → A
begun-new state begun is = no-live (sym begun ∙ ap (λ z. same_state z New) is)

module _ {H P : Type 0} where
  -- no pair is valid or has a check
  record AreUnchecked (a : AgentRecord H P) : Type 0 where
    pub invalid : (p : PairRecord) → Has a.pairs p → is_valid p ≡ true → ⊥
    pub unsent : (p : PairRecord) (c : Check) → Has a.pairs p → Has p.checks c → ⊥

  -- The agent is connected if and only if a pair is valid and nominated. Then the selected pair exists. In New no check was sent.
  record Agrees (a : AgentRecord H P) : Type 0 where
    pub backed : IsBacked a
    pub connects : HasNominated a.pairs → is_connected a.state ≡ true
    pub selects : HasNominated a.pairs → Selects a
    pub unchecked : a.state ≡ New → AreUnchecked a

  begins : (a : AgentRecord H P) → a.pairs ≡ [] → a.state ≡ New → Agrees a
  begins a none new = record {
    backed = λ connected. no-live (sym (ap (λ z. is_connected z) new) ∙ connected);
    connects = λ live. absurd (has-none live.0 live.1);
    selects = λ live. absurd (has-none live.0 live.1);
    unchecked = λ _. record { invalid = λ p has _. has-none p has; unsent = λ p c has _. has-none p has };
  } where
    has-none : (p : PairRecord) → Has a.pairs p → ⊥
    has-none p has = subst (λ (ps : List PairRecord). Has ps p) none has

  module _ (mac : H → List ℕ → List ℕ → List ℕ) (answers : P → CandidateRecord → ℕ → ℕ → Type 0) where
    module _ (old new : AgentRecord H P) (call : Call P) (e : Entry) (f : PathEffect mac old call e new) (before : Agrees old) where
      -- ---- before the session

      module _ (full : old.lite ≡ false) (is : old.state ≡ New) (o : Outcome old e.emitted new) where
        was : AreUnchecked old
        was = before.unchecked is

        still-invalid : (p : PairRecord) → Has new.pairs p → is_valid p ≡ true → ⊥
        still-invalid p has valid = by (f.valid full (path_of new p) (p, has, valid, refl)) where
          by : IsValidOn old (path_of new p) ⊎ IsAnswered mac old call e (path_of new p) → ⊥
          by (inl (q, there, valid, on)) = was.invalid q there valid
          by (inr (at, via, m, controlling, peer, brings, success, (q, c, there, keeps, id, role, on), known, signed, back)) = was.unsent q c there keeps

        none-live : HasNominated new.pairs → ⊥
        none-live (p, has, live) = still-invalid p has (both (is_valid p) (is_nominated p) live).0

        still-unsent : new.state ≡ New → (p : PairRecord) (c : Check) → Has new.pairs p → Has p.checks c → ⊥
        still-unsent is p c has keeps = by (f.checks (path_of new p) c.id c.controlling (p, c, has, keeps, refl, refl, refl)) o where
          by : IsKept old (path_of new p) c.id c.controlling
              ⊎ ((e.emitted.issued ≡ Some (issued_as (path_of new p) class.Request c.id)) × (c.controlling ≡ old.controlling) ×
              (new.controlling ≡ old.controlling))
              → Outcome old e.emitted new → ⊥
          by (inl (q, d, there, kept, id, role, on)) o = was.unsent q d there kept
          by (inr (out, role, stays)) (inl k) = k.unasked (issued_as (path_of new p) class.Request c.id) out refl
          by (inr (out, role, stays)) (inr k) = begun-new new.state k.begun is

        new-backed : Outcome old e.emitted new → IsBacked new
        new-backed (inl k) connected = no-live (sym (ap (λ z. is_connected z) (k.state ∙ is)) ∙ connected)
        new-backed (inr k) connected = k.backed connected

        still-new : Agrees new
        still-new = record {
          backed = new-backed o;
          connects = λ live. absurd (none-live live);
          selects = λ live. absurd (none-live live);
          unchecked = λ new. record { invalid = still-invalid; unsent = still-unsent new };
        }

      -- ---- in the session

      module _ (path : Option Path) (sound : IsSound old) (named : IsNamed path old) (rules : HasRules old) where
        settled : IsPlaceAtLimit old new → Agrees new
        settled k = record {
          backed = k.backed;
          connects = k.connects rules;
          selects = k.selects rules;
          unchecked = λ is. begun-new new.state k.begun is;
        }

        module _ (k : Stays old e.emitted new) where
          -- a selected pair was valid and nominated before
          selected-before : Selects new → HasNominated old.pairs
          selected-before (p, has, is) =
              let w = was-named mac old new call e f sound (k.silent rules) p has is in
              let n = named w.0.0 w.0.1 w.1 in
              (w.0.0, w.0.1, live-by w.0.0 n.0 n.1)

          live-before : HasNominated new.pairs → HasNominated old.pairs
          live-before live = elim (k.back rules live) [ inl was ↦ was | inr is ↦ selected-before is ]

          still-backed : IsBacked new
          still-backed connected =
              let live = before.backed (sym (ap (λ z. is_connected z) k.state) ∙ connected) in
              let s = k.keeps rules (before.selects live) in
              let n = names-next mac old new call e path f sound named s.0 s.1 s.2 in
              (s.0, s.1, live-by s.0 n.0 n.1)

          stayed : Agrees new
          stayed = record {
            backed = still-backed;
            connects = λ live. ap (λ z. is_connected z) k.state ∙ before.connects (live-before live);
            selects = λ live. k.keeps rules (before.selects (live-before live));
            unchecked = λ is. new-ruled old (sym k.state ∙ is) rules;
          }

      agrees-next : (path : Option Path) → IsSound old → IsNamed path old → old.lite ≡ false → MayGoOn old → Outcome old e.emitted new → Agrees new
      agrees-next path sound named full (inl is) o = still-new full is o
      agrees-next path sound named full (inr rules) (inl k) = stayed path sound named rules k
      agrees-next path sound named full (inr rules) (inr k) = settled path sound named rules k

    -- ---- executions

    along : (xs : List (Call P × Entry)) (old new : AgentRecord H P) (path : Option Path) → IsSound old → IsNamed path old → old.lite ≡ false → AreNeverLite xs
        → (execution : Execution mac answers xs old new) → IsModernAlong mac answers xs old new execution → Agrees old
        → Agrees new × IsNamed (selected_along path xs) new
    along [] old new path sound named full never is rules agrees =
        (subst (λ (a : AgentRecord H P). Agrees a) (sym is) agrees, subst (λ (a : AgentRecord H P). IsNamed path a) (sym is) named)
    along (x ∷ rest) old new path sound named full never (mid, s, t, based, step, more) (rules, others) agrees =
        let law = path_theorem mac answers old mid s t x.0 x.1 sound based step in
        let stays : lite_set_by x.0 false ≡ false = search (never x (inl refl)) in
        let set : (old.state ≡ New) ⊎ (is_modern old.timing ≡ true) = search rules in
        let later : IsModernAlong mac answers rest mid new more = search others in
        let may = may-go-on old set in
        let o = steps mac answers old mid s t x.1 x.0 full may step in
        along rest mid new (option_or (last_of x.1.emitted.selected_paths) (if clears x.0 x.1.answer then None else path)) law.1
        (names-next mac old mid x.0 x.1 path law.0 sound named) (law.0.lite ∙ (ap (λ b. lite_set_by x.0 b) full ∙ stays))
        (λ y has. never y (inr has)) more later
        (agrees-next old mid x.0 x.1 law.0 agrees path sound named full may o)

    pub states-agree : StatesAgree mac answers
    states-agree first last xs new full execution given =
        let fresh : IsFresh first = search new in
        let never : AreNeverLite xs = search full in
        let rules : IsModernAlong mac answers xs first last execution = search given in
        let sound : IsSound first = subst (λ (a : AgentRecord H P). IsSound a) (sym fresh.2) (fresh_sound H P first.provider fresh.0 fresh.1) in
        let none : first.pairs ≡ [] = ap (λ (a : AgentRecord H P). a.pairs) fresh.2 in
        let state : first.state ≡ New = ap (λ (a : AgentRecord H P). a.state) fresh.2 in
        let named : IsNamed None first = λ p has is. absurd (subst (λ (ps : List PairRecord). Has ps p) none has) in
        let k = along xs first last None sound named (ap (λ (a : AgentRecord H P). a.lite) fresh.2) never execution rules (begins first none state) in
        let agrees = k.0 in
        let named_last = k.1 in (
          λ connected. (let on : is_connected last.state ≡ true = search connected in
              let s = agrees.selects (agrees.backed on) in
              let n = named_last s.0 s.1 s.2 in
              (s.0, s.1, search (live-by s.0 n.0 n.1), search n.2)),
          λ can. (let live : is_nominated_and_valid can.0 ≡ true = search can.2 in search (agrees.connects (can.0, can.1, live))),
        )

-- A request that is served: if it selects a path, the state is evaluated with `Modern`.
use Rattle.is_stun.specs.declared.header.Class.TheVariants as class
use Rattle.is_theorems.proofs.Common.{◌&&◌, ◌∙◌, ◌≡◌, Absent, AddsUnknownSender, after_request, AgentRecord, ap, as_taken, Barred, Bool}
use Rattle.is_theorems.proofs.Common.{candidate_at, change_at, Conflict, conflict_of, CountsAndServes, Drops, Emitted, false}
use Rattle.is_theorems.proofs.Common.{FindsOrAddsPair, formed, Full, Has, IceCreds, if◌then◌else◌, in_turn, inl, inr, is_connected}
use Rattle.is_theorems.proofs.Common.{is_for_other_peer, is_misled, is_nominated, is_nominated_and_valid, is_numbered, is_some, is_valid}
use Rattle.is_theorems.proofs.Common.{is_valid_at, Known, last_of, List, local_place, MatchOption, New, nominated_by_peer, Nominates, None}
use Rattle.is_theorems.proofs.Common.{not, numbers, Option, pair_served, PairRecord, passes_at, Path, path_between, Queues}
use Rattle.is_theorems.proofs.Common.{RecordsAndResponds, refl, RemotePlace, replied, request_counted, RequestRecord, ResolvesRoleConflict}
use Rattle.is_theorems.proofs.Common.{ResolvesRoleConflictBy, same_state, selected_in, selects_at_requests, Send487, served, Serves}
use Rattle.is_theorems.proofs.Common.{state_updated, updates_late, Some, state_at, subst, switched, switched_sides, SwitchRole, sym, triggered_time}
use Rattle.is_theorems.proofs.Common.{true, Unknown, Vacant, with_pair, with_priority_in, with_request, with_sender, with_sender_at, ℕ}
use Rattle.is_theorems.proofs.BasicLemmas.EqualAddresses.{both}
use Rattle.is_theorems.proofs.BasicLemmas.MembersOfLists.{has-front}
use Rattle.is_theorems.proofs.BasicLemmas.ServedPairs.{numbered-by}
use Rattle.is_theorems.proofs.BasicLemmas.UsernamesAndFirstMatches.{any_has}
use Rattle.is_theorems.proofs.ConnectedConsent.ConnectedPairs.{evaluated-backed, HasNominated, settles-named}
use Rattle.is_theorems.proofs.RuleEffects.ChangedPairs.{self_kept}
use Rattle.is_theorems.proofs.RuleEffects.TriggeredPairs.{by_trigger, triggered_by}
use Rattle.is_theorems.proofs.RuleEffects.UnchangedSettings.{either}
use Rattle.is_theorems.proofs.StoredPairs.NumbersThatStay.{request-number}
use Rattle.is_theorems.proofs.SettledStates.LivePairs.{map-back, no-live, push-back}
use Rattle.is_theorems.proofs.SettledStates.Outcomes.{after-preparing, at-rest, HasRules, IsUnasked, nothing-done, Outcome, Prepares}
use Rattle.is_theorems.proofs.SettledStates.Outcomes.{prepared, settles-begun, Stays, unasked-as}
use Rattle.is_theorems.proofs.SettledStates.SelectedPairs.{at-number, begun-evaluated, evaluated-connects, map-selected, nominates-keeps}
use Rattle.is_theorems.proofs.SettledStates.SelectedPairs.{nominates-selects, nominates-state, Selects}

-- a full agent's pair is valid after a request only if it was
served-valid : (c l : Bool) (q : RequestRecord) (p : PairRecord) → l ≡ false → is_valid (served c l q p) ≡ is_valid p
served-valid c true q p full = no-live (sym full)
served-valid c false q p full =
    let w : PairRecord = with_request q.time p in
    let k = (self_kept (not c && q.use_candidate && not (is_nominated w)) false w).valid in
    numbered-by (λ x. is_valid x ≡ is_valid p) c q.nomination (nominated_by_peer c false q w) k (λ n. k)

module _ {H P : Type 0} where
  request-valid : (q : RequestRecord) (s : AgentRecord H P) (p : PairRecord) → s.lite ≡ false → is_valid (after_request q s p) ≡ is_valid p
  request-valid q s p full =
      served-valid s.controlling s.lite (as_taken (numbers s) q) (triggered_by q s p) full
      ∙ by_trigger (λ (x : PairRecord). is_valid x ≡ is_valid p) q s p (λ due. refl)

  module _ (mac : H → List ℕ → List ℕ → List ℕ) (q : RequestRecord) where
    -- ---- the pair

    module _ (l r number : ℕ) (s : AgentRecord H P) (full : s.lite ≡ false) where
      abbrev y : AgentRecord H P
      y = pair_served q number s

      served-keeps : Selects s → Selects y
      served-keeps was = map-selected s.selected_pair (change_at number (after_request q s)) s.pairs
          (λ p. at-number number (after_request q s) p (request-number q s p)) was

      -- no pair of this number is valid
      served-back : is_valid_at number s.pairs ≡ false → HasNominated y.pairs → HasNominated s.pairs
      served-back invalid live = map-back (change_at number (after_request q s)) s.pairs (λ p has is. by p has (is_numbered number p) refl is) live where
        by : (p : PairRecord) → Has s.pairs p → (b : Bool) → is_numbered number p ≡ b
            → is_nominated_and_valid (if b then after_request q s p else p) ≡ true → is_nominated_and_valid p ≡ true
        by p has true at is =
            let valid = sym (request-valid q s p full) ∙ (both (is_valid (after_request q s p)) (is_nominated (after_request q s p)) is).0 in
            no-live (sym invalid ∙ any_has (passes_at number is_valid) s.pairs p has (ap (λ b. b && is_valid p) at ∙ valid))
        by p has false at is = is

      evaluates-valid : HasRules s → (selects_at_requests s && is_valid_at number s.pairs) ≡ false → is_valid_at number s.pairs ≡ false
      evaluates-valid rules off =
          sym (ap (λ b. (if b then true else s.controlling) && is_valid_at number s.pairs) rules.1) ∙ off

    pair : (l r number : ℕ) (s new : AgentRecord H P) (emitted : Emitted) → s.lite ≡ false → RecordsAndResponds mac q l r number s emitted new
        → Outcome s emitted new
    pair l r number s new emitted full (path, mid, nominating, (values, is, made)) =
        subst (λ (a : AgentRecord H P). Outcome s emitted a) (sym made)
        (either (selects_at_requests s && is_valid_at number s.pairs) nominating (λ _ k. evaluates path refl k) (λ off k. leaves off k)) where
          after : AgentRecord H P
          after = replied mac q (path_between s l r) (state_updated (is_some path) (triggered_time q s) mid)

          silent : path ≡ None → last_of emitted.selected_paths ≡ None
          silent none = ap (λ (x : Emitted). last_of x.selected_paths) is ∙ ap (λ o. last_of (selected_in o None)) none

          unasked : IsUnasked emitted
          unasked = unasked-as emitted (path_between s l r) class.Success q.id (ap (λ (x : Emitted). x.issued) is) (λ (h : class.Success ≡ class.Request). cc)

          leaves : (selects_at_requests s && is_valid_at number s.pairs) ≡ false → (path ≡ None) × (mid ≡ y l r number s full) → Outcome s emitted after
          leaves off (none, same) =
              inl (subst (λ (o : Option Path). Stays s emitted (replied mac q (path_between s l r) (state_updated (is_some o) (triggered_time q s) mid))) (sym none)
              (subst (λ (a : AgentRecord H P). Stays s emitted (replied mac q (path_between s l r) (state_updated false (triggered_time q s) a))) (sym same) (record {
                state = refl;
                unasked = unasked;
                silent = λ _. silent none;
                back = λ rules live. inl (served-back l r number s full (evaluates-valid l r number s full rules off) live);
                keeps = λ _ was. served-keeps l r number s full was;
              })))

          evaluates : (o : Option Path) → path ≡ o → Nominates (y l r number s full) path mid → Outcome s emitted after
          evaluates None none k = inl (subst
              (λ (o : Option Path). Stays s emitted (replied mac q (path_between s l r) (state_updated (is_some o) (triggered_time q s) mid))) (sym none) (record {
                state = nominates-state (y l r number s full) mid path k;
                unasked = unasked;
                silent = λ _. silent none;
                back = λ _ live. inr (nominates-selects (y l r number s full) mid path k live);
                keeps = λ _ was. nominates-keeps (y l r number s full) mid path k (served-keeps l r number s full was);
              }))
          evaluates (Some one) some k =
              subst (λ (o : Option Path). Outcome s emitted (replied mac q (path_between s l r) (state_updated (is_some o) (triggered_time q s) mid))) (sym some)
              (by (updates_late s) refl) where
                on : updates_late mid ≡ updates_late s
                on = settles-named (y l r number s full) mid path k

                selected : AgentRecord H P
                selected = replied mac q (path_between s l r) (state_updated true (triggered_time q s) mid)

                by : (b : Bool) → updates_late s ≡ b → Outcome s emitted selected
                by true rule =
                    let state : selected.state ≡ state_at (triggered_time q s) mid =
                    ap (λ b. if b then state_at (triggered_time q s) mid else mid.state) (on ∙ rule) in
                    inr (record {
                      begun = ap (λ z. same_state z New) state ∙ begun-evaluated (triggered_time q s) mid;
                      backed = λ connected. evaluated-backed (triggered_time q s) mid (ap (λ z. is_connected z) (sym state) ∙ connected);
                      connects = λ rules live. ap (λ z. is_connected z) state ∙ evaluated-connects (triggered_time q s) mid (settles-begun mid (on ∙ rule)) live;
                      selects = λ _ live. nominates-selects (y l r number s full) mid path k live;
                    })
                by false rule = inl (record {
                  state = ap (λ b. if b then state_at (triggered_time q s) mid else mid.state) (on ∙ rule) ∙ nominates-state (y l r number s full) mid path k;
                  unasked = unasked;
                  silent = λ rules. no-live (sym rule ∙ rules.0);
                  back = λ rules. no-live (sym rule ∙ rules.0);
                  keeps = λ rules. no-live (sym rule ∙ rules.0);
                })

    -- ---- the rules before it

    dropped : (s new : AgentRecord H P) (emitted : Emitted) → Drops s emitted new → Outcome s emitted new
    dropped s new emitted (is, made) = nothing-done s s new emitted (at-rest s) is made

    added : (l r : ℕ) (s : AgentRecord H P) → Prepares s (with_pair (formed s l r) s)
    added l r s = record {
      state = refl;
      rules = refl;
      back = λ live. push-back s.pairs (formed s l r) (λ is. no-live is) live;
      keeps = λ was. (was.0, has-front s.pairs (formed s l r) was.0 was.1, was.2);
    }

    pub switches : (s : AgentRecord H P) → Prepares s (switched s)
    switches s = record {
      state = refl;
      rules = refl;
      back = λ live. map-back (with_priority_in (switched_sides s)) s.pairs (λ p _ is. is) live;
      keeps = λ was. map-selected s.selected_pair (with_priority_in (switched_sides s)) s.pairs (λ p. refl) was;
    }

    takes : (l r : ℕ) (number : Option ℕ) (s new : AgentRecord H P) (emitted : Emitted) → s.lite ≡ false → FindsOrAddsPair mac q l r number s emitted new
        → Outcome s emitted new
    takes l r (Some number) s new emitted full h = pair l r number s new emitted full h
    takes l r None s new emitted full h = either (candidate_at s.local l).discarded h (λ _ k. dropped s new emitted k)
        (λ _ k. after-preparing s (with_pair (formed s l r) s) new emitted (added l r s)
        (pair l r s.next_number (with_pair (formed s l r) s) new emitted full k.1))

    joins : (l : ℕ) (place : RemotePlace) (s new : AgentRecord H P) (emitted : Emitted) → s.lite ≡ false → AddsUnknownSender mac q l place s emitted new
        → Outcome s emitted new
    joins l (Known r) s new emitted full (number, between, h) = takes l r number s new emitted full h
    joins l Barred s new emitted full h = dropped s new emitted h
    joins l Full s new emitted full h = dropped s new emitted h
    joins l Unknown s new emitted full (number, between, h) = after-preparing s (with_sender q s) new emitted
        (record { state = refl; rules = refl; back = λ live. live; keeps = λ is. is }) (takes l _ number (with_sender q s) new emitted full h)
    joins l (Vacant r) s new emitted full (number, between, h) = after-preparing s (with_sender_at r q s) new emitted
        (record { state = refl; rules = refl; back = λ live. live; keeps = λ is. is }) (takes l r number (with_sender_at r q s) new emitted full h)

    admitted : (l : ℕ) (s new : AgentRecord H P) (emitted : Emitted) → s.lite ≡ false → CountsAndServes mac q l s emitted new → Outcome s emitted new
    admitted l s new emitted full h = either (is_misled s.controlling q) h (λ _ k. dropped s new emitted k)
        (λ _ k. after-preparing s (request_counted s) new emitted
        (record { state = refl; rules = refl; back = λ live. live; keeps = λ is. is }) (joins l k.0 (request_counted s) new emitted full k.2))

    resolves-by : (conflict : Conflict) (l : ℕ) (s new : AgentRecord H P) (emitted : Emitted) → s.lite ≡ false
        → ResolvesRoleConflictBy mac conflict q l s emitted new → Outcome s emitted new
    resolves-by Absent l s new emitted full h = admitted l s new emitted full h
    resolves-by Send487 l s new emitted full (values, is, made) = prepared s _ new emitted
        (record { state = refl; rules = refl; back = λ live. live; keeps = λ k. k })
        (ap (λ (x : Emitted). last_of x.selected_paths) is)
        (unasked-as emitted _ class.Failure q.id (ap (λ (x : Emitted). x.issued) is) (λ (h : class.Failure ≡ class.Request). cc)) made
    resolves-by SwitchRole l s new emitted full h = after-preparing s (switched s) new emitted (switches s) (admitted l (switched s) new emitted full h)

    here : (place : Option ℕ) (s new : AgentRecord H P) (emitted : Emitted) → s.lite ≡ false
        → MatchOption place (Drops s emitted new) (λ l. ResolvesRoleConflict mac q l s emitted new) → Outcome s emitted new
    here None s new emitted full h = dropped s new emitted h
    here (Some l) s new emitted full h = resolves-by (conflict_of s q) l s new emitted full h

    pub serves : (s new : AgentRecord H P) (emitted : Emitted) → s.lite ≡ false → Serves mac q s emitted new → Outcome s emitted new
    serves s new emitted full h = either (is_for_other_peer s q) (in_turn mac q s new emitted h) (λ _ k. dropped s new emitted k) (λ _ k. here (local_place s.local q) s new emitted full k)

    pub requested : (remote : Option IceCreds) (s new : AgentRecord H P) (emitted : Emitted) → s.lite ≡ false
        → MatchOption remote (Queues q s emitted new) (λ _. Serves mac q s emitted new) → Outcome s emitted new
    requested None s new emitted full (is, made) =
        nothing-done s _ new emitted (record { state = refl; rules = refl; back = λ live. live; keeps = λ k. k }) is made
    requested (Some peer) s new emitted full h = serves s new emitted full h

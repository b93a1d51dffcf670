-- If the agent is connected after a `handle_timeout` call that serves no early request, a pair is valid and nominated.
use Rattle.is_theorems.proofs.Common.{[], ◌&&◌, ◌||◌, ◌∙◌, ◌∷◌, ◌≡◌, AgentRecord, all_scheduled, ap, scheduled, at_timeout, Bool, change_at}
use Rattle.is_theorems.proofs.Common.{change_pair, Checking, ChecksTop, Completed, Connected, Disconnected, Emitted, evaluated, false}
use Rattle.is_theorems.proofs.Common.{followed, Has, has_nominated, has_possible, heard, IceConnectionState, IceCreds, if◌then◌else◌, inl}
use Rattle.is_theorems.proofs.Common.{inr, is_connected, is_expired, is_modern, is_nominated, is_nominated_and_valid, is_numbered, is_valid}
use Rattle.is_theorems.proofs.Common.{Issued, List, list_any, MaintainsPairs, map, MayCheck, New, next_state, nominated, nominated_by_self}
use Rattle.is_theorems.proofs.Common.{nominated_emitted, Nominates, nominates_at_once, None, not, Option, PairRecord, Path, path_left, refl}
use Rattle.is_theorems.proofs.Common.{remains, RemovesExpired, renominated, same_state, selection_of, state_updated, updates_late, Some, state_at}
use Rattle.is_theorems.proofs.Common.{Stream, StunTiming, subst, sym, timeout_begun, true, with_selection, ℕ}
use Rattle.is_theorems.proofs.BasicLemmas.EqualAddresses.{both}
use Rattle.is_theorems.proofs.CallEffects.ChecksAndResponses.{again_nominated}
use Rattle.is_theorems.proofs.CallEffects.ServedRequests.{Has-mapped}
use Rattle.is_theorems.proofs.PathSelection.NominationPoints.{Alike, checked_alike, heard_alike}
use Rattle.is_theorems.proofs.RuleEffects.NominatedPairs.{SelectsPath, selects_path}
use Rattle.is_theorems.proofs.RuleEffects.UnchangedSettings.{either}
use Rattle.is_theorems.proofs.BasicLemmas.PairsInTurn.{by-begins, sent-pairs, sent_at}
use Rattle.is_theorems.proofs.RuleEffects.PathsThatAreLeft.{original-left}

-- ---- the next state

no-case : false ≡ true → ⊥
no-case h = cc

unselected : (possible : Bool) → is_connected (if possible then Checking else Disconnected) ≡ true → ⊥
unselected true h = no-case h
unselected false h = no-case h

connected-selected : (state : IceConnectionState) (selected possible lite : Bool) → is_connected (next_state state selected possible lite) ≡ true → selected ≡ true
connected-selected New selected possible lite h = absurd (no-case h)
connected-selected Checking true possible lite h = refl
connected-selected Checking false possible lite h = absurd (unselected possible h)
connected-selected Connected true possible lite h = refl
connected-selected Connected false possible lite h = absurd (unselected possible h)
connected-selected Completed true possible lite h = refl
connected-selected Completed false possible lite h = absurd (unselected possible h)
connected-selected Disconnected true possible lite h = refl
connected-selected Disconnected false possible lite h = absurd (unselected possible h)

-- ---- pairs

any-found : (test : PairRecord → Bool) (ps : List PairRecord) → list_any test ps ≡ true → (p : PairRecord) × Has ps p × (test p ≡ true)
any-found test [] is = absurd (no-case is)
any-found test (p ∷ ps) is = by (test p) refl is (any-found test ps) where
  by : (b : Bool) → test p ≡ b → (b || list_any test ps) ≡ true → (list_any test ps ≡ true → (q : PairRecord) × Has ps q × (test q ≡ true))
      → (q : PairRecord) × Has (p ∷ ps) q × (test q ≡ true)
  by true here h others = (p, inl refl, here)
  by false here h others = let k = others h in (k.0, inr k.1, k.2)

stays-able : (n : ℕ) (c l : Bool) (p : PairRecord) → is_nominated_and_valid p ≡ true → is_nominated_and_valid (change_at n (nominated_by_self c l) p) ≡ true
stays-able n c l p able = at (is_numbered n p) where
  by : (b : Bool) → is_nominated p ≡ b → b ≡ true → is_nominated_and_valid (if not b && (c || l) then nominated l p else p) ≡ true
  by true is h = able
  by false is h = absurd (no-case h)

  self : is_nominated_and_valid (nominated_by_self c l p) ≡ true
  self = by (is_nominated p) refl (both (is_valid p) (is_nominated p) able).1

  at : (b : Bool) → is_nominated_and_valid (if b then nominated_by_self c l p else p) ≡ true
  at true = self
  at false = able

abbrev pub HasNominated : List PairRecord → Type 0
HasNominated ps = (p : PairRecord) × Has ps p × (is_nominated_and_valid p ≡ true)

-- a check leaves it
sent-nominates : (begins : Bool) (now : ℕ) (t : StunTiming) (c : Bool) (id : List ℕ) (n : ℕ) (ps : List PairRecord) → HasNominated ps → HasNominated (change_pair n (sent_at begins now t c id) ps)
sent-nominates begins now t c id n ps (p, has, able) =
    (change_at n (sent_at begins now t c id) p, Has-mapped (change_at n (sent_at begins now t c id)) ps p has, at (is_numbered n p)) where
      at : (b : Bool) → is_nominated_and_valid (if b then sent_at begins now t c id p else p) ≡ true
      at true = by-begins begins (λ x. is_nominated_and_valid x ≡ true) now t c id p
          ((checked_alike false now t c id (renominated p)).eligible ∙ (ap (λ b. is_valid p && b) (again_nominated p.nomination) ∙ able))
          ((checked_alike false now t c id p).eligible ∙ able)
      at false = able

alike-nominated : (f : PairRecord → PairRecord) (ps : List PairRecord) → ((p : PairRecord) → Alike false p (f p)) → HasNominated ps → HasNominated (map f ps)
alike-nominated f ps alike (p, has, able) = (f p, Has-mapped f ps p has, (alike p).eligible ∙ able)

module _ {H P : Type 0} where
  -- The agent is connected only if a pair is valid and nominated.
  abbrev pub IsBacked : AgentRecord H P → Type 0
  IsBacked a = is_connected a.state ≡ true → HasNominated a.pairs

  abbrev Backs : AgentRecord H P → AgentRecord H P → Type 0
  Backs old new = IsBacked old → IsBacked new

  same-backs : (old new : AgentRecord H P) → new ≡ old → Backs old new
  same-backs old new same b = subst (λ (a : AgentRecord H P). IsBacked a) (sym same) b

  pub evaluated-backed : (now : ℕ) (a : AgentRecord H P) → IsBacked (evaluated now a)
  evaluated-backed now a connected =
      any-found is_nominated_and_valid a.pairs (connected-selected a.state (has_nominated a) (has_possible now a) a.lite connected)

  updated-backs : (now : ℕ) (a : AgentRecord H P) → Backs a (state_updated true now a)
  updated-backs now a b = by (updates_late a) where
    by : (evaluates : Bool) → is_connected (if evaluates then state_at now a else a.state) ≡ true → HasNominated a.pairs
    by true connected = evaluated-backed now a connected
    by false connected = b connected

  -- ---- changes of pairs

  nominates-backs : (old new : AgentRecord H P) (path : Option Path) → Nominates old path new → Backs old new
  nominates-backs old new path h b = from (selects_path old new path h) where
    from : SelectsPath old path new → IsBacked new
    from (None, none, (is, same)) = same-backs old new same b
    from (Some top, chosen, k) = either (remains (followed old) top (selection_of old)) k
        (λ _ l. same-backs old new l.1 b)
        (λ _ l. subst (λ (a : AgentRecord H P). IsBacked a) (sym l.1) (λ connected.
        (let o = b connected in let f = change_at top.number (nominated_by_self old.controlling old.lite) in
        (f o.0, Has-mapped f old.pairs o.0 o.1, stays-able top.number old.controlling old.lite o.0 o.2))))

  expires-backs : (now : ℕ) (old new : AgentRecord H P) (path : Option Path) → RemovesExpired now old path new → Backs old new
  expires-backs now old new path h b = either (list_any (is_expired now old) old.pairs) h
      (λ _ k. subst (λ (a : AgentRecord H P). IsBacked a) (sym k.2) (evaluated-backed now k.0))
      (λ _ k. same-backs (state_updated true now old) new k.1 (updated-backs now old b))

  -- with `Modern` the state is evaluated in any case
  expires-settled : (now : ℕ) (old new : AgentRecord H P) (path : Option Path) → updates_late old ≡ true → RemovesExpired now old path new → IsBacked new
  expires-settled now old new path on h = either (list_any (is_expired now old) old.pairs) h
      (λ _ k. subst (λ (a : AgentRecord H P). IsBacked a) (sym k.2) (evaluated-backed now k.0))
      (λ _ k. subst (λ (a : AgentRecord H P). IsBacked a) (sym k.1) (λ connected.
      evaluated-backed now old (subst (λ (b : Bool). is_connected (if b then state_at now old else old.state) ≡ true) on connected)))

  pub settles-named : (old new : AgentRecord H P) (path : Option Path) → Nominates old path new → updates_late new ≡ updates_late old
  settles-named old new path (chosen, names, made) = ap (λ (a : AgentRecord H P). updates_late a) made ∙ emits path (with_selection chosen old) where
    emits : (path : Option Path) (a : AgentRecord H P) → updates_late (nominated_emitted path a) ≡ updates_late a
    emits None a = refl
    emits (Some path) a = refl

  module _ (mac : H → List ℕ → List ℕ → List ℕ) where
    checks-backs : (now : ℕ) (remote : Option IceCreds) (old new : AgentRecord H P) (s t : Stream) (issued : Option Issued)
        → MayCheck mac now remote old s issued new t → Backs old new
    checks-backs now None old new s t issued (is, made, drawn) b = same-backs old new made b
    checks-backs now (Some peer) old new s t issued h b = either old.lite h
        (λ _ k. subst (λ (a : AgentRecord H P). IsBacked a) (sym k.1) (λ connected.
        alike-nominated (heard now) old.pairs (λ p. heard_alike false now p.last_request p) (b connected)))
        (λ _ k. next k.0 k.2) where
          asks : is_connected old.state ≡ true → HasNominated (map (scheduled now old.timing) old.pairs)
          asks connected = alike-nominated (scheduled now old.timing) old.pairs (λ p. record { number = refl; priority = refl; greatest = refl; eligible = refl }) (b connected)

          next : (due : Option PairRecord) → ChecksTop mac now peer due (all_scheduled now old) s issued new t → IsBacked new
          next None (is, made, drawn) = subst (λ (a : AgentRecord H P). IsBacked a) (sym made) asks
          next (Some p) (id, drawn, values, is, made) = subst (λ (a : AgentRecord H P). IsBacked a) (sym made) (λ connected.
              let begins : Bool = nominates_at_once (all_scheduled now old) in
              subst (λ ps. HasNominated ps) (sym (sent-pairs begins p.number now old.timing old.controlling id (map (scheduled now old.timing) old.pairs)))
              (sent-nominates begins now old.timing old.controlling id p.number (map (scheduled now old.timing) old.pairs) (asks connected)))

    -- ---- the call

    pub maintained-backed : (now : ℕ) (old new : AgentRecord H P) (s t : Stream) (emitted : Emitted)
        → MaintainsPairs mac now (timeout_begun now old) s emitted new t → IsBacked new
    maintained-backed now old new s t emitted (first, second, issued, named, kept, nominating, giving, checking, is) =
        checks-backs now kept.remote_creds kept new s t issued checking (by (updates_late old) refl) where
          base : AgentRecord H P
          base = at_timeout now (timeout_begun now old)

          state-is : (b : Bool) → updates_late old ≡ b → base.state ≡ (if b then old.state else state_at now old)
          state-is b is = ap (λ (c : Bool). if c then old.state else state_at now old) is

          by : (b : Bool) → updates_late old ≡ b → IsBacked kept
          by true is =
              let on = ap (λ (state : IceConnectionState). is_modern old.timing && not (same_state state New)) (state-is true is) ∙ is in
              expires-settled now named kept second (settles-named (path_left now base) named first nominating ∙ on) giving
          by false is = expires-backs now named kept second giving (nominates-backs (path_left now base) named first nominating (backed (is_modern old.timing) refl)) where
            -- with `Modern` the session has not begun
            unbegun : (state : IceConnectionState) (selected possible lite : Bool) → not (same_state state New) ≡ false → is_connected (next_state state selected possible lite) ≡ true → IsBacked (path_left now base)
            unbegun New selected possible lite h connected = absurd (no-case connected)
            unbegun Checking selected possible lite h connected = absurd (no-case (sym h))
            unbegun Connected selected possible lite h connected = absurd (no-case (sym h))
            unbegun Completed selected possible lite h connected = absurd (no-case (sym h))
            unbegun Disconnected selected possible lite h connected = absurd (no-case (sym h))

            backed : (m : Bool) → is_modern old.timing ≡ m → IsBacked (path_left now base)
            backed false off = subst (λ (a : AgentRecord H P). IsBacked a) (sym (original-left now base off)) (λ connected.
                evaluated-backed now old (subst (λ (state : IceConnectionState). is_connected state ≡ true) (state-is false is) connected))
            backed true on = λ connected.
                unbegun old.state (has_nominated old) (has_possible now old) old.lite (sym (ap (λ b. b && not (same_state old.state New)) on) ∙ is)
                (subst (λ (state : IceConnectionState). is_connected state ≡ true) (state-is false is) connected) connected

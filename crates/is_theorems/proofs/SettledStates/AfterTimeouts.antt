-- Responses and `handle_timeout` calls: the state is evaluated after nomination.
use Rattle.is_stun.specs.declared.header.Class.TheVariants as class
use Rattle.is_theorems.proofs.Common.{formed_again}
use Rattle.is_theorems.proofs.Common.{◌&&◌, ◌∙◌, ◌≡◌, AgentRecord, all_scheduled, ap, scheduled, at_request, at_timeout, Bool, CandidateRecord}
use Rattle.is_theorems.proofs.Common.{change_at, check_sent, Checking, ChecksTop, Class, discovered_emitted, Emitted, Entry, Err}
use Rattle.is_theorems.proofs.Common.{expired_gone, false, first_taken, HandlesFailure, HandlesPacket, HandlesSuccess, Has, has_nominated}
use Rattle.is_theorems.proofs.Common.{has_possible, heard, IceConnectionState, IceCreds, IceError, if◌then◌else◌, inl, inr, is_connected}
use Rattle.is_theorems.proofs.Common.{is_expired, is_modern, is_numbered, Issued, List, list_any, MaintainsPairs, map, MatchOption}
use Rattle.is_theorems.proofs.Common.{MayCheck, Message, New, next_state, Nominates, nominates_at_once, None, not, nothing_emitted, Ok}
use Rattle.is_theorems.proofs.Common.{Option, PairRecord, Path, path_left, Receives, refl, RemovesExpired, request_at, request_in}
use Rattle.is_theorems.proofs.Common.{RequestRecord, Result, same_state, Serves, updates_late, Some, state_at, Stream, subst, switched, sym}
use Rattle.is_theorems.proofs.Common.{Takes, timeout_begun, TimesOut, true, ℕ}
use Rattle.is_theorems.proofs.BasicLemmas.PairsInTurn.{sent_at, sent-pairs}
use Rattle.is_theorems.proofs.ConnectedConsent.ConnectedPairs.{evaluated-backed, HasNominated, maintained-backed, settles-named}
use Rattle.is_theorems.proofs.PathSelection.NominationPoints.{Alike, alike_if, heard_alike, sent-alike}
use Rattle.is_theorems.proofs.RuleEffects.UnchangedSettings.{either}
use Rattle.is_theorems.proofs.SettledStates.AfterRequests.{requested, serves, switches}
use Rattle.is_theorems.proofs.SettledStates.LivePairs.{map-back, no-live}
use Rattle.is_theorems.proofs.SettledStates.Outcomes.{after-preparing, at-rest, HasRules, MayGoOn, new-ruled, new-unsettled, nothing-done}
use Rattle.is_theorems.proofs.SettledStates.Outcomes.{Outcome, Prepares, IsPlaceAtLimit, settles-begun}
use Rattle.is_theorems.proofs.SettledStates.SelectedPairs.{begun-evaluated, begun-next, evaluated-connects, map-selected, nominates-selects}
use Rattle.is_theorems.proofs.SettledStates.SelectedPairs.{nominates-state, Selects}
use Rattle.is_theorems.proofs.RuleEffects.NotedErrors.{coded, recoded, by_failure}

module _ {H P : Type 0} where
  -- ---- responses

  success : (now : ℕ) (old new : AgentRecord H P) (via : Path) (m : Message) (emitted : Emitted) → HandlesSuccess now old via m emitted new
      → Outcome old emitted new
  success now old new via m emitted (recorded, (i, p, after, found, keeps, took, made), (path, mid, nominates, is, concluded)) =
      let state : mid.state ≡ old.state = nominates-state (formed_again recorded) mid path nominates ∙ ap (λ (a : AgentRecord H P). a.state) made in
      inr (subst (λ (a : AgentRecord H P). IsPlaceAtLimit old a) (sym concluded) (record {
        begun = begun-evaluated now mid;
        backed = evaluated-backed now mid;
        connects = λ rules live. evaluated-connects now mid (ap (λ z. same_state z New) state ∙ settles-begun old rules.0) live;
        selects = λ _ live. nominates-selects (formed_again recorded) mid path nominates live;
      }))

  module _ (mac : H → List ℕ → List ℕ → List ℕ) where
    failure : (q : RequestRecord) (old new : AgentRecord H P) (via : Path) (m : Message) (emitted : Emitted) → HandlesFailure old via m emitted new
        → Outcome old emitted new
    failure q old new via m emitted h = by_failure (λ e a. Outcome old e a) old new via m emitted
        (λ code. nothing-done old (recoded code old) (recoded code old) nothing_emitted (notes code) refl refl)
        (λ code. after-preparing old (recoded code old) (switched (recoded code old)) nothing_emitted (notes code)
        (nothing-done (recoded code old) (switched (recoded code old)) (switched (recoded code old)) nothing_emitted (switches mac q (recoded code old)) refl refl)) h where
          notes : (code : PairRecord → Option ℕ) → Prepares old (recoded code old)
          notes code = record {
            state = refl;
            rules = refl;
            back = λ live. map-back (coded code) old.pairs (λ p _ is. is) live;
            keeps = λ was. map-selected old.selected_pair (coded code) old.pairs (λ p. refl) was;
          }

    by-class : (c : Class) (now : ℕ) (old mid : AgentRecord H P) (via : Path) (m : Message) (emitted : Emitted) → old.lite ≡ false
        → Takes mac c now old via m emitted mid → Outcome old emitted mid
    by-class class.Request now old mid via m emitted full h = requested mac (request_in now via m) old.remote_creds old mid emitted full h
    by-class class.Success now old mid via m emitted full h = success now old mid via m emitted h
    by-class class.Failure now old mid via m emitted full h = failure (request_in now via m) old mid via m emitted h
    by-class class.Indication now old mid via m emitted full h = absurd h
    by-class class.Unknown now old mid via m emitted full h = absurd h

    discovers : (c : Class) (emitted : Emitted) (via : Path) (old mid : AgentRecord H P) → Outcome old emitted mid
        → Outcome old emitted (discovered_emitted c emitted via mid)
    discovers c emitted via old mid (inl o) = inl (record { state = o.state; unasked = o.unasked; silent = o.silent; back = o.back; keeps = o.keeps })
    discovers c emitted via old mid (inr o) = inr (record { begun = o.begun; backed = o.backed; connects = o.connects; selects = o.selects })

    handled : (now : ℕ) (old new : AgentRecord H P) (via : Path) (m : Message) (r : Result Bool IceError) (emitted : Emitted) → old.lite ≡ false
        → HandlesPacket mac now old via m r emitted new → Outcome old emitted new
    handled now old new via m (Ok false) emitted full (rejected, is, made) = nothing-done old old new emitted (at-rest old) is made
    handled now old new via m (Ok true) emitted full (accepted, (mid, takes, made)) =
        subst (λ (a : AgentRecord H P). Outcome old emitted a) (sym made)
        (discovers m.class emitted via old mid (by-class m.class now old mid via m emitted full takes))
    handled now old new via m (Err error) emitted full (may, is, made) = nothing-done old old new emitted (at-rest old) is made

    pub received : (answers : P → CandidateRecord → ℕ → ℕ → Type 0) (now : ℕ) (old new : AgentRecord H P) (via : Path) (bytes : List ℕ) (e : Entry)
        → old.lite ≡ false
        → Receives mac answers now old via bytes e new → Outcome old e.emitted new
    received answers now old new via bytes e full (inl (fault, has, is, made)) =
        nothing-done old old new e.emitted (at-rest old) (ap (λ (x : Entry). x.emitted) is) made
    received answers now old new via bytes e full (inr (m, reads, (r, emitted, is, h))) =
        subst (λ (x : Emitted). Outcome old x new) (sym (ap (λ (x : Entry). x.emitted) is)) (handled now old new via m r emitted full h)

    -- ---- `handle_timeout`

    -- a check leaves the state, the selected pair, and which pairs are valid and nominated
    record Leaves (old new : AgentRecord H P) : Type 0 where
      pub state : new.state ≡ old.state
      pub back : HasNominated new.pairs → HasNominated old.pairs
      pub keeps : Selects old → Selects new

    leaves-all : (old new : AgentRecord H P) → new ≡ old → Leaves old new
    leaves-all old new same = subst (λ (a : AgentRecord H P). Leaves old a) (sym same) (record { state = refl; back = λ live. live; keeps = λ is. is })

    changes : (old new : AgentRecord H P) (f : PairRecord → PairRecord) → ((p : PairRecord) → Alike false p (f p)) → new.state ≡ old.state
        → new.selected_pair ≡ old.selected_pair
        → new.pairs ≡ map f old.pairs → Leaves old new
    changes old new f alike state number pairs = record {
      state = state;
      back = λ live. map-back f old.pairs (λ p _ is. sym (alike p).eligible ∙ is) (subst (λ ps. HasNominated ps) pairs live);
      keeps = λ was. (let k = map-selected old.selected_pair f old.pairs (λ p. (alike p).number) was in
          (k.0, subst (λ (ps : List PairRecord). Has ps k.0) (sym pairs) k.1, number ∙ k.2));
    }

    checks : (now : ℕ) (remote : Option IceCreds) (old new : AgentRecord H P) (s t : Stream) (issued : Option Issued)
        → MayCheck mac now remote old s issued new t → Leaves old new
    checks now None old new s t issued (is, made, drawn) = leaves-all old new made
    checks now (Some peer) old new s t issued h = either old.lite h
        (λ _ k. subst (λ (a : AgentRecord H P). Leaves old a) (sym k.1)
        (changes old _ (heard now) (λ p. heard_alike false now p.last_request p) refl refl refl))
        (λ _ k. next k.0 k.2) where
          asks : Leaves old (all_scheduled now old)
          asks = changes old (all_scheduled now old) (scheduled now old.timing)
              (λ p. record { number = refl; priority = refl; greatest = refl; eligible = refl }) refl refl refl

          next : (due : Option PairRecord) → ChecksTop mac now peer due (all_scheduled now old) s issued new t → Leaves old new
          next None (is, made, drawn) = subst (λ (a : AgentRecord H P). Leaves old a) (sym made) asks
          next (Some p) (id, drawn, values, is, made) =
              let begins : Bool = nominates_at_once (all_scheduled now old) in
              let change : PairRecord → PairRecord = sent_at begins now old.timing old.controlling id in
              subst (λ (a : AgentRecord H P). Leaves old a) (sym made)
              (let k = changes (all_scheduled now old) (check_sent mac now peer p id (all_scheduled now old)) (change_at p.number change)
              (λ q. alike_if (is_numbered p.number q) false q (change q) (sent-alike begins false now old.timing old.controlling id q)) refl refl
              (sent-pairs begins p.number now old.timing old.controlling id (map (scheduled now old.timing) old.pairs)) in
              record { state = k.state; back = λ live. asks.back (k.back live); keeps = λ was. k.keeps (asks.keeps was) })

    module _ (now : ℕ) (old : AgentRecord H P) where
      abbrev base : AgentRecord H P
      base = at_timeout now (timeout_begun now old)

      -- the state when the call starts
      state-is : (b : Bool) → updates_late old ≡ b → base.state ≡ (if b then old.state else state_at now old)
      state-is b is = ap (λ (c : Bool). if c then old.state else state_at now old) is

      base-begun : same_state base.state New ≡ false
      base-begun = by (updates_late old) refl where
        by : (b : Bool) → updates_late old ≡ b → same_state base.state New ≡ false
        by true is = ap (λ z. same_state z New) (state-is true is) ∙ settles-begun old is
        by false is = ap (λ z. same_state z New) (state-is false is) ∙ begun-next old.state (has_nominated old) (has_possible now old) old.lite

      module _ (named kept : AgentRecord H P) (first second : Option Path) (nominating : Nominates (path_left now base) first named)
          (giving : RemovesExpired now named second kept) where
        named-begun : same_state named.state New ≡ false
        named-begun = ap (λ z. same_state z New) (nominates-state (path_left now base) named first nominating) ∙ base-begun

        settled-begun : (b : Bool) → same_state (if b then state_at now named else named.state) New ≡ false
        settled-begun true = begun-next named.state (has_nominated named) (has_possible now named) named.lite
        settled-begun false = named-begun

        kept-begun : same_state kept.state New ≡ false
        kept-begun = either (list_any (is_expired now named) named.pairs) giving
            (λ _ k. subst (λ (a : AgentRecord H P). same_state a.state New ≡ false) (sym k.2) (begun-evaluated now k.0))
            (λ _ k. subst (λ (a : AgentRecord H P). same_state a.state New ≡ false) (sym k.1) (settled-begun (updates_late named)))

        kept-selects : HasNominated kept.pairs → Selects kept
        kept-selects = either (list_any (is_expired now named) named.pairs) giving
            (λ _ k. subst (λ (a : AgentRecord H P). HasNominated a.pairs → Selects a) (sym k.2) (nominates-selects (expired_gone now named) k.0 second k.1))
            (λ _ k. subst (λ (a : AgentRecord H P). HasNominated a.pairs → Selects a) (sym k.1) (nominates-selects (path_left now base) named first nominating))

        kept-connects : HasRules old → HasNominated kept.pairs → is_connected kept.state ≡ true
        kept-connects rules = either (list_any (is_expired now named) named.pairs) giving
            (λ _ k. subst (λ (a : AgentRecord H P). HasNominated a.pairs → is_connected a.state ≡ true) (sym k.2)
            (evaluated-connects now k.0 (ap (λ z. same_state z New) (nominates-state (expired_gone now named) k.0 second k.1) ∙ named-begun)))
            (λ _ k. subst (λ (a : AgentRecord H P). HasNominated a.pairs → is_connected a.state ≡ true) (sym k.1) (λ live.
            ap (λ (b : Bool). is_connected (if b then state_at now named else named.state)) on ∙ evaluated-connects now named named-begun live)) where
              on : updates_late named ≡ true
              on = settles-named (path_left now base) named first nominating
                  ∙ (ap (λ (state : IceConnectionState). is_modern old.timing && not (same_state state New)) (state-is true rules.0) ∙ rules.0)

      maintains : (new : AgentRecord H P) (s t : Stream) (emitted : Emitted) → MaintainsPairs mac now (timeout_begun now old) s emitted new t → IsPlaceAtLimit old new
      maintains new s t emitted (first, second, issued, named, kept, nominating, giving, checking, is) =
          let k = checks now kept.remote_creds kept new s t issued checking in
          record {
            begun = ap (λ z. same_state z New) k.state ∙ kept-begun named kept first second nominating giving;
            backed = maintained-backed mac now old new s t emitted (first, second, issued, named, kept, nominating, giving, checking, is);
            connects = λ rules live. ap (λ z. is_connected z) k.state ∙ kept-connects named kept first second nominating giving rules (k.back live);
            selects = λ _ live. k.keeps (kept-selects named kept first second nominating giving (k.back live));
          }

      abbrev taken : AgentRecord H P
      taken = first_taken (at_request now (timeout_begun now old))

      -- an early request is served
      early : (new : AgentRecord H P) (emitted : Emitted) → MayGoOn old → Outcome taken emitted new → Outcome old emitted new
      early new emitted (inr rules) o =
          after-preparing old taken new emitted (record { state = state-is true rules.0; rules = refl; back = λ live. live; keeps = λ was. was }) o
      early new emitted (inl is) o = inr (at-new o) where
        checking : taken.state ≡ Checking
        checking = state-is false (new-unsettled old is) ∙ ap (λ z. next_state z (has_nominated old) (has_possible now old) old.lite) is

        at-new : Outcome taken emitted new → IsPlaceAtLimit old new
        at-new (inl k) = record {
          begun = ap (λ z. same_state z New) (k.state ∙ checking);
          backed = λ connected. no-live (sym (ap (λ z. is_connected z) (k.state ∙ checking)) ∙ connected);
          connects = λ rules. new-ruled old is rules;
          selects = λ rules. new-ruled old is rules;
        }
        at-new (inr k) = record {
          begun = k.begun;
          backed = k.backed;
          connects = λ rules. new-ruled old is rules;
          selects = λ rules. new-ruled old is rules;
        }

      served-or : (new : AgentRecord H P) (s t : Stream) (emitted : Emitted) → old.lite ≡ false → MayGoOn old → (q : Option RequestRecord)
          → MatchOption q (MaintainsPairs mac now (timeout_begun now old) s emitted new t) (λ q. Serves mac q taken emitted new × (t ≡ s))
          → Outcome old emitted new
      served-or new s t emitted full may None h = inr (maintains new s t emitted h)
      served-or new s t emitted full may (Some q) (h, drawn) = early new emitted may (serves mac q taken new emitted full h)

    pub timed : (now : ℕ) (old new : AgentRecord H P) (s t : Stream) (r : Result (Unit {0}) IceError) (emitted : Emitted) → old.lite ≡ false → MayGoOn old
        → TimesOut mac now old s r emitted new t → Outcome old emitted new
    timed now old new s t (Ok _) emitted full may h = served-or now old new s t emitted full may (request_at now old) h
    timed now old new s t (Err error) emitted full may (fails, is, made, drawn) = nothing-done old old new emitted (at-rest old) is made

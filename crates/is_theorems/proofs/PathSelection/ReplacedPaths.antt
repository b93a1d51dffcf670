-- A pair that did not expire is removed by a `handle_timeout` call only if it gives way to another one, which stays.
use Rattle.is_theorems.specs.GivingWay.{IsReplaced, PathsAreReplaced}
use Rattle.is_theorems.proofs.Common.{◌&&◌, ◌<◌, ◌==◌, ◌||◌, ◌∙◌, ◌≡◌, AgentRecord, ap, arith, at_request, Bool, CandidateRecord, Check}
use Rattle.is_theorems.proofs.Common.{Emitted, Entry, eq-eqb, eqb-true, Err, false, first_of_last, first_unanswered, FOLLOWING, gives_way}
use Rattle.is_theorems.proofs.Common.{HandleTimeout, Has, inl, inr, is_answered, is_answered_by, is_answered_within, is_eligible}
use Rattle.is_theorems.proofs.Common.{is_expired, is_named_by, is_nominated, is_numbered, is_some, is_valid, IsGone, IsSound, List}
use Rattle.is_theorems.proofs.Common.{MaintainsPairs, MatchOption, named-by, nat_lt, nat_tests, None, not, Ok, Option, option_map_or}
use Rattle.is_theorems.proofs.Common.{outlives, PairRecord, refl, request_at, RequestRecord, ServesQueued, Some, Span, span_between}
use Rattle.is_theorems.proofs.Common.{span_from, Stays, Step, Stream, subst, sym, timeout_begun, true, unwrap_or, ℕ}
use Rattle.is_theorems.proofs.CallEffects.PathAndTradeEffects.{path_theorem}
use Rattle.is_theorems.proofs.CallEffects.SettingsRoleAndQueues.{maintains_pairs}
use Rattle.is_theorems.proofs.ExecutionLogs.LogTheorems.{points_are_top, runs_sound}
use Rattle.is_theorems.proofs.PathSelection.SelectedAfterResponse.{timeout-point}
use Rattle.is_theorems.proofs.RuleEffects.PathsThatAreLeft.{GivesWay, gives-why, passes}
use Rattle.is_theorems.proofs.RuleEffects.UnchangedSettings.{Frame}
use Rattle.is_theorems.proofs.StoredPairs.PairsThatStay.{pairs-stay}

all-four : (a b c d : Bool) → (a && b && c && d) ≡ true → (a ≡ true) × (b ≡ true) × (c ≡ true) × (d ≡ true)
all-four true true true d h = (refl, refl, refl, h)
all-four true true false d h = absurd (let no : false ≡ true = h in cc)
all-four true false c d h = absurd (let no : false ≡ true = h in cc)
all-four false b c d h = absurd (let no : false ≡ true = h in cc)

all-three : (a b c : Bool) → (a && b && c) ≡ true → (a ≡ true) × (b ≡ true) × (c ≡ true)
all-three true true c h = (refl, refl, h)
all-three true false c h = absurd (let no : false ≡ true = h in cc)
all-three false b c h = absurd (let no : false ≡ true = h in cc)

-- the silence is from one check to another one
between : (first last : Option Check) (silence : Span) → span_from first last ≡ Some silence
    → (a : Check) × (b : Check) × (first ≡ Some a) × (last ≡ Some b) × (silence ≡ span_between a b)
between None last silence h = absurd (let no : None ≡ Some silence = h in cc)
between (Some a) None silence h = absurd (let no : None ≡ Some silence = h in cc)
between (Some a) (Some b) silence h = let same : Some (span_between a b) ≡ Some silence = h in (a, b, refl, refl, ap (λ o. unwrap_or o silence) (sym same))

is-off : (b : Bool) → not b ≡ true → b ≡ false
is-off true h = absurd (let no : false ≡ true = h in cc)
is-off false h = refl

right-one : (a b : Bool) → a ≡ false → (a || b) ≡ true → b ≡ true
right-one true b off h = absurd (let no : true ≡ false = off in cc)
right-one false b off h = h

-- it had a response
answered-by : (at : ℕ) (c : Check) → is_answered_by at c ≡ true → is_answered c ≡ true
answered-by at c h = by c.answered h where
  by : (o : Option ℕ) → option_map_or (λ received. nat_lt received at) o false ≡ true → is_some o ≡ true
  by None none = none
  by (Some received) before = refl

lt-from : (n m : ℕ) → nat_lt n m ≡ true → n < m
lt-from n m h = grind (arith, nat_tests, h)

same-number : (n m : ℕ) → (n == m) ≡ true → (m == n) ≡ true
same-number n m h = eq-eqb m n (sym (eqb-true n m h))

-- it is eligible if it was
stays-able : (c d : Bool) (p q : PairRecord) → d ≡ c → (is_valid p ≡ true → is_valid q ≡ true) → (is_nominated p ≡ true → is_nominated q ≡ true) → is_eligible c p ≡ true → is_eligible d q ≡ true
stays-able c d p q role valid nominated able = subst (λ (r : Bool). is_eligible r q ≡ true) (sym role) (by c (is_valid p) (is_nominated p) refl refl able) where
  both : (a b : Bool) → a ≡ true → b ≡ true → (a && b) ≡ true
  both true b h k = k
  both false b h k = absurd (let no : false ≡ true = h in cc)

  by : (r v n : Bool) → is_valid p ≡ v → is_nominated p ≡ n → (v && (r || n)) ≡ true → (is_valid q && (r || is_nominated q)) ≡ true
  by true true n is_v is_n h = both (is_valid q) true (valid is_v) refl
  by false true true is_v is_n h = both (is_valid q) (is_nominated q) (valid is_v) (nominated is_n)
  by false true false is_v is_n h = absurd (let no : false ≡ true = h in cc)
  by r false n is_v is_n h = absurd (let no : false ≡ true = h in cc)

module _ {H P : Type 0} (mac : H → List ℕ → List ℕ → List ℕ) (answers : P → CandidateRecord → ℕ → ℕ → Type 0) where
  -- ---- the call

  module _ (now : ℕ) (old new : AgentRecord H P) (s t : Stream) (e : Entry) (p : PairRecord) (sound : IsSound old) (step : Step mac answers old s (HandleTimeout now) e new t)
      (unqueued : request_at now old ≡ None) (there : Has old.pairs p) (unexpired : is_expired now old p ≡ false) (gone : IsGone p.number new.pairs) where
    gives : gives_way now old p ≡ true
    gives = elim (pairs-stay mac answers old new s t (HandleTimeout now) e p sound tt step there) [
      | inl k ↦ absurd (gone k.pair k.there k.number)
      | inr (done, none, ends) ↦ right-one (is_expired now old p) (gives_way now old p) unexpired ends
    ]

    g : GivesWay now old p
    g = gives-why now old p gives

    -- the other pair did not expire, and is not the selected one
    parts : (not (is_numbered p.number g.other) ≡ true) × (is_eligible old.controlling g.other ≡ true) × (not (is_expired now old g.other) ≡ true)
        × (outlives g.silence g.other ≡ true)
    parts = all-four (not (is_numbered p.number g.other)) (is_eligible old.controlling g.other) (not (is_expired now old g.other)) (outlives g.silence g.other) g.replaces

    unselected : gives_way now old g.other ≡ true → ⊥
    unselected h =
        let named : is_named_by old.selected_pair g.other ≡ true = (gives-why now old g.other h).selected in
        let number : old.selected_pair ≡ Some p.number = named-by old.selected_pair p g.selected in
        let same : (p.number == g.other.number) ≡ true = ap (λ o. is_named_by o g.other) (sym number) ∙ named in
        let no : true ≡ false = sym (same-number p.number g.other.number same) ∙ is-off (is_numbered p.number g.other) parts.0 in
        cc

    stays : Stays old g.other new
    stays = elim (pairs-stay mac answers old new s t (HandleTimeout now) e g.other sound tt step g.there) [
      | inl k ↦ k
      | inr (done, none, ends) ↦ absurd (unselected (right-one (is_expired now old g.other) (gives_way now old g.other) (is-off (is_expired now old g.other) parts.2) ends))
    ]

    -- it had a response to a check that was sent meanwhile
    answered : (c : Check) × Has g.other.checks c × (is_answered_within g.silence c ≡ true)
    answered = passes (is_answered_within g.silence) g.other.checks parts.3

    within : (is_answered_by g.silence.to.0 answered.0 ≡ true) × (nat_lt g.silence.from.0 answered.0.sent ≡ true) × (nat_lt answered.0.sent g.silence.to.0 ≡ true)
    within = all-three (is_answered_by g.silence.to.0 answered.0) (nat_lt g.silence.from.0 answered.0.sent) (nat_lt answered.0.sent g.silence.to.0) answered.2

    silence : (a : Check) × (b : Check) × (first_unanswered p.checks ≡ Some a) × (first_of_last FOLLOWING p.checks ≡ Some b) × (g.silence ≡ span_between a b)
    silence = between (first_unanswered p.checks) (first_of_last FOLLOWING p.checks) g.silence g.lasts

    replaced-by : (emitted : Emitted) → MaintainsPairs mac now (timeout_begun now old) s emitted new t → IsReplaced old new p
    replaced-by emitted h =
        let role : new.controlling ≡ old.controlling = ap (λ (f : Frame H). f.controlling) (maintains_pairs mac now (timeout_begun now old) new s t emitted h).0 in
        let able : is_eligible new.controlling stays.pair ≡ true = stays-able old.controlling new.controlling g.other stays.pair role stays.valid stays.nominated parts.1 in
        record {
          rule = g.modern;
          selected = g.selected;
          silent = search g.silent;
          first = silence.0;
          begins = silence.2;
          following = silence.1;
          follows = search silence.3;
          other = g.other;
          there = g.there;
          answered = answered.0;
          had = (answered.1, answered-by g.silence.to.0 answered.0 within.0);
          meanwhile = (
            lt-from silence.0.sent answered.0.sent (subst (λ (x : Span). nat_lt x.from.0 answered.0.sent ≡ true) silence.4 within.1),
            lt-from answered.0.sent silence.1.sent (subst (λ (x : Span). nat_lt answered.0.sent x.to.0 ≡ true) silence.4 within.2),
          );
          stays = stays;
          eligible = search able;
        }

    replaced : IsReplaced old new p
    replaced = from step where
      from : Step mac answers old s (HandleTimeout now) e new t → IsReplaced old new p
      from (Ok _, emitted, is, h) = replaced-by emitted
          (subst (λ (o : Option RequestRecord). MatchOption o (MaintainsPairs mac now (timeout_begun now old) s emitted new t) (λ q. ServesQueued mac q (at_request now (timeout_begun now old)) s emitted new t)) unqueued h)
      from (Err error, emitted, is, (may, nothing, made, drawn)) =
          absurd (gone p (subst (λ (a : AgentRecord H P). Has a.pairs p) (sym made) there) refl)

  -- ---- in a log

  pub paths-are-replaced : PathsAreReplaced {H = H} {P = P} mac answers
  paths-are-replaced first s log fresh before mid after x point now p up =
      let sound = runs_sound mac answers (path_theorem mac answers) first mid s point.at before fresh point.led in
      let call : x.call ≡ HandleTimeout now = search up.call in
      let unexpired : is_expired now mid p ≡ false = search up.unexpired in
      let step : Step mac answers mid point.at (HandleTimeout now) x.entry after point.following = subst (λ c. Step mac answers mid point.at c x.entry after point.following) call point.step in
      let k = replaced now mid after point.at point.following x.entry p sound step up.unqueued up.there unexpired up.gone in
      (k, points_are_top mac answers (path_theorem mac answers) first s log fresh before mid after x point (timeout-point now mid x.call x.entry call up.done up.unqueued) k.stays.pair k.stays.there k.eligible)

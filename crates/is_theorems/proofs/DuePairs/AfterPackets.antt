-- A packet that is not an accepted success response leaves a controlling agent's pairs due as they were, and adds
-- none that is due early.
use Rattle.is_pair.specs.Due.{response_wait}
use Rattle.is_pair.specs.declared.pair.states.NominationState.TheVariants.{None as Unnominated}
use Rattle.is_stun.specs.declared.header.Class.TheVariants as class
use Rattle.is_theorems.proofs.Common.{[], ◌&&◌, ◌++◌, ◌+◌, ◌<◌, ◌==◌, ◌||◌, ◌∙◌, ◌∷◌, ◌≡◌, ◌≤◌, ◌⊎◌, Absent, AddsUnknownSender}
use Rattle.is_theorems.proofs.Common.{after_request, AgentRecord, AllBelow, ap, arith, Arrival, as_taken, Attempt, Barred, Bool}
use Rattle.is_theorems.proofs.Common.{candidate_at, CandidateRecord, change_at, Check, Class, computed_due_time, Conflict, conflict_of}
use Rattle.is_theorems.proofs.Common.{CountsAndServes, delay_of, Drops, due_by, due_time_of, early_delay, Emitted, Entry, Err, false}
use Rattle.is_theorems.proofs.Common.{filter, FindsOrAddsPair, Flag, formed, Full, HandlesFailure, HandlesPacket, Has, HUSHED_INTERVAL}
use Rattle.is_theorems.proofs.Common.{HUSHED_TIME, IceCreds, if◌then◌else◌, in_turn, inl, inr, is_due_by, is_early_on, is_for_other_peer}
use Rattle.is_theorems.proofs.Common.{is_misled, is_modern, is_nominated_state, is_nominating, is_numbered, is_some, is_triggered, is_valid}
use Rattle.is_theorems.proofs.Common.{is_valid_at, is_within, IsSenderPlace, IsSuccess, Known, last_check, later}
use Rattle.is_theorems.proofs.Common.{length, List, list_any, local_place, map, MatchOption, MAX, max, Message, min, moved_up, nat_lt}
use Rattle.is_theorems.proofs.Common.{new_pair, next_due_time, no-more, Nominated, NominatesWhere, NominationState, None, not, not-by}
use Rattle.is_theorems.proofs.Common.{numbers, Ok, Option, option_map, option_map_or, pair_served, PairRecord, passes_at, Path}
use Rattle.is_theorems.proofs.Common.{path_between, priority_between, Queues, ReceivePacket, RecordsAndResponds, refl, RemotePlace, replied}
use Rattle.is_theorems.proofs.Common.{request_counted, request_in, RequestRecord, ResolvesRoleConflict, ResolvesRoleConflictBy, same}
use Rattle.is_theorems.proofs.Common.{selects_at_requests, Send487, sender_candidate, served, Serves, state_updated, SHORT_INTERVAL, Some, Step}
use Rattle.is_theorems.proofs.Common.{Stream, StunTiming, subst, Success, switched, SwitchRole, sym, Takes, triggered_time, triggered, true}
use Rattle.is_theorems.proofs.Common.{unanswered_count, Unknown, unwrap_or, usual_delay, Vacant, with_pair, with_request, with_sender}
use Rattle.is_theorems.proofs.Common.{with_sender_at, ℕ}
use Rattle.is_theorems.proofs.RuleEffects.UnchangedSettings.{either, Frame, admits}
use Rattle.is_theorems.proofs.RuleEffects.ChangedPairs.{Has-map}
use Rattle.is_theorems.proofs.RuleEffects.EarlierAndNewPairs.{Has-push}
use Rattle.is_theorems.proofs.CallEffects.ServedRequests.{Has-mapped}
use Rattle.is_theorems.proofs.BasicLemmas.ServedPairs.{unnumbered-pair}
use Rattle.is_theorems.proofs.BasicLemmas.VacantIndices.{KeepsRemote, keeps-remote-same, keeps-remote-more, keeps-remote-put, vacant-at}
use Rattle.is_theorems.proofs.DuePairs.AfterNominationAndRemoval.{Distinct, last_time_of}
use Rattle.is_theorems.proofs.DuePairs.FirstDuePair.{Matches, le-from, le-is, matches-on, follows-map}
use Rattle.is_theorems.proofs.RuleEffects.NotedErrors.{coded, recoded, by_failure}

-- ---- due times

-- the pair's checks and their responses are the same
pub record CheckedAlike (p q : PairRecord) : Type 0 where
  pub checks : q.checks ≡ p.checks
  pub sent : q.checks_sent ≡ p.checks_sent
  pub first : q.first_sent ≡ p.first_sent
  pub again : q.first_after_request ≡ p.first_after_request
  pub answers : q.answers ≡ p.answers
  pub nomination : q.nomination ≡ p.nomination
  pub valid : is_valid q ≡ is_valid p
  pub consented : q.consented ≡ p.consented

delay-same : (now : ℕ) (t : StunTiming) (p q : PairRecord) → CheckedAlike p q → delay_of now t q ≡ delay_of now t p
delay-same now t p q alike =
    ap (λ n. by n q.nomination q.checks q.checks_sent q.first_sent q.first_after_request (is_valid q) q.consented) alike.answers
    ∙ ap (λ s. by p.answers s q.checks q.checks_sent q.first_sent q.first_after_request (is_valid q) q.consented) alike.nomination
    ∙ ap (λ cs. by p.answers p.nomination cs q.checks_sent q.first_sent q.first_after_request (is_valid q) q.consented) alike.checks
    ∙ ap (λ k. by p.answers p.nomination p.checks k q.first_sent q.first_after_request (is_valid q) q.consented) alike.sent
    ∙ ap (λ at. by p.answers p.nomination p.checks p.checks_sent at q.first_after_request (is_valid q) q.consented) alike.first
    ∙ ap (λ at. by p.answers p.nomination p.checks p.checks_sent p.first_sent at (is_valid q) q.consented) alike.again
    ∙ ap (λ v. by p.answers p.nomination p.checks p.checks_sent p.first_sent p.first_after_request v q.consented) alike.valid
    ∙ ap (λ had. by p.answers p.nomination p.checks p.checks_sent p.first_sent p.first_after_request (is_valid p) had) alike.consented where
      repeated : ℕ → NominationState → List Check → ℕ → Option ℕ → Option ℕ → ℕ
      repeated n s cs sent first again =
          if (if n == 0 then is_early_on now t (record p { first_sent = first; first_after_request = again }) else is_nominating s && nat_lt (unanswered_count cs) t.max_retransmits)
          then early_delay (if n == 0 then sent else unanswered_count cs)
          else usual_delay now t cs

      interval : List Check → Option ℕ → ℕ
      interval cs had = if nat_lt (unanswered_count cs) t.max_retransmits || is_within (later t.max_rto.0 HUSHED_TIME) now had then SHORT_INTERVAL else HUSHED_INTERVAL

      by : ℕ → NominationState → List Check → ℕ → Option ℕ → Option ℕ → Bool → Option ℕ → ℕ
      by n s cs sent first again v had =
          if is_modern t
          then (if v && is_nominated_state s && nat_lt 0 (unanswered_count cs)
          then min (max (interval cs had) (response_wait cs)) (repeated n s cs sent first again)
          else repeated n s cs sent first again)
          else usual_delay now t cs

next-same : (now : ℕ) (t : StunTiming) (p q : PairRecord) → CheckedAlike p q → next_due_time now t q ≡ next_due_time now t p
next-same now t p q alike =
    ap (λ delay. option_map_or (λ (c : Check). later c.sent delay) (last_check q.checks) now) (delay-same now t p q alike)
    ∙ ap (λ cs. option_map_or (λ (c : Check). later c.sent (delay_of now t p)) (last_check cs) now) alike.checks

-- it is computed from these only
computed-same : (s : NominationState) (now : ℕ) (t : StunTiming) (p q : PairRecord) → CheckedAlike p q → computed_due_time s now t q ≡ computed_due_time s now t p
computed-same Unnominated now t p q alike = next-same now t p q alike
computed-same Nominated now t p q alike = refl
computed-same Attempt now t p q alike = next-same now t p q alike
computed-same Success now t p q alike = next-same now t p q alike

-- ---- pairs

abbrev pub NoneValid : List PairRecord → Type 0
NoneValid ps = (p : PairRecord) → Has ps p → is_valid p ≡ false

-- The pair is due by a time exactly if it was. Computed at another time, its due time is by then only if the old pair's was, as computed
-- at that time or at this one.
pub record DueAlike (by at : ℕ) (t : StunTiming) (p q : PairRecord) : Type 0 where
  pub matches : Matches p q
  pub checks : q.checks ≡ p.checks
  pub before : (m : ℕ) → due_time_of m t q ≤ by → (due_time_of m t p ≤ by) ⊎ (due_time_of at t p ≤ by)
  pub stays : (m : ℕ) → due_time_of m t p ≤ by → due_time_of at t p ≤ by → due_time_of m t q ≤ by

due-same : (by at : ℕ) (t : StunTiming) (p : PairRecord) → DueAlike by at t p p
due-same by at t p = record {
  matches = record { number = refl; local = refl; remote = refl; valid = refl };
  checks = refl;
  before = λ m le. inl le;
  stays = λ m le now. le;
}

-- an error response leaves when it is due
coded-alike : (by at : ℕ) (t : StunTiming) (code : PairRecord → Option ℕ) (p : PairRecord) → DueAlike by at t p (coded code p)
coded-alike by at t code p = record {
  matches = record { number = refl; local = refl; remote = refl; valid = refl };
  checks = refl;
  before = λ m le. inl (subst (λ k. k ≤ by) (same_due m) le);
  stays = λ m le now. subst (λ k. k ≤ by) (sym (same_due m)) le;
} where
  same_due : (m : ℕ) → due_time_of m t (coded code p) ≡ due_time_of m t p
  same_due m = ap (λ k. unwrap_or p.due (min k (later m t.max_rto.0))) (computed-same p.nomination m t p (coded code p) (record { checks = refl; sent = refl; first = refl; again = refl; answers = refl; nomination = refl; valid = refl; consented = refl }))

-- computed at the same time
due-before : (by at : ℕ) (t : StunTiming) (p q : PairRecord) → DueAlike by at t p q → due_time_of at t q ≤ by → due_time_of at t p ≤ by
due-before by at t p q a le = elim (a.before at le) [ inl now ↦ now | inr now ↦ now ]

pub due-on : (by at : ℕ) (t : StunTiming) (p q r : PairRecord) → DueAlike by at t p q → DueAlike by at t q r → DueAlike by at t p r
due-on by at t p q r a b = record {
  matches = matches-on p q r a.matches b.matches;
  checks = b.checks ∙ a.checks;
  before = λ m le. elim (b.before m le) [ inl then_le ↦ a.before m then_le | inr now ↦ inr (due-before by at t p q a now) ];
  stays = λ m le now. b.stays m (a.stays m le now) (a.stays at now now);
}

-- a pair that is due by a time, as computed at any later time, is also due by it as computed at this one
abbrev pub Held : ℕ → ℕ → StunTiming → List PairRecord → Type 0
Held by at t ps = (p : PairRecord) → Has ps p → (m : ℕ) → by < m → due_time_of m t p ≤ by → due_time_of at t p ≤ by

held-alike : (by at m : ℕ) (t : StunTiming) (p q : PairRecord) → DueAlike by at t p q → (due_time_of m t p ≤ by → due_time_of at t p ≤ by) → due_time_of m t q ≤ by → due_time_of at t q ≤ by
held-alike by at m t p q a held le = elim (a.before m le) [
  | inl then_le ↦ a.stays at (held then_le) (held then_le)
  | inr now ↦ a.stays at now now
]

-- the effect of a packet on pairs and on the counter: what it leaves due if the time is before that of the last `handle_timeout` call
pub record Spares (by last at : ℕ) (t : StunTiming) (n : ℕ) (xs : List PairRecord) (m : ℕ) (ys : List PairRecord) : Type 0 where
  pub distinct : AllBelow n xs → Distinct xs → Distinct ys
  pub below : AllBelow n xs → AllBelow m ys
  pub invalid : NoneValid xs → NoneValid ys
  pub forth : by < last → (p : PairRecord) → Has xs p → (q : PairRecord) × Has ys q × DueAlike by at t p q
  pub held : by < last → Held by at t xs → Held by at t ys
  pub count : by < last → length (due_by by at t ys) ≤ length (due_by by at t xs)

pub spares-same : (by last at : ℕ) (t : StunTiming) (n : ℕ) (xs : List PairRecord) → Spares by last at t n xs n xs
spares-same by last at t n xs = record {
  distinct = λ b d. d;
  below = λ b. b;
  invalid = λ v. v;
  forth = λ late p has. (p, has, due-same by at t p);
  held = λ late h. h;
  count = λ late. omega arith;
}

spares-on : (by last at : ℕ) (t : StunTiming) (k m n : ℕ) (xs ys zs : List PairRecord) → Spares by last at t k xs m ys → Spares by last at t m ys n zs → Spares by last at t k xs n zs
spares-on by last at t k m n xs ys zs a b = record {
  distinct = λ low d. b.distinct (a.below low) (a.distinct low d);
  below = λ low. b.below (a.below low);
  invalid = λ v. b.invalid (a.invalid v);
  forth = λ late p has. (let x = a.forth late p has in let y = b.forth late x.0 x.1 in (y.0, y.1, due-on by at t p x.0 y.0 x.2 y.2));
  held = λ late h. b.held late (a.held late h);
  count = λ late. (let c = a.count late in let d = b.count late in omega (arith, c, d));
}

pub spares-map : (by last at : ℕ) (t : StunTiming) (n : ℕ) (f : PairRecord → PairRecord) (xs : List PairRecord) → ((p : PairRecord) → Matches p (f p))
    → (by < last → (p : PairRecord) → DueAlike by at t p (f p)) → Spares by last at t n xs n (map f xs)
spares-map by last at t n f xs matches alike = record {
  distinct = λ low d. (follows-map f xs matches).distinct d;
  below = λ low q has. (let o = Has-map f xs q has in
      let was : o.0.number < n = low o.0 o.1 in
      let same : q.number ≡ o.0.number = ap (λ (x : PairRecord). x.number) (sym o.2) ∙ (matches o.0).number in
      omega (arith, was, same));
  invalid = λ v q has. (let o = Has-map f xs q has in ap (λ (x : PairRecord). is_valid x) (sym o.2) ∙ ((matches o.0).valid ∙ v o.0 o.1));
  forth = λ late p has. (f p, Has-mapped f xs p has, alike late p);
  held = λ late h q has m above le.
      (let o = Has-map f xs q has in
      subst (λ (x : PairRecord). due_time_of at t x ≤ by) o.2
      (held-alike by at m t o.0 (f o.0) (alike late o.0) (h o.0 o.1 m above) (subst (λ (x : PairRecord). due_time_of m t x ≤ by) (sym o.2) le)));
  count = λ late. no-more (is_due_by by at t) (is_due_by by at t) f xs
      (λ p has is. le-is (due_time_of at t p) by (due-before by at t p (f p) (alike late p) (le-from (due_time_of at t (f p)) by is)));
}

has-front : (xs : List PairRecord) (x y : PairRecord) → Has xs y → Has (xs ++ x ∷ []) y
has-front [] x y h = absurd h
has-front (z ∷ zs) x y (inl e) = inl e
has-front (z ∷ zs) x y (inr h) = inr (has-front zs x y h)

-- an element that does not pass adds none
pushed : (test : PairRecord → Bool) (x : PairRecord) → test x ≡ false → (xs : List PairRecord) → length (filter test (xs ++ x ∷ [])) ≤ length (filter test xs)
pushed test x fails [] = only_pair (test x) fails where
  only_pair : (b : Bool) → b ≡ false → length (if b then x ∷ [] else []) ≤ 0
  only_pair true is = absurd (cc)
  only_pair false is = omega arith
pushed test x fails (y ∷ ys) = ahead (test y) (pushed test x fails ys) where
  ahead : (b : Bool) → length (filter test (ys ++ x ∷ [])) ≤ length (filter test ys)
      → length (if b then y ∷ filter test (ys ++ x ∷ []) else filter test (ys ++ x ∷ [])) ≤ length (if b then y ∷ filter test ys else filter test ys)
  ahead true k = omega (arith, k)
  ahead false k = k

-- a new pair is due when its due time is computed, which is after that time
new-due : (by at by_rto : ℕ) → by < at → by < MAX → by < min at (later at by_rto)
new-due by at by_rto h early = omega (arith, h, early)

never-due : (by m by_rto : ℕ) → by < m → by < MAX → min m (later m by_rto) ≤ by → ⊥
never-due by m by_rto h early le = omega (arith, h, early, le)

spares-push : (by last at : ℕ) (t : StunTiming) (n l r priority : ℕ) (xs : List PairRecord) → by < at → at < MAX
    → Spares by last at t n xs (n + 1) (xs ++ new_pair n l r priority ∷ [])
spares-push by last at t n l r priority xs following early = record {
  distinct = λ low d x y has_x has_y same. apart low d x y (Has-push xs (new_pair n l r priority) x has_x) (Has-push xs (new_pair n l r priority) y has_y) same;
  below = λ low q has. elim (Has-push xs (new_pair n l r priority) q has) [
    | inl k ↦ (let was : q.number < n = low q k in omega (arith, was))
    | inr e ↦ (let same : n ≡ q.number = ap (λ (x : PairRecord). x.number) e in omega (arith, same))
  ];
  invalid = λ v q has. elim (Has-push xs (new_pair n l r priority) q has) [
    | inl k ↦ v q k
    | inr e ↦ ap (λ (x : PairRecord). is_valid x) (sym e)
  ];
  forth = λ late p has. (p, has-front xs (new_pair n l r priority) p has, due-same by at t p);
  held = λ late h q has m above le. elim (Has-push xs (new_pair n l r priority) q has) [
    | inl k ↦ h q k m above le
    | inr e ↦ absurd (never-due by m t.max_rto.0 above (omega (arith, following, early)) (subst (λ (x : PairRecord). due_time_of m t x ≤ by) (sym e) le))
  ];
  count = λ late. pushed (is_due_by by at t) (new_pair n l r priority) (not-by (due_time_of at t (new_pair n l r priority)) by (new-due by at t.max_rto.0 following (omega (arith, following, early)))) xs;
} where
  differ : AllBelow n xs → (x y : PairRecord) → Has xs x → new_pair n l r priority ≡ y → x.number ≡ y.number → ⊥
  differ low x y has e same =
      let was : x.number < n = low x has in
      let its : n ≡ y.number = ap (λ (x : PairRecord). x.number) e in
      omega (arith, was, its, same)

  apart : AllBelow n xs → Distinct xs → (x y : PairRecord) → Has xs x ⊎ (new_pair n l r priority ≡ x) → Has xs y ⊎ (new_pair n l r priority ≡ y) → x.number ≡ y.number → x ≡ y
  apart low d x y (inl k) (inl m) same = d x y k m same
  apart low d x y (inl k) (inr e) same = absurd (differ low x y k e same)
  apart low d x y (inr e) (inl m) same = absurd (differ low y x m e (sym same))
  apart low d x y (inr e) (inr f) same = sym e ∙ f

-- a due time that is moved up to a later time than this one is by it exactly if it was
moved-before : (by to x : ℕ) (o : Option ℕ) → by < to → unwrap_or (option_map (min to) o) x ≤ by → unwrap_or o x ≤ by
moved-before by to x None late le = le
moved-before by to x (Some d) late le = omega (arith, late, le)

moved-stays : (by to x : ℕ) (o : Option ℕ) → unwrap_or o x ≤ by → unwrap_or (option_map (min to) o) x ≤ by
moved-stays by to x None le = le
moved-stays by to x (Some d) le = omega (arith, le)

moved-due : (now to : ℕ) (t : StunTiming) (p : PairRecord)
    → due_time_of now t (moved_up to p) ≡ unwrap_or (option_map (min to) p.due) (min (computed_due_time p.nomination now t p) (later now t.max_rto.0))
moved-due now to t p =
    ap (λ n. unwrap_or (option_map (min to) p.due) (min n (later now t.max_rto.0))) (computed-same p.nomination now t p (moved_up to p) (record { checks = refl; sent = refl; first = refl; again = refl; answers = refl; nomination = refl; valid = refl; consented = refl }))

triggered-alike : (by at to : ℕ) (t : StunTiming) (modern : Bool) (p : PairRecord) → by < to → DueAlike by at t p (triggered modern to p)
triggered-alike by at to t modern p late = moved (modern && is_triggered p) where
  moved : (b : Bool) → DueAlike by at t p (if b then moved_up to p else p)
  moved true = record {
    matches = record { number = refl; local = refl; remote = refl; valid = refl };
    checks = refl;
    before = λ m le. inl (moved-before by to (min (computed_due_time p.nomination m t p) (later m t.max_rto.0)) p.due late (subst (λ n. n ≤ by) (moved-due m to t p) le));
    stays = λ m le now. subst (λ n. n ≤ by) (sym (moved-due m to t p)) (moved-stays by to (min (computed_due_time p.nomination m t p) (later m t.max_rto.0)) p.due le);
  }
  moved false = due-same by at t p

triggered-matches : (modern : Bool) (to : ℕ) (p : PairRecord) → Matches p (triggered modern to p)
triggered-matches modern to p = moved (modern && is_triggered p) where
  moved : (b : Bool) → Matches p (if b then moved_up to p else p)
  moved true = record { number = refl; local = refl; remote = refl; valid = refl }
  moved false = record { number = refl; local = refl; remote = refl; valid = refl }

-- a request leaves the pair due by that time if it was, while the agent is controlling and not ICE-lite
module _ (to : ℕ) (n : ℕ) (q : RequestRecord) (modern : Bool) where
  served-matches : (c l : Bool) (p : PairRecord) → c ≡ true → l ≡ false → Matches p (change_at n (λ x. served c l q (triggered modern to x)) p)
  served-matches true false p is full = numbered (is_numbered n p) where
    numbered : (b : Bool) → Matches p (if b then served true false q (triggered modern to p) else p)
    numbered true =
        subst (λ (x : PairRecord). Matches p x) (sym (unnumbered-pair q.nomination (with_request q.time (triggered modern to p))))
        (matches-on p (triggered modern to p) (with_request q.time (triggered modern to p)) (triggered-matches modern to p) (record { number = refl; local = refl; remote = refl; valid = refl }))
    numbered false = record { number = refl; local = refl; remote = refl; valid = refl }
  served-matches true true p is full = absurd (cc)
  served-matches false l p is full = absurd (cc)

  served-alike : (by at : ℕ) (t : StunTiming) (c l : Bool) (p : PairRecord) → c ≡ true → l ≡ false → by < to → DueAlike by at t p (change_at n (λ x. served c l q (triggered modern to x)) p)
  served-alike by at t true false p is full late = numbered (is_numbered n p) where
    recorded-due : (m : ℕ) (x : PairRecord) → due_time_of m t (with_request q.time x) ≡ due_time_of m t x
    recorded-due m x = ap (λ k. unwrap_or x.due (min k (later m t.max_rto.0))) (computed-same x.nomination m t x (with_request q.time x) (record { checks = refl; sent = refl; first = refl; again = refl; answers = refl; nomination = refl; valid = refl; consented = refl }))

    recorded-alike : (x : PairRecord) → DueAlike by at t x (with_request q.time x)
    recorded-alike x = record {
      matches = record { number = refl; local = refl; remote = refl; valid = refl };
      checks = refl;
      before = λ m le. inl (subst (λ k. k ≤ by) (recorded-due m x) le);
      stays = λ m le now. subst (λ k. k ≤ by) (sym (recorded-due m x)) le;
    }

    recorded : (x : PairRecord) → DueAlike by at t x (served true false q x)
    recorded x = subst (λ (y : PairRecord). DueAlike by at t x y) (sym (unnumbered-pair q.nomination (with_request q.time x))) (recorded-alike x)

    numbered : (b : Bool) → DueAlike by at t p (if b then served true false q (triggered modern to p) else p)
    numbered true = due-on by at t p (triggered modern to p) (served true false q (triggered modern to p)) (triggered-alike by at to t modern p late) (recorded (triggered modern to p))
    numbered false = due-same by at t p
  served-alike by at t true true p is full late = absurd (cc)
  served-alike by at t false l p is full late = absurd (cc)

pub none-passes : (n : ℕ) (ps : List PairRecord) → NoneValid ps → is_valid_at n ps ≡ false
none-passes n [] none = refl
none-passes n (p ∷ ps) none = by (is_numbered n p) (is_valid p) (none p (inl refl)) (none-passes n ps (λ q has. none q (inr has))) where
  by : (a b : Bool) → b ≡ false → list_any (passes_at n is_valid) ps ≡ false → ((a && b) || list_any (passes_at n is_valid) ps) ≡ false
  by true true is rest = absurd (cc)
  by true false is rest = rest
  by false b is rest = rest

pub and-false : (a b : Bool) → b ≡ false → (a && b) ≡ false
and-false true b is = is
and-false false b is = refl

-- ---- the agent

pub record Core : Type 0 where
  pub lite : Bool
  pub remote_creds : Option IceCreds
  pub timing : StunTiming
  pub local : List CandidateRecord
  pub queue : List RequestRecord
  pub last_time : Option ℕ
  pub controlling : Bool
  pub renominates : Bool
  pub ahead_turn : Bool

-- remote candidates are only appended
abbrev pub Grown : List CandidateRecord → List CandidateRecord → Type 0
Grown old new = (new ≡ old) ⊎ ((c : CandidateRecord) × (new ≡ old ++ c ∷ []))

module _ {H P : Type 0} where
  abbrev pub core_of : AgentRecord H P → Core
  core_of a = record {
    lite = a.lite;
    remote_creds = a.remote_creds;
    timing = a.timing;
    local = a.local;
    queue = a.queue;
    last_time = a.last_time;
    controlling = a.controlling;
    renominates = a.renominates;
    ahead_turn = a.ahead_turn;
  }

  module _ (mac : H → List ℕ → List ℕ → List ℕ) (by at : ℕ) (following : by < at) (early : at < MAX) where
    -- the lists of candidates stay too
    abbrev Rests : AgentRecord H P → AgentRecord H P → Type 0
    Rests old new = (core_of new ≡ core_of old) × (new.remote ≡ old.remote) × Spares by (last_time_of old) at old.timing old.next_number old.pairs new.next_number new.pairs

    abbrev pub Arrived : AgentRecord H P → AgentRecord H P → Type 0
    Arrived old new = (core_of new ≡ core_of old) × KeepsRemote old.pairs old.remote new.remote × Spares by (last_time_of old) at old.timing old.next_number old.pairs new.next_number new.pairs

    rests-same : (old new : AgentRecord H P) → new ≡ old → Rests old new
    rests-same old new e = subst (λ (a : AgentRecord H P). Rests old a) (sym e) (refl, refl, spares-same by (last_time_of old) at old.timing old.next_number old.pairs)

    arrived : (old new : AgentRecord H P) → Rests old new → Arrived old new
    arrived old new r = (r.0, keeps-remote-same old.pairs old.remote new.remote r.1, r.2)

    pub arrived-same : (old new : AgentRecord H P) → new ≡ old → Arrived old new
    arrived-same old new e = arrived old new (rests-same old new e)

    module _ (q : RequestRecord) where
      pair : (l r number : ℕ) (s new : AgentRecord H P) (emitted : Emitted) → s.controlling ≡ true → s.lite ≡ false → NoneValid s.pairs → RecordsAndResponds mac q l r number s emitted new → Rests s new
      pair l r number s new emitted role full none (path, mid, nominates, (values, is, made)) =
          let k : (path ≡ None) × (mid ≡ pair_served q number s) =
          subst (λ b. NominatesWhere b (pair_served q number s) path mid) (and-false (selects_at_requests s) (is_valid_at number s.pairs) (none-passes number s.pairs none)) nominates in
          subst (λ (a : AgentRecord H P). Rests s a) (sym (made ∙ ap (λ (a : AgentRecord H P). replied mac q (path_between s l r) (state_updated (is_some path) (triggered_time q s) a)) k.1)) (
            refl,
            refl,
            spares-map by (last_time_of s) at s.timing s.next_number (change_at number (after_request q s)) s.pairs
                (λ p. served-matches (triggered_time q s) number (as_taken (numbers s) q) (is_modern s.timing) s.controlling s.lite p role full)
                (λ late p. served-alike (triggered_time q s) number (as_taken (numbers s) q) (is_modern s.timing) by at s.timing s.controlling s.lite p role full (omega (arith, late))),
          )

      takes : (l r : ℕ) (number : Option ℕ) (s new : AgentRecord H P) (emitted : Emitted) → s.controlling ≡ true → s.lite ≡ false → NoneValid s.pairs → FindsOrAddsPair mac q l r number s emitted new → Rests s new
      takes l r (Some number) s new emitted role full none h = pair l r number s new emitted role full none h
      takes l r None s new emitted role full none h = either (candidate_at s.local l).discarded h
          (λ _ k. rests-same s new k.1)
          (λ _ k. (
          let push = spares-push by (last_time_of s) at s.timing s.next_number l r (priority_between s l r) s.pairs following early in
          let rest = pair l r s.next_number (with_pair (formed s l r) s) new emitted role full (push.invalid none) k.1 in
          (rest.0, rest.1, spares-on by (last_time_of s) at s.timing s.next_number (s.next_number + 1) new.next_number s.pairs (s.pairs ++ formed s l r ∷ []) new.pairs push rest.2)))

      joins_at : (l : ℕ) (place : RemotePlace) (s new : AgentRecord H P) (emitted : Emitted) → s.controlling ≡ true → s.lite ≡ false → NoneValid s.pairs → IsSenderPlace s q place → AddsUnknownSender mac q l place s emitted new → Arrived s new
      joins_at l (Known r) s new emitted role full none is (number, between, h) = arrived s new (takes l r number s new emitted role full none h)
      joins_at l Barred s new emitted role full none is h = arrived-same s new h.1
      joins_at l (Vacant place) s new emitted role full none is (number, between, h) =
          let r = takes l place number (with_sender_at place q s) new emitted role full none h in
          (r.0, keeps-remote-put s.pairs s.remote new.remote place (sender_candidate s q) (vacant-at s.max_discovered s.remote s.pairs q place is).1 r.1, r.2)
      joins_at l Full s new emitted role full none is h = arrived-same s new h.1
      joins_at l Unknown s new emitted role full none is (number, between, h) =
          let r = takes l (length s.remote) number (with_sender q s) new emitted role full none h in
          (r.0, keeps-remote-more s.pairs s.remote new.remote (sender_candidate s q) r.1, r.2)

      admitted : (l : ℕ) (s new : AgentRecord H P) (emitted : Emitted) → s.controlling ≡ true → s.lite ≡ false → NoneValid s.pairs → CountsAndServes mac q l s emitted new → Arrived s new
      admitted l s new emitted role full none h = either (is_misled s.controlling q) h
          (λ _ k. arrived-same s new k.1)
          (λ _ k. joins_at l k.0 (request_counted s) new emitted role full none k.1 k.2)

      resolves_by : (conflict : Conflict) (l : ℕ) (s new : AgentRecord H P) (emitted : Emitted) → s.controlling ≡ true → s.lite ≡ false → NoneValid s.pairs → new.controlling ≡ true
          → ResolvesRoleConflictBy mac conflict q l s emitted new → Arrived s new
      resolves_by Absent l s new emitted role full none stays h = admitted l s new emitted role full none h
      resolves_by Send487 l s new emitted role full none stays (values, emitted_is, made) =
          subst (λ (a : AgentRecord H P). Arrived s a) (sym made) (refl, keeps-remote-same s.pairs s.remote s.remote refl, spares-same by (last_time_of s) at s.timing s.next_number s.pairs)
      resolves_by SwitchRole l s new emitted role full none stays h =
          let f : new.controlling ≡ not s.controlling = ap (λ (f : Frame H). f.controlling) (admits mac q l (switched s) new emitted h).0 in
          let no : true ≡ false = sym stays ∙ (f ∙ ap not role) in absurd (cc)

      here : (place : Option ℕ) (s new : AgentRecord H P) (emitted : Emitted) → s.controlling ≡ true → s.lite ≡ false → NoneValid s.pairs → new.controlling ≡ true
          → MatchOption place (Drops s emitted new) (λ l. ResolvesRoleConflict mac q l s emitted new) → Arrived s new
      here None s new emitted role full none stays h = arrived-same s new h.1
      here (Some l) s new emitted role full none stays h = resolves_by (conflict_of s q) l s new emitted role full none stays h

      requested : (remote : Option IceCreds) (s new : AgentRecord H P) (emitted : Emitted) → is_some remote ≡ true → s.controlling ≡ true → s.lite ≡ false → NoneValid s.pairs → new.controlling ≡ true
          → MatchOption remote (Queues q s emitted new) (λ _. Serves mac q s emitted new) → Arrived s new
      requested None s new emitted known role full none stays h = absurd (cc)
      requested (Some peer) s new emitted known role full none stays h = either (is_for_other_peer s q) (in_turn mac q s new emitted h)
          (λ _ k. arrived-same s new k.1)
          (λ _ k. here (local_place s.local q) s new emitted role full none stays k)

    failed : (s new : AgentRecord H P) (path : Path) (m : Message) (emitted : Emitted) → s.controlling ≡ true → new.controlling ≡ true → HandlesFailure s path m emitted new → Arrived s new
    failed s new path m emitted role stays h = by_failure (λ _ a. a.controlling ≡ true → Arrived s a) s new path m emitted
        (λ code _. arrived s (recoded code s) (
          refl,
          refl,
          spares-map by (last_time_of s) at s.timing s.next_number (coded code) s.pairs (λ p. (coded-alike by at s.timing code p).matches) (λ _ p. coded-alike by at s.timing code p),
        ))
        (λ code turned. (let no : true ≡ false = sym turned ∙ ap not role in absurd (cc))) h stays

    by-class : (c : Class) (now : ℕ) (old mid : AgentRecord H P) (path : Path) (m : Message) (emitted : Emitted) → is_some old.remote_creds ≡ true → old.controlling ≡ true → old.lite ≡ false
        → NoneValid old.pairs → mid.controlling ≡ true → Takes mac c now old path m emitted mid → (c ≡ class.Success) ⊎ Arrived old mid
    by-class class.Request now old mid path m emitted known role full none stays h = inr (requested (request_in now path m) old.remote_creds old mid emitted known role full none stays h)
    by-class class.Success now old mid path m emitted known role full none stays h = inl refl
    by-class class.Failure now old mid path m emitted known role full none stays h = inr (failed old mid path m emitted role stays h)
    by-class class.Indication now old mid path m emitted known role full none stays h = absurd h
    by-class class.Unknown now old mid path m emitted known role full none stays h = absurd h

    -- a packet that arrived is an accepted success response, or leaves the pairs as `Spares` says
    pub arrives : (now : ℕ) (old new : AgentRecord H P) (path : Path) (m : Message) (accepted : Bool) (emitted : Emitted) → is_some old.remote_creds ≡ true → old.controlling ≡ true → old.lite ≡ false
        → NoneValid old.pairs → new.controlling ≡ true → HandlesPacket mac now old path m (Ok accepted) emitted new
        → ((accepted ≡ true) × (m.class ≡ class.Success)) ⊎ Arrived old new
    arrives now old new path m false emitted known role full none stays (no_one, is, made) = inr (arrived-same old new made)
    arrives now old new path m true emitted known role full none stays (is_accepted, (mid, takes_it, made)) =
        elim (by-class m.class now old mid path m emitted known role full none (ap (λ (a : AgentRecord H P). a.controlling) (sym made) ∙ stays) takes_it) [
          | inl success ↦ inl (refl, success)
          | inr k ↦ inr (subst (λ (a : AgentRecord H P). Arrived old a) (sym made) (k.0, k.1, k.2))
        ]

    -- raw bytes that arrived: an accepted success response, or the pairs are left as `Spares` says
    pub receives : (answers : P → CandidateRecord → ℕ → ℕ → Type 0) (x : Arrival) (old new : AgentRecord H P) (s t : Stream) → is_some old.remote_creds ≡ true → old.controlling ≡ true → old.lite ≡ false
        → NoneValid old.pairs → new.controlling ≡ true → Step mac answers old s (ReceivePacket x.at x.via x.bytes) x.entry new t → IsSuccess x ⊎ Arrived old new
    receives answers x old new s t known role full none stays (inl (fault, has, is, made), drawn) = inr (arrived-same old new made)
    receives answers x old new s t known role full none stays (inr (m, reads, (Err error, emitted, is, (may, emitted_is, made))), drawn) = inr (arrived-same old new made)
    receives answers x old new s t known role full none stays (inr (m, reads, (Ok accepted, emitted, is, handles)), drawn) =
        elim (arrives x.at old new x.via m accepted emitted known role full none stays handles) [
          | inl (yes_it_was, success) ↦ inl (m, reads, ap (λ (e : Entry). e.answer) is ∙ ap Flag yes_it_was, success)
          | inr k ↦ inr k
        ]

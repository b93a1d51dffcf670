-- What the server's responses do to a lease keeps how far its renewal is.
use Rattle.std.proofs.Common.{◌≡◌, ℕ, ◌+◌, ◌*◌, ◌≤◌, ◌<◌, ◌==◌, ◌&&◌, not, Bool, true, List, Option, Some, None, is_none, is_some, refl, sym, ap, subst, arith}
use Rattle.is_turn_theorems.proofs.Common.{and_parts, another, answered_by, answered_in, at_place, at_time, Attempt, attempt_of, challenge_taken, changed, ClientTiming, code_of, code_or_success}
use Rattle.is_turn_theorems.proofs.Common.{Credentials, doubted, failed_at, hinted, Instant, is_given, is_last_sent, is_ready, is_unknown, IsLeaseAnswered, IsLeaseServed, kept_leases, lasts}
use Rattle.is_turn_theorems.proofs.Common.{lasts_since, Lease, LeaseApplies, LeaveForLeases, Limits, MAX, Message, not-false, on_alternate, on_challenge, on_code, on_success, Operation, or_right}
use Rattle.is_turn_theorems.proofs.Common.{or_success, outcome_by, outcome_or, outcome_with, Phase, Receipt, relays, Request, SECOND, Session, SocketAddr, takes_challenge, Verdict, verdict_of}
use Rattle.is_turn_theorems.proofs.Common.{with_changed, World}
use Rattle.is_turn.specs.declared.requests.Request.TheVariants as requests
use Rattle.is_turn.specs.declared.session.Phase.TheVariants as phases
use Rattle.is_turn.specs.declared.verdict.Verdict.TheVariants as verdicts
use Rattle.is_turn.specs.Attempts.{is_last as is_last_of_id}
use Rattle.is_turn_theorems.proofs.OtherCalls.{through}
use Rattle.is_turn_theorems.proofs.Verdicts.{servers, signed_for, IsFine, IsServers, fine_verdict, dropped_code, counted}
use Rattle.is_turn_theorems.proofs.LeaseLists.{keep_set}
use Rattle.is_turn_theorems.proofs.LeaseStanding.{Bare, Met}
use Rattle.is_turn_theorems.proofs.LeaseCalls.{MetAt, BareAt, bare_changed, bare_failed, LeaseCounts, doubted_met, hinted_met, another_met, lasts_met, failed_met}
use Rattle.is_turn_theorems.proofs.LeaseTimeouts.{kept_ready, bare_kept}

-- ---- what a response may do to the lease in a place, and what is known then if it is this one

pub record Answers (R : List Lease → Type 0) (k : Limits) (now place q : ℕ) (t : ClientTiming) (l : List Lease) (new : Session) : Type 0 where
  pub keeps : R l
  pub doubts : (code : ℕ) → R (with_changed q (changed (doubted code)) l)
  pub hints : (code : ℕ) → (place ≡ q → is_given (at_place q l) ≡ true → ⊥) → R (with_changed q (changed (hinted (at_time now) code t)) l)
  pub again : (b : Bool) (code : ℕ) → (place ≡ q → is_given (at_place q l) ≡ true → LeaseCounts code (at_place q l).operation)
      → R (with_changed q (changed (another (at_time now) b code)) l)
  pub lasts : (since : Instant) → (place ≡ q → is_some (at_place q l).operation ≡ true) → (place ≡ q → (since.0 ≤ now) × (now ≤ since.0 + k.within))
      → R (with_changed q (lasts_since since) l)
  pub fails : (code : ℕ) → (place ≡ q → is_given (at_place q l) ≡ true → ⊥) → R (kept_leases new (with_changed q (failed_at (at_time now) (Some code)) l))

module _ (R : List Lease → Type 0) (k : Limits) (now place q : ℕ) (realm nonce : Option (List ℕ)) (s : Session) (l : List Lease) (c : Option Credentials)
    (result : Receipt) (new : Session) (l_new : List Lease) (c_new : Option Credentials) (answers : Answers R k now place q s.timing l new) where
  becomes : (x : List Lease) → l_new ≡ x → R x → R l_new
  becomes x e h = subst R (sym e) h

  -- the lease is not given, if it is this one
  abbrev Gone : Type 0
  Gone = place ≡ q → is_given (at_place q l) ≡ true → ⊥

  abbrev InTime : Attempt → Type 0
  InTime a = place ≡ q → (a.since.0 ≤ now) × (now ≤ a.since.0 + k.within)

  lasts_kept : (a : Attempt) (m : Message) (relayed : SocketAddr) (life : Option ℕ)
      → LeaseApplies (at_time now) q (lasts a m relayed life) realm nonce s l c result new l_new c_new → R l_new
  lasts_kept a m relayed None step = becomes l step.2 answers.keeps
  lasts_kept a m relayed (Some seconds) step =
      through (lasts a m relayed None) (λ x. LeaseApplies (at_time now) q x realm nonce s l c result new l_new c_new → R l_new) (seconds == 0) _ _
      (λ e step. becomes l step.2 answers.keeps) (λ e step. becomes l step.2 answers.keeps) step

  relays_kept : (a : Attempt) (m : Message) (relayed : Option SocketAddr)
      → LeaseApplies (at_time now) q (relays a m relayed) realm nonce s l c result new l_new c_new → R l_new
  relays_kept a m None step = becomes l step.2 answers.keeps
  relays_kept a m (Some relayed) step = lasts_kept a m relayed m.attributes.lifetime step

  success_kept : (r : Request) (a : Attempt) (m : Message) → (place ≡ q → is_some (at_place q l).operation ≡ true) → InTime a
      → LeaseApplies (at_time now) q (on_success r a m) realm nonce s l c result new l_new c_new → R l_new
  success_kept (requests.Allocate seconds family) a m some h step = relays_kept a m m.attributes.xor_relayed_address step
  success_kept (requests.Refresh seconds) a m some h step = becomes l step.2 answers.keeps
  success_kept (requests.CreatePermission peer) a m some h step = becomes _ step.2 (answers.lasts a.since some h)
  success_kept (requests.ChannelBind number peer) a m some h step = becomes _ step.2 (answers.lasts a.since some h)

  fails_kept : (code : ℕ) → Gone → l_new ≡ kept_leases new (with_changed q (failed_at (at_time now) (Some code)) l) → R l_new
  fails_kept code gone e = becomes _ e (answers.fails code gone)

  alternate_kept : (phase : Phase) → Gone → LeaseApplies (at_time now) q (on_alternate phase None) realm nonce s l c result new l_new c_new → R l_new
  alternate_kept phases.Asking gone step = fails_kept 300 gone step.2
  alternate_kept phases.New gone step = fails_kept 300 gone step.2
  alternate_kept phases.Leaving gone step = fails_kept 300 gone step.2
  alternate_kept phases.Ready gone step = fails_kept 300 gone step.2
  alternate_kept phases.Closing gone step = fails_kept 300 gone step.2
  alternate_kept phases.Ended gone step = fails_kept 300 gone step.2

  code_kept : (phase : Phase) (r : Request) (a : Attempt) (m : Message) (code : Option ℕ) → (place ≡ q → is_some (at_place q l).operation ≡ true)
      → (code ≡ None → InTime a) → (place ≡ q → is_given (at_place q l) ≡ true → code ≡ None)
      → LeaseApplies (at_time now) q (on_code phase r a m None code) realm nonce s l c result new l_new c_new → R l_new
  code_kept phase r a m None some h fine step = success_kept r a m some (h refl) step
  code_kept phase r a m (Some code) some h fine step =
      through (on_alternate phase None) (λ x. LeaseApplies (at_time now) q x realm nonce s l c result new l_new c_new → R l_new) (code == 300) _ _
      (λ e step. alternate_kept phase (λ e s. absurd (cc (fine e s))) step) (λ e step. fails_kept code (λ e s. absurd (cc (fine e s))) step.2) step

  challenge_kept : (o : Operation) (a : Attempt) (code : ℕ) (unknown : Bool) → (at_place q l).operation ≡ Some o
      → (place ≡ q → is_given (at_place q l) ≡ true → code ≡ 438)
      → LeaseApplies (at_time now) q (on_challenge o a code unknown) realm nonce s l c result new l_new c_new → R l_new
  challenge_kept o a code unknown e fine step =
      through (on_challenge o a code unknown) (λ x. LeaseApplies (at_time now) q x realm nonce s l c result new l_new c_new → R l_new)
      (not (takes_challenge a.id (is_some a.key) code o)) _ _ (λ dropped step. becomes l step.2 answers.keeps)
      (λ taken step. through (on_challenge o a code unknown) (λ x. LeaseApplies (at_time now) q x realm nonce s l c result new l_new c_new → R l_new)
      (code == 401 && is_some a.key && unknown) _ _
      (λ hint step. becomes _ step.2 (answers.hints code
      (λ e s. dropped_code code 438 (fine e s) refl (is_some a.key) (and_parts (code == 401 && is_some a.key) unknown hint).0)))
      (λ h step. becomes _ step.1.1
      (through l R (challenge_taken realm nonce c).1 (with_changed q (changed (another (at_time now) (is_some a.key) code)) l) (with_changed q (changed (doubted code)) l)
      (λ yes. answers.again (is_some a.key) code (λ same s. subst (LeaseCounts code) (sym e)
      (counted (is_some a.key) code o (not o.is_fresh && is_last_of_id a.id o.attempts) (fine same s)
      (not-false (takes_challenge a.id (is_some a.key) code o) taken))))
      (λ no. answers.doubts code))) step) step

  verdict_kept : (v : Verdict) (phase : Phase) (unknown : Bool) (o : Operation) (a : Attempt) (m : Message) → (at_place q l).operation ≡ Some o
      → (code_of m ≡ None → InTime a) → (place ≡ q → is_given (at_place q l) ≡ true → IsFine v (code_of m))
      → LeaseApplies (at_time now) q (outcome_by v phase unknown o a m None) realm nonce s l c result new l_new c_new → R l_new
  verdict_kept verdicts.Malformed phase unknown o a m e h fine step = becomes l step.2 answers.keeps
  verdict_kept verdicts.Unauthentic phase unknown o a m e h fine step = becomes _ step.2 (answers.doubts (code_or_success m))
  verdict_kept verdicts.Hint phase unknown o a m e h fine step = becomes _ step.2 (answers.hints (code_or_success m) (λ same s. fine same s))
  verdict_kept verdicts.Challenge phase unknown o a m e h fine step =
      challenge_kept o a (code_or_success m) unknown e (λ same s. ap or_success (fine same s)) step
  verdict_kept verdicts.Redirect phase unknown o a m e h fine step = alternate_kept phase (λ same s. fine same s) step
  verdict_kept verdicts.Genuine phase unknown o a m e h fine step =
      code_kept phase o.request a m (code_of m) (λ same. ap (λ (x : Option Operation). is_some x) e) h fine step

  answer_kept : (b : Bool) (phase : Phase) (o : Operation) (a : Option Attempt) (m : Message) → (at_place q l).operation ≡ Some o
      → ((x : Attempt) → a ≡ Some x → code_of m ≡ None → InTime x)
      → ((x : Attempt) → a ≡ Some x → place ≡ q → is_given (at_place q l) ≡ true → IsServers b c m)
      → LeaseApplies (at_time now) q (outcome_or b phase c m None o a) realm nonce s l c result new l_new c_new → R l_new
  answer_kept b phase o None m e h served step = becomes l step.2 answers.keeps
  answer_kept b phase o (Some a) m e h served step =
      verdict_kept (verdict_of b (is_last_sent a o) a.key c m) phase (is_unknown c) o a m e (h a refl)
      (λ same s. fine_verdict b (is_last_sent a o) a.key c m (served a refl same s)) step

  pub response_keeps : (b : Bool) (phase : Phase) (o : Option Operation) (m : Message) → (at_place q l).operation ≡ o
      → ((x : Attempt) → answered_by m o ≡ Some x → code_of m ≡ None → InTime x)
      → ((x : Attempt) → answered_by m o ≡ Some x → place ≡ q → is_given (at_place q l) ≡ true → IsServers b c m)
      → LeaseApplies (at_time now) q (outcome_with b phase c m None o) realm nonce s l c result new l_new c_new → R l_new
  response_keeps b phase None m e h served step = becomes l step.2 answers.keeps
  response_keeps b phase (Some o) m e h served step = answer_kept b phase o (answered_in m o) m e h served step

abbrev pub AnsweredAt : Limits → (List ℕ → List ℕ → List ℕ) → ℕ → World → Message → Lease → Type 0
AnsweredAt k mac now w m g = (a : Attempt) → attempt_of m g ≡ Some a → IsLeaseServed k mac now w g m a

-- the response to the request for the lease in this place, and what is known of it if the place is ours
pub answered_by_keeps : (R : List Lease → Type 0) (k : Limits) (mac : List ℕ → List ℕ → List ℕ) (now place q : ℕ) (w : World) (m : Message) (result : Receipt)
    (new : Session) (l_new : List Lease) (c_new : Option Credentials) → AnsweredAt k mac now w m (at_place place w.leases)
    → Answers R k now place q w.session.timing w.leases new
    → IsLeaseAnswered mac (at_time now) m q w.session w.leases w.credentials result new l_new c_new → R l_new
answered_by_keeps R k mac now place q w m result new l_new c_new served answers step =
    let at : place ≡ q → AnsweredAt k mac now w m (at_place q w.leases) =
    λ same. subst (λ (j : ℕ). AnsweredAt k mac now w m (at_place j w.leases)) same served in
    response_keeps R k now place q m.attributes.realm m.attributes.nonce w.session w.leases w.credentials result new l_new c_new answers step.0
    w.session.phase (at_place q w.leases).operation m refl
    (λ x e success same. let a = (at same x e).after success in let b = (at same x e).within success in (omega (arith, a), omega (arith, b)))
    (λ x e same s. servers mac step.0 w.credentials m x (signed_for mac step.0 m (attempt_of m (at_place q w.leases)) x e step.1) ((at same x e).authentic (cc s))) step.2

-- ---- of a client with an allocation

-- a call at this time
pub record LeaseCalled (k : Limits) (now d : ℕ) : Type 0 where
  pub past : d ≤ now
  pub leave : LeaveForLeases k
  pub shown : now + 3600 * SECOND < MAX

pub answers_met : (k : Limits) (now d place q : ℕ) (was : Bool) (t : ClientTiming) (l : List Lease) (new : Session) → LeaseCalled k now d → is_ready new.phase ≡ true
    → MetAt k now d place was l → Answers (MetAt k now d place was) k now place q t l new
answers_met k now d place q was t l new called ready h = record {
  keeps = h;
  doubts = λ code.
      keep_set (Met k now d was) place q l (changed (doubted code) (at_place q l))
      (λ e x. doubted_met k now d code was (at_place q l) (at_place q l).operation x) h;
  hints = λ code gone.
      keep_set (Met k now d was) place q l (changed (hinted (at_time now) code t) (at_place q l))
      (λ e x. hinted_met k now d code was (at_time now) t (at_place q l) (at_place q l).operation (gone e) x) h;
  again = λ b code counts.
      keep_set (Met k now d was) place q l (changed (another (at_time now) b code) (at_place q l))
      (λ e x. another_met k now d code was b (at_place q l) (at_place q l).operation (counts e) x) h;
  lasts = λ since some time.
      keep_set (Met k now d was) place q l (lasts_since since (at_place q l))
      (λ e x. lasts_met k now d was since (at_place q l) called.past called.leave called.shown (time e).0 (time e).1 x.live
      (or_right (is_some (at_place q l).until) (is_some (at_place q l).operation) (some e))) h;
  fails = λ code gone.
      subst (MetAt k now d place was) (sym (kept_ready new.phase (with_changed q (failed_at (at_time now) (Some code)) l) ready))
      (keep_set (Met k now d was) place q l (failed_at (at_time now) (Some code) (at_place q l))
      (λ e x. failed_met k now d was (at_time now) (Some code) (at_place q l) (gone e) x.stays) h);
}

-- ---- without an allocation

not_requested : (o : Option Operation) → is_none o ≡ true → is_some o ≡ true → ⊥
not_requested None a b = absurd (cc b)
not_requested (Some o) a b = absurd (cc a)

pub answers_bare : (k : Limits) (now place q : ℕ) (t : ClientTiming) (l : List Lease) (new : Session) → BareAt place l
    → Answers (BareAt place) k now place q t l new
answers_bare k now place q t l new h = record {
  keeps = h;
  doubts = λ code. put (doubted code);
  hints = λ code gone. put (hinted (at_time now) code t);
  again = λ b code counts. put (another (at_time now) b code);
  lasts = λ since some time.
      keep_set Bare place q l (lasts_since since (at_place q l)) (λ e x. absurd (not_requested (at_place q l).operation x.1 (some e))) h;
  fails = λ code gone.
      bare_kept place new.phase (with_changed q (failed_at (at_time now) (Some code)) l)
      (keep_set Bare place q l (failed_at (at_time now) (Some code) (at_place q l)) (λ e x. bare_failed (at_time now) (Some code) (at_place q l) x) h);
}
  where
    put : (change : Operation → Operation) → BareAt place (with_changed q (changed change) l)
    put change =
        keep_set Bare place q l (changed change (at_place q l)) (λ e x. bare_changed change (at_place q l) (at_place q l).operation x) h

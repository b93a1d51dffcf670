-- What the server's response to the pending request does to a session keeps how far its renewal is.
use Rattle.std.proofs.Common.{◌≡◌, ◌⊎◌, inl, inr, ℕ, ◌+◌, ◌≤◌, ◌<◌, ◌==◌, ◌&&◌, ◌||◌, not, nat_lt, Bool, true, false, cond, List, Option, Some, None, is_none, is_some, IsTrue, ◌↔◌, arith, refl, sym, ap, subst}
use Rattle.is_turn_theorems.proofs.Common.{and_parts, answered_by, answered_in, at_time, Attempt, challenge_taken, code_of, code_or_success, Credentials, has_failed, Integrity, is_allocated}
use Rattle.is_turn_theorems.proofs.Common.{is_allowed, is_challenge, is_code, is_last_sent, is_malformed, is_ready, is_refreshed, is_unknown, IsBelievable, IsPrompt, IsSignedFor, IsStale, key_in}
use Rattle.is_turn_theorems.proofs.Common.{lasts, Limits, Message, nat_tests, not-false, on_alternate, on_challenge, on_code, on_success, Operation, or_success, outcome_by, outcome_or, outcome_with}
use Rattle.is_turn_theorems.proofs.Common.{OutcomeApplies, Phase, Receipt, relays, Request, request_timing, seconds_or_none, Session, SocketAddr, stale_count, takes_challenge, Verdict, verdict_of}
use Rattle.is_turn_theorems.proofs.Common.{with_another, with_doubt, with_hint}
use Rattle.is_turn.specs.declared.requests.Request.TheVariants as requests
use Rattle.is_turn.specs.declared.session.Phase.TheVariants as phases
use Rattle.is_turn.specs.declared.verdict.Verdict.TheVariants as verdicts
use Rattle.is_turn.specs.Attempts.{is_last as is_last_of_id}
use Rattle.is_turn_theorems.proofs.Standing.{Holds}
use Rattle.is_turn_theorems.proofs.OtherCalls.{through, holds_is, holds_cond}
use Rattle.is_turn_theorems.proofs.Responses.{Called, Counts, extends, allocated_holds, refreshed_holds, failed_unready, follows_unready, hint_unready, doubt_holds, another_holds}

-- ---- the verdict on the server's response

-- the verdicts on a client with an allocation
abbrev pub IsFine : Verdict → Option ℕ → Type 0
IsFine verdicts.Genuine code = code ≡ None
IsFine verdicts.Challenge code = code ≡ Some 438
IsFine verdicts.Malformed code = Unit {0}
IsFine verdicts.Unauthentic code = Unit {0}
IsFine verdicts.Hint code = ⊥
IsFine verdicts.Redirect code = ⊥

abbrev verdict_on : Option ℕ → Bool → Bool → Option (List ℕ) → Option (List ℕ) → Option Integrity → Verdict
verdict_on code is_signed is_last key password integrity =
    cond (is_challenge code && (is_signed || is_none integrity)) verdicts.Challenge (cond is_signed verdicts.Genuine
    (cond (is_some integrity) verdicts.Unauthentic (cond (is_code 300 code && is_none key) verdicts.Redirect
    (cond (is_last && is_some password) verdicts.Hint verdicts.Unauthentic))))

fine_cond : (b : Bool) (v : Verdict) (code : Option ℕ) → IsFine v code → IsFine (cond b verdicts.Malformed v) code
fine_cond true v code h = tt
fine_cond false v code h = h

fine_success : (b is_last : Bool) (key password : Option (List ℕ)) (integrity : Option Integrity) (code : Option ℕ) → code ≡ None → b ≡ true
    → IsFine (verdict_on code b is_last key password integrity) code
fine_success true is_last key password integrity None e signed = refl
fine_success false is_last key password integrity None e signed = absurd (cc signed)
fine_success b is_last key password integrity (Some code) e signed = absurd (cc e)

fine_stale_by : (b is_last : Bool) (key password : Option (List ℕ)) (integrity : Option Integrity) → IsFine (verdict_on (Some 438) b is_last key password integrity) (Some 438)
fine_stale_by true is_last key password integrity = refl
fine_stale_by false is_last key password None = refl
fine_stale_by false is_last key password (Some mac) = tt

fine_stale : (b is_last : Bool) (key password : Option (List ℕ)) (integrity : Option Integrity) (code : Option ℕ) → code ≡ Some 438
    → IsFine (verdict_on code b is_last key password integrity) code
fine_stale b is_last key password integrity code e =
    subst (λ (x : Option ℕ). IsFine (verdict_on x b is_last key password integrity) x) (sym e) (fine_stale_by b is_last key password integrity)

-- an authentic success response, or 438
abbrev pub IsServers : Bool → Option Credentials → Message → Type 0
IsServers b c m = ((code_of m ≡ None) × ((c ≡ None) ⊎ (b ≡ true))) ⊎ IsStale m c

pub fine_verdict : (b is_last : Bool) (key : Option (List ℕ)) (c : Option Credentials) (m : Message) → IsServers b c m
    → IsFine (verdict_of b is_last key c m) (code_of m)
fine_verdict b is_last key None m (inl h) = fine_cond (is_malformed m) verdicts.Genuine (code_of m) h.0
fine_verdict b is_last key None m (inr h) = absurd (cc h.1)
fine_verdict b is_last key (Some c) m (inl (success, inl none)) = absurd (cc none)
fine_verdict b is_last key (Some c) m (inl (success, inr signed)) =
    fine_cond (is_malformed m) (verdict_on (code_of m) b is_last key c.password m.integrity) (code_of m)
    (fine_success b is_last key c.password m.integrity (code_of m) success signed)
fine_verdict b is_last key (Some c) m (inr stale) =
    fine_cond (is_malformed m) (verdict_on (code_of m) b is_last key c.password m.integrity) (code_of m)
    (fine_stale b is_last key c.password m.integrity (code_of m) (cc (stale.0)))

pub servers : (mac : List ℕ → List ℕ → List ℕ) (b : Bool) (c : Option Credentials) (m : Message) (a : Attempt) → (IsTrue b ↔ IsSignedFor mac m a.key)
    → ((code_of m ≡ None) × IsBelievable mac m a c) ⊎ IsStale m c → IsServers b c m
servers mac b c m a signs (inl (success, inl none)) = inl (success, inl none)
servers mac b c m a signs (inl (success, inr signed)) = inl (success, inr (signs.1 signed))
servers mac b c m a signs (inr stale) = inr stale

pub signed_for : (mac : List ℕ → List ℕ → List ℕ) (b : Bool) (m : Message) (a : Option Attempt) (x : Attempt) → a ≡ Some x → (IsTrue b ↔ IsSignedFor mac m (key_in a))
    → (IsTrue b ↔ IsSignedFor mac m x.key)
signed_for mac b m a x e signs = subst (λ (y : Option Attempt). IsTrue b ↔ IsSignedFor mac m (key_in y)) e signs

-- ---- what it does

pub dropped_code : (code n : ℕ) → code ≡ n → (n == 401) ≡ false → (b : Bool) → (code == 401 && b) ≡ true → ⊥
dropped_code code n e f b h = let g : (code == 401) ≡ false = subst (λ (x : ℕ). (x == 401) ≡ false) (sym e) f in absurd (cc (g, (and_parts (code == 401) b h).0))

stale_counts : (stale : ℕ) → nat_lt stale 3 ≡ true → stale_count 438 stale ≡ stale + 1
stale_counts stale h = let lt : stale < 3 = grind (arith, nat_tests) in omega (arith, lt)

counted_by : (b : Bool) (o : Operation) (x : Bool) → (x && is_allowed b 438 o) ≡ true → stale_count 438 o.stale ≡ o.stale + 1
counted_by b o x h = stale_counts o.stale (and_parts x (is_allowed b 438 o) h).1

pub counted : (b : Bool) (code : ℕ) (o : Operation) (x : Bool) → code ≡ 438 → (x && is_allowed b code o) ≡ true → stale_count code o.stale ≡ o.stale + 1
counted b code o x e h =
    subst (λ (n : ℕ). stale_count n o.stale ≡ o.stale + 1) (sym e) (counted_by b o x (subst (λ (n : ℕ). (x && is_allowed b n o) ≡ true) e h))

counts_in : (code : ℕ) (o : Option Operation) (p : Operation) → o ≡ Some p → stale_count code p.stale ≡ p.stale + 1 → Counts code o
counts_in code o p e h = subst (Counts code) (sym e) h

module _ (k : Limits) (now d : ℕ) (realm nonce : Option (List ℕ)) (s : Session) (c : Option Credentials) (result : Receipt) (new : Session)
    (c_new : Option Credentials) (called : Called k now d s) where
  keeps : new ≡ s → Holds k now d new
  keeps e = holds_is k now d s new e called.holds

  lasts_holds : (a : Attempt) (m : Message) (relayed : SocketAddr) (life : Option ℕ) → k.lifetime ≤ seconds_or_none life → a.since.0 ≤ now → now ≤ a.since.0 + k.within
      → OutcomeApplies (at_time now) (lasts a m relayed life) realm nonce s c result new c_new → Holds k now d new
  lasts_holds a m relayed None long after within step = keeps step.1
  lasts_holds a m relayed (Some seconds) long after within step =
      through (lasts a m relayed None) (λ x. OutcomeApplies (at_time now) x realm nonce s c result new c_new → Holds k now d new) (seconds == 0) _ _
      (λ e step. keeps step.1)
      (λ e step. holds_is k now d (is_allocated (at_time now) a.since seconds (record { relayed = relayed; mapped = m.attributes.xor_mapped_address }) s) new step.1
      (allocated_holds k now d s.phase a.since seconds (record { relayed = relayed; mapped = m.attributes.xor_mapped_address }) s called.past called.holds.paced
      (extends k now a.since.0 seconds called.leave called.shown long after within))) step

  relays_holds : (a : Attempt) (m : Message) (relayed : Option SocketAddr) → IsPrompt k now m a
      → OutcomeApplies (at_time now) (relays a m relayed) realm nonce s c result new c_new → Holds k now d new
  relays_holds a m None g step = keeps step.1
  relays_holds a m (Some relayed) g step =
      let long : k.lifetime ≤ seconds_or_none m.attributes.lifetime = let p = g.lasts in omega (arith, p) in
      lasts_holds a m relayed m.attributes.lifetime long g.after g.within step

  success_holds : (r : Request) (a : Attempt) (m : Message) → IsPrompt k now m a
      → OutcomeApplies (at_time now) (on_success r a m) realm nonce s c result new c_new → Holds k now d new
  success_holds (requests.Allocate seconds family) a m g step = relays_holds a m m.attributes.xor_relayed_address g step
  success_holds (requests.Refresh seconds) a m g step =
      holds_is k now d (is_refreshed a.since (seconds_or_none m.attributes.lifetime) s) new step.1
      (refreshed_holds k now d s.phase a.since (seconds_or_none m.attributes.lifetime) s called.past called.holds.paced
      (extends k now a.since.0 (seconds_or_none m.attributes.lifetime) called.leave called.shown (let p = g.lasts in omega (arith, p)) g.after g.within))
  success_holds (requests.CreatePermission peer) a m g step = keeps step.1
  success_holds (requests.ChannelBind number peer) a m g step = keeps step.1

  fails_holds : (code : ℕ) → (is_ready s.phase ≡ true → ⊥) → new ≡ has_failed (at_time now) (Some code) s → Holds k now d new
  fails_holds code not_ready e =
      holds_is k now d (has_failed (at_time now) (Some code) s) new e (failed_unready k now d s.phase (Some code) s called.holds.paced not_ready)

  alternate_holds : (phase : Phase) (alternate : Option SocketAddr) → (is_ready s.phase ≡ true → ⊥)
      → OutcomeApplies (at_time now) (on_alternate phase alternate) realm nonce s c result new c_new → Holds k now d new
  alternate_holds phases.Asking None not_ready step = fails_holds 300 not_ready step.1
  alternate_holds phases.Asking (Some server) not_ready step = follows_unready k now d server s new called.holds.paced not_ready step.1
  alternate_holds phases.New alternate not_ready step = fails_holds 300 not_ready step.1
  alternate_holds phases.Leaving alternate not_ready step = fails_holds 300 not_ready step.1
  alternate_holds phases.Ready alternate not_ready step = fails_holds 300 not_ready step.1
  alternate_holds phases.Closing alternate not_ready step = fails_holds 300 not_ready step.1
  alternate_holds phases.Ended alternate not_ready step = fails_holds 300 not_ready step.1

  code_holds : (phase : Phase) (r : Request) (a : Attempt) (m : Message) (alternate : Option SocketAddr) (code : Option ℕ) → (code ≡ None → IsPrompt k now m a)
      → (is_ready s.phase ≡ true → code ≡ None) → OutcomeApplies (at_time now) (on_code phase r a m alternate code) realm nonce s c result new c_new
      → Holds k now d new
  code_holds phase r a m alternate None g fine step = success_holds r a m (g refl) step
  code_holds phase r a m alternate (Some code) g fine step =
      through (on_alternate phase alternate) (λ x. OutcomeApplies (at_time now) x realm nonce s c result new c_new → Holds k now d new) (code == 300) _ _
      (λ e step. alternate_holds phase alternate (λ r. absurd (cc (fine r))) step) (λ e step. fails_holds code (λ r. absurd (cc (fine r))) step.1) step

  challenged_holds : (b : Bool) (code : ℕ) → (is_ready s.phase ≡ true → Counts code s.operation)
      → new ≡ cond (challenge_taken realm nonce c).1 (with_another (at_time now) b code s) (with_doubt code s) → Holds k now d new
  challenged_holds b code counts e =
      holds_is k now d (cond (challenge_taken realm nonce c).1 (with_another (at_time now) b code s) (with_doubt code s)) new e
      (holds_cond k now d (challenge_taken realm nonce c).1 (with_another (at_time now) b code s) (with_doubt code s)
      (λ e. another_holds k now d b code s s.operation called.past called.holds called.soon counts) (λ e. doubt_holds k now d code s s.operation called.holds))

  challenge_holds : (o : Operation) (a : Attempt) (code : ℕ) (unknown : Bool) → s.operation ≡ Some o → (is_ready s.phase ≡ true → code ≡ 438)
      → OutcomeApplies (at_time now) (on_challenge o a code unknown) realm nonce s c result new c_new → Holds k now d new
  challenge_holds o a code unknown e fine step =
      through (on_challenge o a code unknown) (λ x. OutcomeApplies (at_time now) x realm nonce s c result new c_new → Holds k now d new)
      (not (takes_challenge a.id (is_some a.key) code o)) _ _ (λ dropped step. keeps step.1)
      (λ taken step. through (on_challenge o a code unknown) (λ x. OutcomeApplies (at_time now) x realm nonce s c result new c_new → Holds k now d new)
      (code == 401 && is_some a.key && unknown) _ _
      (λ hint step. holds_is k now d (with_hint (at_time now) code s) new step.1
      (hint_unready k now d code (request_timing s) s.operation s called.holds.paced
      (λ r. dropped_code code 438 (fine r) refl (is_some a.key) (and_parts (code == 401 && is_some a.key) unknown hint).0)))
      (λ h step. challenged_holds (is_some a.key) code
      (λ r. counts_in code s.operation o e (counted (is_some a.key) code o (not o.is_fresh && is_last_of_id a.id o.attempts) (fine r)
      (not-false (takes_challenge a.id (is_some a.key) code o) taken))) step.1) step) step

  verdict_holds : (v : Verdict) (unknown : Bool) (o : Operation) (a : Attempt) (m : Message) (alternate : Option SocketAddr) → s.operation ≡ Some o
      → (code_of m ≡ None → IsPrompt k now m a) → (is_ready s.phase ≡ true → IsFine v (code_of m))
      → OutcomeApplies (at_time now) (outcome_by v s.phase unknown o a m alternate) realm nonce s c result new c_new → Holds k now d new
  verdict_holds verdicts.Malformed unknown o a m alternate e g fine step = keeps step.1
  verdict_holds verdicts.Unauthentic unknown o a m alternate e g fine step =
      holds_is k now d (with_doubt (code_or_success m) s) new step.1 (doubt_holds k now d (code_or_success m) s s.operation called.holds)
  verdict_holds verdicts.Hint unknown o a m alternate e g fine step =
      holds_is k now d (with_hint (at_time now) (code_or_success m) s) new step.1
      (hint_unready k now d (code_or_success m) (request_timing s) s.operation s called.holds.paced (λ r. absurd (fine r)))
  verdict_holds verdicts.Challenge unknown o a m alternate e g fine step =
      challenge_holds o a (code_or_success m) unknown e (λ r. ap or_success (fine r)) step
  verdict_holds verdicts.Redirect unknown o a m alternate e g fine step = alternate_holds s.phase alternate (λ r. absurd (fine r)) step
  verdict_holds verdicts.Genuine unknown o a m alternate e g fine step = code_holds s.phase o.request a m alternate (code_of m) g fine step

  -- a response that answers this attempt, if it answers one
  answer_holds : (b : Bool) (o : Operation) (a : Option Attempt) (m : Message) (alternate : Option SocketAddr) → s.operation ≡ Some o
      → ((x : Attempt) → a ≡ Some x → code_of m ≡ None → IsPrompt k now m x)
      → ((x : Attempt) → a ≡ Some x → is_ready s.phase ≡ true → IsServers b c m)
      → OutcomeApplies (at_time now) (outcome_or b s.phase c m alternate o a) realm nonce s c result new c_new → Holds k now d new
  answer_holds b o None m alternate e g served step = keeps step.1
  answer_holds b o (Some a) m alternate e g served step =
      verdict_holds (verdict_of b (is_last_sent a o) a.key c m) (is_unknown c) o a m alternate e (g a refl)
      (λ r. fine_verdict b (is_last_sent a o) a.key c m (served a refl r)) step

  pub response_holds : (b : Bool) (o : Option Operation) (m : Message) (alternate : Option SocketAddr) → s.operation ≡ o
      → ((x : Attempt) → answered_by m o ≡ Some x → code_of m ≡ None → IsPrompt k now m x)
      → ((x : Attempt) → answered_by m o ≡ Some x → is_ready s.phase ≡ true → IsServers b c m)
      → OutcomeApplies (at_time now) (outcome_with b s.phase c m alternate o) realm nonce s c result new c_new → Holds k now d new
  response_holds b None m alternate e g served step = keeps step.1
  response_holds b (Some o) m alternate e g served step = answer_holds b o (answered_in m o) m alternate e g served step

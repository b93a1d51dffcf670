-- A client keeps its password only until the server has answered, and nothing after the end.
use Rattle.std.proofs.Common.{◌≡◌, ℕ, ◌==◌, ◌&&◌, ◌||◌, Bool, true, false, cond, not, List, [], length, position, nat_lt, arith, Option, Some, None, option_map, is_some, is_none, refl, sym, ap, subst, ◌∙◌, inl, inr}
use Rattle.is_turn_progress.proofs.Common.{allocated_in, Allocation, another, at_place, Attempt, Challenge, challenge_by, challenge_taken, challenged, changed_by, channel_data, channel_peer, code_of}
use Rattle.is_turn_progress.proofs.Common.{code_or_success, Credentials, Datagram, doubted, dropped, extended, failed_in, Follows, forgotten, get_or_past, has_failed, hinted, Instant, is_allocated}
use Rattle.is_turn_progress.proofs.Common.{is_answered_by, is_gone, is_ready, is_refreshed, is_unknown, IsAnswered, IsForgotten, IsReceivedAs, IsRespondedBy, kept_credentials, kept_in, kept_leases}
use Rattle.is_turn_progress.proofs.Common.{lasts, Lease, lease_failed, leases_in, lost, malformed, Message, on_alternate, on_code, on_success, Operation, outcome_by, OutcomeApplies, password_of}
use Rattle.is_turn_progress.proofs.Common.{peer_data, Phase, probed, Receipt, refreshed_in, relays, renewed, Request, request_timing, response, retried, seconds_or_none, Session, SocketAddr}
use Rattle.is_turn_progress.proofs.Common.{takes_challenge, unasked, unparsed, unused, Verdict, with_another, with_challenge, with_doubt, with_hint, with_request, without_challenge, without_pace}
use Rattle.is_turn.specs.declared.outcome.Reason.TheVariants as reasons
use Rattle.is_turn.specs.declared.requests.Request.TheVariants as requests
use Rattle.is_turn.specs.declared.session.Phase.TheVariants as phases
use Rattle.is_turn.specs.declared.verdict.Verdict.TheVariants as verdicts
use Rattle.is_turn.specs.LeaseResponses.{LeaseApplies, IsLeaseAnswered, heard_peer, heard_data}
use Rattle.is_turn_progress.proofs.Outcomes.{outcome_case}
use Rattle.is_turn_progress.proofs.Steps.{by_cond}

-- ---- what is forgotten in a phase

abbrev pub Safe : Session → Option Credentials → List Lease → Type 0
Safe s c l = IsForgotten s.phase s.operation c l

-- ended, with what an ended client keeps
abbrev pub Kept : Session → Option Credentials → List Lease → Type 0
Kept s c l = Safe s (kept_credentials s c) (kept_leases s l)

pub kept_cond : (b : Bool) (x y : Session) (c : Option Credentials) (l : List Lease) → Kept x c l → Kept y c l → Kept (cond b x y) c l
kept_cond true x y c l h k = h
kept_cond false x y c l h k = k

pub safe_cond : (b : Bool) (x y : Session) (c : Option Credentials) (l : List Lease) → Safe x c l → Safe y c l → Safe (cond b x y) c l
safe_cond true x y c l h k = h
safe_cond false x y c l h k = k

kept_phase : (p : Phase) (o : Option Operation) (c : Option Credentials) (l : List Lease) → IsForgotten p o c l → IsForgotten p o (kept_in p c) (leases_in p l)
kept_phase phases.New o c l h = tt
kept_phase phases.Asking o c l h = tt
kept_phase phases.Leaving o c l h = tt
kept_phase phases.Ready o c l h = h
kept_phase phases.Closing o c l h = h
kept_phase phases.Ended o c l h = (refl, refl, h.2)

pub kept_safe : (s : Session) (c : Option Credentials) (l : List Lease) → Safe s c l → Kept s c l
kept_safe s c l h = kept_phase s.phase s.operation c l h

-- the operation was changed, of a client that has one
phase_changed : (p : Phase) (o x : Operation) (c : Option Credentials) (l k : List Lease) → IsForgotten p (Some o) c l → IsForgotten p (Some x) c k
phase_changed phases.New o x c l k h = tt
phase_changed phases.Asking o x c l k h = tt
phase_changed phases.Leaving o x c l k h = tt
phase_changed phases.Ready o x c l k h = h
phase_changed phases.Closing o x c l k h = h
phase_changed phases.Ended o x c l k h = let none = h.2 in absurd (cc none)

changed_at : (o : Option Operation) (change : Operation → Operation) (s : Session) (c : Option Credentials) (l : List Lease) → s.operation ≡ o → Safe s c l
    → Safe (changed_by change o s) c l
changed_at None change s c l e h = h
changed_at (Some o) change s c l e h =
    phase_changed s.phase o (change o) c l l (subst (λ (x : Option Operation). IsForgotten s.phase x c l) e h)

pub safe_changed : (change : Operation → Operation) (s : Session) (c : Option Credentials) (l : List Lease) → Safe s c l
    → Safe (changed_by change s.operation s) c l
safe_changed change s c l h = changed_at s.operation change s c l refl h

-- no password: nothing is needed but at the end
phase_forgot : (p : Phase) (o : Option Operation) (c : Option Credentials) (l : List Lease) → password_of c ≡ None → (p ≡ phases.Ended → o ≡ None)
    → IsForgotten p o (kept_in p c) (leases_in p l)
phase_forgot phases.New o c l h k = tt
phase_forgot phases.Asking o c l h k = tt
phase_forgot phases.Leaving o c l h k = tt
phase_forgot phases.Ready o c l h k = h
phase_forgot phases.Closing o c l h k = h
phase_forgot phases.Ended o c l h k = (refl, refl, k refl)

none_forgot : (c : Option Credentials) → password_of (option_map forgotten c) ≡ None
none_forgot None = refl
none_forgot (Some c) = refl

-- ---- a client with a request or a lease has not ended

abbrev IsLive : Phase → Option Credentials → Type 0
IsLive phases.New c = Unit {0}
IsLive phases.Asking c = Unit {0}
IsLive phases.Leaving c = Unit {0}
IsLive phases.Ready c = password_of c ≡ None
IsLive phases.Closing c = password_of c ≡ None
IsLive phases.Ended c = ⊥

live_request : (p : Phase) (o : Operation) (c : Option Credentials) (l : List Lease) → IsForgotten p (Some o) c l → IsLive p c
live_request phases.New o c l h = tt
live_request phases.Asking o c l h = tt
live_request phases.Leaving o c l h = tt
live_request phases.Ready o c l h = h
live_request phases.Closing o c l h = h
live_request phases.Ended o c l h = let none = h.2 in absurd (cc none)

no_lease : (place : ℕ) (o : Operation) (l : List Lease) → l ≡ [] → (at_place place l).operation ≡ Some o → ⊥
no_lease place o l none is =
    let e : (at_place place []).operation ≡ Some o = subst (λ (x : List Lease). (at_place place x).operation ≡ Some o) none is in
    absurd (cc (ap (λ (g : Lease). g.operation) (get_or_past [] place unused (omega arith)), e))

live_lease : (p : Phase) (so : Option Operation) (c : Option Credentials) (l : List Lease) (place : ℕ) (o : Operation) → (at_place place l).operation ≡ Some o
    → IsForgotten p so c l → IsLive p c
live_lease phases.New so c l place o is h = tt
live_lease phases.Asking so c l place o is h = tt
live_lease phases.Leaving so c l place o is h = tt
live_lease phases.Ready so c l place o is h = h
live_lease phases.Closing so c l place o is h = h
live_lease phases.Ended so c l place o is h = no_lease place o l h.1 is

-- any request and leases, and credentials with the same password
live_same : (p : Phase) (o : Option Operation) (c d : Option Credentials) (l : List Lease) → password_of d ≡ password_of c → IsLive p c → IsForgotten p o d l
live_same phases.New o c d l e h = tt
live_same phases.Asking o c d l e h = tt
live_same phases.Leaving o c d l e h = tt
live_same phases.Ready o c d l e h = e ∙ h
live_same phases.Closing o c d l e h = e ∙ h
live_same phases.Ended o c d l e h = absurd h

live_kept : (p : Phase) (o : Option Operation) (c d : Option Credentials) (l : List Lease) → password_of d ≡ None → IsLive p c
    → IsForgotten p o (kept_in p d) (leases_in p l)
live_kept phases.New o c d l e h = tt
live_kept phases.Asking o c d l e h = tt
live_kept phases.Leaving o c d l e h = tt
live_kept phases.Ready o c d l e h = e
live_kept phases.Closing o c d l e h = e
live_kept phases.Ended o c d l e h = absurd h

-- a client that has ended has no leases anyway
phase_leases : (p : Phase) (o : Option Operation) (c : Option Credentials) (l : List Lease) → IsForgotten p o c l → IsForgotten p o c (leases_in p l)
phase_leases phases.New o c l h = tt
phase_leases phases.Asking o c l h = tt
phase_leases phases.Leaving o c l h = tt
phase_leases phases.Ready o c l h = h
phase_leases phases.Closing o c l h = h
phase_leases phases.Ended o c l h = (h.0, refl, h.2)

-- ---- passwords of credentials

password_with : (x : Option Challenge) (k : Credentials) → (with_challenge x k).0.password ≡ k.password
password_with None k = refl
password_with (Some challenge) k = refl

password_if : (b : Bool) (x : Option Challenge) (k : Credentials) → (cond b (k, false) (with_challenge x k)).0.password ≡ k.password
password_if true x k = refl
password_if false x k = password_with x k

password_challenged : (realm given_nonce : Option (List ℕ)) (k : Credentials) → (challenged realm given_nonce k).0.password ≡ k.password
password_challenged None given_nonce k = refl
password_challenged (Some realm) None k = refl
password_challenged (Some realm) (Some given_nonce) k =
    password_if (nat_lt 763 (length realm) || nat_lt 763 (length given_nonce)) (challenge_by k.username realm given_nonce k.password k.challenge) k

password_taken : (realm given_nonce : Option (List ℕ)) (c : Option Credentials) → password_of (challenge_taken realm given_nonce c).0 ≡ password_of c
password_taken realm given_nonce None = refl
password_taken realm given_nonce (Some k) = password_challenged realm given_nonce k

-- ---- a response to the request for the allocation

abbrev After : Session → Option Credentials → List Lease → Type 0
After new c_new l = Safe new c_new (kept_leases new l)

after_is : (s new : Session) (c c_new : Option Credentials) (l : List Lease) → new ≡ s → c_new ≡ c → After s c l → After new c_new l
after_is s new c c_new l h k safe =
    subst (λ (x : Session). After x c_new l) (sym h) (subst (λ (x : Option Credentials). After s x l) (sym k) safe)

kept_is : (s new : Session) (c c_new : Option Credentials) (l : List Lease) → new ≡ s → c_new ≡ kept_credentials s c → Kept s c l → After new c_new l
kept_is s new c c_new l h k safe = after_is s new (kept_credentials s c) c_new l h k safe

changed_after : (change : Operation → Operation) (o : Operation) (s : Session) (c d : Option Credentials) (l : List Lease) → s.operation ≡ Some o
    → password_of d ≡ password_of c → IsLive s.phase c → After (changed_by change s.operation s) d l
changed_after change o s c d l is e live =
    subst (λ (x : Option Operation). After (changed_by change x s) d l) (sym is)
    (phase_leases s.phase (Some (change o)) d l (live_same s.phase (Some (change o)) c d l e live))

allocated_after : (p : Phase) (now since : Instant) (seconds : ℕ) (allocation : Allocation) (s : Session) (c : Option Credentials) (l : List Lease)
    → After (allocated_in p now allocation (extended since seconds s)) (option_map forgotten c) l
allocated_after phases.New now since seconds allocation s c l = none_forgot c
allocated_after phases.Asking now since seconds allocation s c l = search (none_forgot c)
allocated_after phases.Leaving now since seconds allocation s c l = search (none_forgot c)
allocated_after phases.Ready now since seconds allocation s c l = none_forgot c
allocated_after phases.Closing now since seconds allocation s c l = none_forgot c
allocated_after phases.Ended now since seconds allocation s c l = none_forgot c

no_request_if : (b : Bool) (x y : Session) → x.operation ≡ None → y.operation ≡ None → (cond b x y).operation ≡ None
no_request_if true x y h k = h
no_request_if false x y h k = k

refreshed_none : (p : Phase) (since : Instant) (seconds : ℕ) (s : Session) → (refreshed_in p since seconds s).operation ≡ None
refreshed_none phases.Closing since seconds s = refl
refreshed_none phases.New since seconds s = no_request_if (seconds == 0) (lost None None s) (renewed since seconds s) refl refl
refreshed_none phases.Asking since seconds s = no_request_if (seconds == 0) (lost None None s) (renewed since seconds s) refl refl
refreshed_none phases.Leaving since seconds s = no_request_if (seconds == 0) (lost None None s) (renewed since seconds s) refl refl
refreshed_none phases.Ready since seconds s = no_request_if (seconds == 0) (lost None None s) (renewed since seconds s) refl refl
refreshed_none phases.Ended since seconds s = no_request_if (seconds == 0) (lost None None s) (renewed since seconds s) refl refl

failed_none : (p : Phase) (now : Instant) (code : Option ℕ) (s : Session) → (failed_in p now code s).operation ≡ None
failed_none phases.Leaving now code s = refl
failed_none phases.Closing now code s = refl
failed_none phases.Ready now code s = no_request_if (is_gone code) (lost code None s) (retried now s) refl refl
failed_none phases.New now code s = refl
failed_none phases.Asking now code s = refl
failed_none phases.Ended now code s = refl

taken_after : (after new : Session) (c c_new : Option Credentials) (l : List Lease) → after.operation ≡ None → new ≡ after
    → c_new ≡ kept_credentials after (option_map forgotten c) → After new c_new l
taken_after after new c c_new l none h k =
    kept_is after new (option_map forgotten c) c_new l h k (phase_forgot after.phase after.operation (option_map forgotten c) l (none_forgot c) (λ e. none))

-- another server is asked, while the client asks
followed_after : (now : Instant) (server : SocketAddr) (s new : Session) (c c_new : Option Credentials) (l : List Lease) → s.phase ≡ phases.Asking
    → Follows now server s new → c_new ≡ kept_credentials new (option_map without_challenge c) → After new c_new l
followed_after now server s new c c_new l asks (inl step) k =
    let phase : new.phase ≡ phases.Asking = ap (λ (x : Session). x.phase) step.1 ∙ asks in
    subst (λ (p : Phase). IsForgotten p new.operation c_new (leases_in p l)) (sym phase) tt
followed_after now server s new c c_new l asks (inr step) k =
    let is : new ≡ failed_in phases.Asking now (Some 300) s = step.1 ∙ ap (λ (p : Phase). failed_in p now (Some 300) s) asks in
    let d = option_map without_challenge c in
    kept_is (failed_in phases.Asking now (Some 300) s) new d c_new l is (k ∙ ap (λ (x : Session). kept_credentials x d) is) (refl, refl, refl)

record Facts (s : Session) (c : Option Credentials) (l : List Lease) (o : Operation) : Type 0 where
  pub safe : Safe s c l
  pub is : s.operation ≡ Some o
  pub live : IsLive s.phase c

alternate_after : (p : Phase) (alternate : Option SocketAddr) (now : Instant) (realm given_nonce : Option (List ℕ)) (s : Session) (c : Option Credentials)
    (l : List Lease) (result : Receipt) (new : Session) (c_new : Option Credentials) → s.phase ≡ p
    → OutcomeApplies now (on_alternate p alternate) realm given_nonce s c result new c_new → After new c_new l
alternate_after phases.Asking (Some server) now realm given_nonce s c l result new c_new e step = followed_after now server s new c c_new l e step.1 step.2
alternate_after phases.Asking None now realm given_nonce s c l result new c_new e step =
    taken_after (has_failed now (Some 300) s) new c c_new l (failed_none s.phase now (Some 300) s) step.1 step.2
alternate_after phases.New alternate now realm given_nonce s c l result new c_new e step =
    taken_after (has_failed now (Some 300) s) new c c_new l (failed_none s.phase now (Some 300) s) step.1 step.2
alternate_after phases.Leaving alternate now realm given_nonce s c l result new c_new e step =
    taken_after (has_failed now (Some 300) s) new c c_new l (failed_none s.phase now (Some 300) s) step.1 step.2
alternate_after phases.Ready alternate now realm given_nonce s c l result new c_new e step =
    taken_after (has_failed now (Some 300) s) new c c_new l (failed_none s.phase now (Some 300) s) step.1 step.2
alternate_after phases.Closing alternate now realm given_nonce s c l result new c_new e step =
    taken_after (has_failed now (Some 300) s) new c c_new l (failed_none s.phase now (Some 300) s) step.1 step.2
alternate_after phases.Ended alternate now realm given_nonce s c l result new c_new e step =
    taken_after (has_failed now (Some 300) s) new c c_new l (failed_none s.phase now (Some 300) s) step.1 step.2

same_after : (s new : Session) (c c_new : Option Credentials) (l : List Lease) → Safe s c l → new ≡ s → c_new ≡ c → After new c_new l
same_after s new c c_new l safe h k = after_is s new c c_new l h k (phase_leases s.phase s.operation c l safe)

lasts_after : (a : Attempt) (m : Message) (relayed : SocketAddr) (life : Option ℕ) (now : Instant) (realm given_nonce : Option (List ℕ)) (s : Session)
    (c : Option Credentials) (l : List Lease) (result : Receipt) (new : Session) (c_new : Option Credentials) → Safe s c l
    → OutcomeApplies now (lasts a m relayed life) realm given_nonce s c result new c_new → After new c_new l
lasts_after a m relayed None now realm given_nonce s c l result new c_new safe step = same_after s new c c_new l safe step.1 step.2
lasts_after a m relayed (Some seconds) now realm given_nonce s c l result new c_new safe step =
    by_cond (λ outcome. OutcomeApplies now outcome realm given_nonce s c result new c_new → After new c_new l) (seconds == 0) _ _
    (λ zero. λ x. same_after s new c c_new l safe x.1 x.2)
    (λ some. λ x. after_is (is_allocated now a.since seconds (record { relayed = relayed; mapped = m.attributes.xor_mapped_address }) s) new
    (option_map forgotten c) c_new l x.1 x.2
    (allocated_after s.phase now a.since seconds (record { relayed = relayed; mapped = m.attributes.xor_mapped_address }) s c l)) step

relays_after : (a : Attempt) (m : Message) (relayed : Option SocketAddr) (now : Instant) (realm given_nonce : Option (List ℕ)) (s : Session)
    (c : Option Credentials) (l : List Lease) (result : Receipt) (new : Session) (c_new : Option Credentials) → Safe s c l
    → OutcomeApplies now (relays a m relayed) realm given_nonce s c result new c_new → After new c_new l
relays_after a m None now realm given_nonce s c l result new c_new safe step = same_after s new c c_new l safe step.1 step.2
relays_after a m (Some relayed) now realm given_nonce s c l result new c_new safe step =
    lasts_after a m relayed m.attributes.lifetime now realm given_nonce s c l result new c_new safe step

success_after : (r : Request) (a : Attempt) (m : Message) (now : Instant) (realm given_nonce : Option (List ℕ)) (s : Session)
    (c : Option Credentials) (l : List Lease) (result : Receipt) (new : Session) (c_new : Option Credentials) → Safe s c l
    → OutcomeApplies now (on_success r a m) realm given_nonce s c result new c_new → After new c_new l
success_after (requests.Allocate seconds family) a m now realm given_nonce s c l result new c_new safe step =
    relays_after a m m.attributes.xor_relayed_address now realm given_nonce s c l result new c_new safe step
success_after (requests.Refresh seconds) a m now realm given_nonce s c l result new c_new safe step =
    let life = seconds_or_none m.attributes.lifetime in
    taken_after (is_refreshed a.since life s) new c c_new l (refreshed_none s.phase a.since life s) step.1 step.2
success_after (requests.CreatePermission peer) a m now realm given_nonce s c l result new c_new safe step = same_after s new c c_new l safe step.1 step.2
success_after (requests.ChannelBind number peer) a m now realm given_nonce s c l result new c_new safe step = same_after s new c c_new l safe step.1 step.2

code_after : (code : Option ℕ) (r : Request) (a : Attempt) (m : Message) (alternate : Option SocketAddr) (now : Instant) (realm given_nonce : Option (List ℕ))
    (s : Session) (c : Option Credentials) (l : List Lease) (result : Receipt) (new : Session) (c_new : Option Credentials) → Safe s c l
    → OutcomeApplies now (on_code s.phase r a m alternate code) realm given_nonce s c result new c_new → After new c_new l
code_after None r a m alternate now realm given_nonce s c l result new c_new safe step = success_after r a m now realm given_nonce s c l result new c_new safe step
code_after (Some code) r a m alternate now realm given_nonce s c l result new c_new safe step =
    by_cond (λ outcome. OutcomeApplies now outcome realm given_nonce s c result new c_new → After new c_new l) (code == 300) _ _
    (λ is. alternate_after s.phase alternate now realm given_nonce s c l result new c_new refl)
    (λ other. λ x. taken_after (has_failed now (Some code) s) new c c_new l (failed_none s.phase now (Some code) s) x.1 x.2) step

challenged_after : (t : Bool) (now : Instant) (signed : Bool) (code : ℕ) (s new : Session) (c d c_new : Option Credentials) (l : List Lease) (o : Operation)
    → Facts s c l o → password_of d ≡ password_of c → new ≡ cond t (with_another now signed code s) (with_doubt code s) → c_new ≡ d → After new c_new l
challenged_after true now signed code s new c d c_new l o f e h k =
    after_is (with_another now signed code s) new d c_new l h k (changed_after (another now signed code) o (without_pace now s) c d l f.is e f.live)
challenged_after false now signed code s new c d c_new l o f e h k =
    after_is (with_doubt code s) new d c_new l h k (changed_after (doubted code) o s c d l f.is e f.live)

verdict_after : (v : Verdict) (o : Operation) (a : Attempt) (m : Message) (alternate : Option SocketAddr) (now : Instant) (s : Session)
    (c : Option Credentials) (l : List Lease) (result : Receipt) (new : Session) (c_new : Option Credentials) → Facts s c l o
    → OutcomeApplies now (outcome_by v s.phase (is_unknown c) o a m alternate) m.attributes.realm m.attributes.nonce s c result new c_new → After new c_new l
verdict_after verdicts.Malformed o a m alternate now s c l result new c_new f step = same_after s new c c_new l f.safe step.1 step.2
verdict_after verdicts.Unauthentic o a m alternate now s c l result new c_new f step =
    after_is (with_doubt (code_or_success m) s) new c c_new l step.1 step.2 (changed_after (doubted (code_or_success m)) o s c c l f.is refl f.live)
verdict_after verdicts.Hint o a m alternate now s c l result new c_new f step =
    after_is (with_hint now (code_or_success m) s) new c c_new l step.1 step.2
    (changed_after (hinted now (code_or_success m) (request_timing s)) o s c c l f.is refl f.live)
verdict_after verdicts.Redirect o a m alternate now s c l result new c_new f step =
    alternate_after s.phase alternate now m.attributes.realm m.attributes.nonce s c l result new c_new refl step
verdict_after verdicts.Genuine o a m alternate now s c l result new c_new f step =
    code_after (code_of m) o.request a m alternate now m.attributes.realm m.attributes.nonce s c l result new c_new f.safe step
verdict_after verdicts.Challenge o a m alternate now s c l result new c_new f step =
    let realm = m.attributes.realm in
    let given_nonce = m.attributes.nonce in
    let code = code_or_success m in
    by_cond (λ outcome. OutcomeApplies now outcome realm given_nonce s c result new c_new → After new c_new l)
    (not (takes_challenge a.id (is_some a.key) code o)) _ _ (λ refused. λ x. same_after s new c c_new l f.safe x.1 x.2)
    (λ allowed. by_cond (λ outcome. OutcomeApplies now outcome realm given_nonce s c result new c_new → After new c_new l)
    (code == 401 && is_some a.key && is_unknown c) _ _
    (λ hint. λ x. after_is (with_hint now code s) new c c_new l x.1 x.2 (changed_after (hinted now code (request_timing s)) o s c c l f.is refl f.live))
    (λ other. λ x. challenged_after (challenge_taken realm given_nonce c).1 now (is_some a.key) code s new c (challenge_taken realm given_nonce c).0 c_new l o f
    (password_taken realm given_nonce c) x.1 x.2)) step

answered_after : (mac : List ℕ → List ℕ → List ℕ) (now : Instant) (m : Message) (alternate : Option SocketAddr) (s : Session) (c : Option Credentials)
    (l : List Lease) (result : Receipt) (new : Session) (c_new : Option Credentials) → Safe s c l → IsAnswered mac now m alternate s c result new c_new
    → After new c_new l
answered_after mac now m alternate s c l result new c_new safe step =
    outcome_case (λ outcome. OutcomeApplies now outcome m.attributes.realm m.attributes.nonce s c result new c_new → After new c_new l) step.0 s.phase c m alternate
    s.operation (λ x. same_after s new c c_new l safe x.1 x.2)
    (λ v o a is answers means. verdict_after v o a m alternate now s c l result new c_new (record {
      safe = safe;
      is = is;
      live = live_request s.phase o c l (subst (λ (x : Option Operation). IsForgotten s.phase x c l) is safe);
    })) step.2

-- ---- a response to the request for a lease

lease_is : (s new : Session) (c c_new : Option Credentials) (l l_new : List Lease) → new ≡ s → c_new ≡ c → l_new ≡ l → Safe s c l → Safe new c_new l_new
lease_is s new c c_new l l_new h k e safe =
    subst (λ (x : Session). Safe x c_new l_new) (sym h)
    (subst (λ (x : Option Credentials). Safe s x l_new) (sym k) (subst (λ (x : List Lease). Safe s c x) (sym e) safe))

live_is : (s new : Session) (c d c_new : Option Credentials) (l_new : List Lease) → new ≡ s → c_new ≡ d → password_of d ≡ password_of c → IsLive s.phase c
    → Safe new c_new l_new
live_is s new c d c_new l_new h k e live =
    subst (λ (x : Session). Safe x c_new l_new) (sym h)
    (subst (λ (x : Option Credentials). Safe s x l_new) (sym k) (live_same s.phase s.operation c d l_new e live))

live_forgot : (p : Phase) (c : Option Credentials) → IsLive p c → IsLive p (option_map forgotten c)
live_forgot phases.New c h = tt
live_forgot phases.Asking c h = tt
live_forgot phases.Leaving c h = tt
live_forgot phases.Ready c h = none_forgot c
live_forgot phases.Closing c h = none_forgot c
live_forgot phases.Ended c h = absurd h

lease_failed_kept : (now : Instant) (code : ℕ) (s : Session) (c d : Option Credentials) (l : List Lease) → password_of d ≡ None → IsLive s.phase c
    → Kept (lease_failed now code s) d l
lease_failed_kept now code s c d l e live =
    kept_cond (is_gone (Some code)) (lost (Some code) None s) (cond (code == 403 || code == 443) s (probed now s)) d l (refl, refl, refl)
    (kept_cond (code == 403 || code == 443) s (probed now s) d l (live_kept s.phase s.operation c d l e live)
    (kept_cond (is_ready s.phase && is_none s.operation) (with_request now (requests.Refresh s.lifetime) s) s d l (live_kept s.phase _ c d l e live)
    (live_kept s.phase s.operation c d l e live)))

lease_failed_is : (now : Instant) (code : ℕ) (s new : Session) (c c_new : Option Credentials) (k l_new : List Lease) → IsLive s.phase c
    → new ≡ lease_failed now code s → l_new ≡ kept_leases new k → c_new ≡ kept_credentials new (option_map forgotten c) → Safe new c_new l_new
lease_failed_is now code s new c c_new k l_new live h e kept =
    subst (λ (x : List Lease). Safe new c_new x) (sym e) (subst (λ (x : Option Credentials). Safe new x (kept_leases new k)) (sym kept)
    (subst (λ (x : Session). Kept x (option_map forgotten c) k) (sym h) (lease_failed_kept now code s c (option_map forgotten c) k (none_forgot c) live)))

alternate_lease : (p : Phase) (now : Instant) (place : ℕ) (realm given_nonce : Option (List ℕ)) (s : Session) (l : List Lease) (c : Option Credentials)
    (result : Receipt) (new : Session) (l_new : List Lease) (c_new : Option Credentials) → IsLive s.phase c
    → LeaseApplies now place (on_alternate p None) realm given_nonce s l c result new l_new c_new → Safe new c_new l_new
alternate_lease phases.New now place realm given_nonce s l c result new l_new c_new live step = lease_failed_is now 300 s new c c_new _ l_new live step.1 step.2 step.3
alternate_lease phases.Asking now place realm given_nonce s l c result new l_new c_new live step = lease_failed_is now 300 s new c c_new _ l_new live step.1 step.2 step.3
alternate_lease phases.Leaving now place realm given_nonce s l c result new l_new c_new live step = lease_failed_is now 300 s new c c_new _ l_new live step.1 step.2 step.3
alternate_lease phases.Ready now place realm given_nonce s l c result new l_new c_new live step = lease_failed_is now 300 s new c c_new _ l_new live step.1 step.2 step.3
alternate_lease phases.Closing now place realm given_nonce s l c result new l_new c_new live step = lease_failed_is now 300 s new c c_new _ l_new live step.1 step.2 step.3
alternate_lease phases.Ended now place realm given_nonce s l c result new l_new c_new live step = lease_failed_is now 300 s new c c_new _ l_new live step.1 step.2 step.3

lasts_lease : (a : Attempt) (m : Message) (relayed : SocketAddr) (life : Option ℕ) (now : Instant) (place : ℕ) (realm given_nonce : Option (List ℕ)) (s : Session)
    (l : List Lease) (c : Option Credentials) (result : Receipt) (new : Session) (l_new : List Lease) (c_new : Option Credentials) → Safe s c l
    → LeaseApplies now place (lasts a m relayed life) realm given_nonce s l c result new l_new c_new → Safe new c_new l_new
lasts_lease a m relayed None now place realm given_nonce s l c result new l_new c_new safe step = lease_is s new c c_new l l_new step.1 step.3 step.2 safe
lasts_lease a m relayed (Some seconds) now place realm given_nonce s l c result new l_new c_new safe step =
    by_cond (λ outcome. LeaseApplies now place outcome realm given_nonce s l c result new l_new c_new → Safe new c_new l_new) (seconds == 0) _ _
    (λ zero. λ x. lease_is s new c c_new l l_new x.1 x.3 x.2 safe) (λ some. λ x. lease_is s new c c_new l l_new x.1 x.3 x.2 safe) step

relays_lease : (a : Attempt) (m : Message) (relayed : Option SocketAddr) (now : Instant) (place : ℕ) (realm given_nonce : Option (List ℕ)) (s : Session)
    (l : List Lease) (c : Option Credentials) (result : Receipt) (new : Session) (l_new : List Lease) (c_new : Option Credentials) → Safe s c l
    → LeaseApplies now place (relays a m relayed) realm given_nonce s l c result new l_new c_new → Safe new c_new l_new
relays_lease a m None now place realm given_nonce s l c result new l_new c_new safe step = lease_is s new c c_new l l_new step.1 step.3 step.2 safe
relays_lease a m (Some relayed) now place realm given_nonce s l c result new l_new c_new safe step =
    lasts_lease a m relayed m.attributes.lifetime now place realm given_nonce s l c result new l_new c_new safe step

lasting_lease : (s new : Session) (c c_new : Option Credentials) (l_new : List Lease) → IsLive s.phase c → new ≡ s → c_new ≡ option_map forgotten c
    → Safe new c_new l_new
lasting_lease s new c c_new l_new live h k =
    live_is s new (option_map forgotten c) (option_map forgotten c) c_new l_new h k refl (live_forgot s.phase c live)

success_lease : (r : Request) (a : Attempt) (m : Message) (now : Instant) (place : ℕ) (realm given_nonce : Option (List ℕ)) (s : Session)
    (l : List Lease) (c : Option Credentials) (result : Receipt) (new : Session) (l_new : List Lease) (c_new : Option Credentials) → Safe s c l
    → IsLive s.phase c → LeaseApplies now place (on_success r a m) realm given_nonce s l c result new l_new c_new → Safe new c_new l_new
success_lease (requests.Allocate seconds family) a m now place realm given_nonce s l c result new l_new c_new safe live step =
    relays_lease a m m.attributes.xor_relayed_address now place realm given_nonce s l c result new l_new c_new safe step
success_lease (requests.Refresh seconds) a m now place realm given_nonce s l c result new l_new c_new safe live step =
    lease_is s new c c_new l l_new step.1 step.3 step.2 safe
success_lease (requests.CreatePermission peer) a m now place realm given_nonce s l c result new l_new c_new safe live step =
    lasting_lease s new c c_new l_new live step.1 step.3
success_lease (requests.ChannelBind number peer) a m now place realm given_nonce s l c result new l_new c_new safe live step =
    lasting_lease s new c c_new l_new live step.1 step.3

code_lease : (code : Option ℕ) (r : Request) (a : Attempt) (m : Message) (now : Instant) (place : ℕ) (realm given_nonce : Option (List ℕ)) (s : Session)
    (l : List Lease) (c : Option Credentials) (result : Receipt) (new : Session) (l_new : List Lease) (c_new : Option Credentials) → Safe s c l
    → IsLive s.phase c → LeaseApplies now place (on_code s.phase r a m None code) realm given_nonce s l c result new l_new c_new → Safe new c_new l_new
code_lease None r a m now place realm given_nonce s l c result new l_new c_new safe live step =
    success_lease r a m now place realm given_nonce s l c result new l_new c_new safe live step
code_lease (Some code) r a m now place realm given_nonce s l c result new l_new c_new safe live step =
    by_cond (λ outcome. LeaseApplies now place outcome realm given_nonce s l c result new l_new c_new → Safe new c_new l_new) (code == 300) _ _
    (λ is. alternate_lease s.phase now place realm given_nonce s l c result new l_new c_new live)
    (λ other. λ x. lease_failed_is now code s new c c_new _ l_new live x.1 x.2 x.3) step

verdict_lease : (v : Verdict) (o : Operation) (a : Attempt) (m : Message) (now : Instant) (place : ℕ) (s : Session) (l : List Lease)
    (c : Option Credentials) (result : Receipt) (new : Session) (l_new : List Lease) (c_new : Option Credentials) → Safe s c l → IsLive s.phase c
    → LeaseApplies now place (outcome_by v s.phase (is_unknown c) o a m None) m.attributes.realm m.attributes.nonce s l c result new l_new c_new
    → Safe new c_new l_new
verdict_lease verdicts.Malformed o a m now place s l c result new l_new c_new safe live step = lease_is s new c c_new l l_new step.1 step.3 step.2 safe
verdict_lease verdicts.Unauthentic o a m now place s l c result new l_new c_new safe live step = live_is s new c c c_new l_new step.1 step.3 refl live
verdict_lease verdicts.Hint o a m now place s l c result new l_new c_new safe live step = live_is s new c c c_new l_new step.1 step.3 refl live
verdict_lease verdicts.Redirect o a m now place s l c result new l_new c_new safe live step =
    alternate_lease s.phase now place m.attributes.realm m.attributes.nonce s l c result new l_new c_new live step
verdict_lease verdicts.Genuine o a m now place s l c result new l_new c_new safe live step =
    code_lease (code_of m) o.request a m now place m.attributes.realm m.attributes.nonce s l c result new l_new c_new safe live step
verdict_lease verdicts.Challenge o a m now place s l c result new l_new c_new safe live step =
    let realm = m.attributes.realm in
    let given_nonce = m.attributes.nonce in
    let code = code_or_success m in
    by_cond (λ outcome. LeaseApplies now place outcome realm given_nonce s l c result new l_new c_new → Safe new c_new l_new)
    (not (takes_challenge a.id (is_some a.key) code o)) _ _ (λ refused. λ x. lease_is s new c c_new l l_new x.1 x.3 x.2 safe)
    (λ allowed. by_cond (λ outcome. LeaseApplies now place outcome realm given_nonce s l c result new l_new c_new → Safe new c_new l_new)
    (code == 401 && is_some a.key && is_unknown c) _ _ (λ hint. λ x. live_is s new c c c_new l_new x.1 x.3 refl live)
    (λ other. λ x. live_is s new c (challenge_taken realm given_nonce c).0 c_new l_new x.0 x.1.2 (password_taken realm given_nonce c) live)) step

leased_after : (mac : List ℕ → List ℕ → List ℕ) (now : Instant) (m : Message) (place : ℕ) (s : Session) (l : List Lease) (c : Option Credentials)
    (result : Receipt) (new : Session) (l_new : List Lease) (c_new : Option Credentials) → Safe s c l
    → IsLeaseAnswered mac now m place s l c result new l_new c_new → Safe new c_new l_new
leased_after mac now m place s l c result new l_new c_new safe step =
    outcome_case (λ outcome. LeaseApplies now place outcome m.attributes.realm m.attributes.nonce s l c result new l_new c_new → Safe new c_new l_new) step.0 s.phase
    c m None (at_place place l).operation (λ x. lease_is s new c c_new l l_new x.1 x.3 x.2 safe)
    (λ v o a is answers means. verdict_lease v o a m now place s l c result new l_new c_new safe (live_lease s.phase s.operation c l place o is safe)) step.2

-- ---- any datagram

responded_after : (p : Option ℕ) (mac : List ℕ → List ℕ → List ℕ) (now : Instant) (m : Message) (alternate : Option SocketAddr) (s : Session) (l : List Lease)
    (c : Option Credentials) (result : Receipt) (new : Session) (l_new : List Lease) (c_new : Option Credentials) → Safe s c l
    → IsRespondedBy p mac now m alternate s l c result new l_new c_new → Safe new c_new l_new
responded_after None mac now m alternate s l c result new l_new c_new safe step =
    subst (λ (x : List Lease). Safe new c_new x) (sym step.1) (answered_after mac now m alternate s c l result new c_new safe step.0)
responded_after (Some place) mac now m alternate s l c result new l_new c_new safe step =
    leased_after mac now m place s l c result new l_new c_new safe step

-- data changes leases only while there is an allocation
heard_phase : {R : Type 0} (p : Phase) (x : R × List Lease) (r : R) (o : Option Operation) (c : Option Credentials) (l : List Lease) → IsForgotten p o c l
    → IsForgotten p o c (cond (is_ready p) x (r, l)).1
heard_phase phases.New x r o c l h = tt
heard_phase phases.Asking x r o c l h = tt
heard_phase phases.Leaving x r o c l h = tt
heard_phase phases.Ready x r o c l h = h
heard_phase phases.Closing x r o c l h = h
heard_phase phases.Ended x r o c l h = h

heard_after : (now : Instant) (peer : Option SocketAddr) (contents : List ℕ) (s : Session) (l : List Lease) (c : Option Credentials)
    (result : Receipt) (new : Session) (l_new : List Lease) (c_new : Option Credentials) → Safe s c l
    → (result, l_new) ≡ heard_data now peer contents s l → new ≡ s → c_new ≡ c → Safe new c_new l_new
heard_after now peer contents s l c result new l_new c_new safe h same kept =
    lease_is s new c c_new (heard_data now peer contents s l).1 l_new same kept (ap (λ (x : Receipt × List Lease). x.1) h)
    (heard_phase s.phase (heard_peer now peer contents l) (dropped reasons.NotPermitted) s.operation c l safe)

pub received_after : (d : Datagram) (mac : List ℕ → List ℕ → List ℕ) (now : Instant) (alternate : Option SocketAddr) (s : Session)
    (l : List Lease) (c : Option Credentials) (result : Receipt) (new : Session) (l_new : List Lease) (c_new : Option Credentials) → Safe s c l
    → IsReceivedAs d mac now alternate s l c result new l_new c_new → Safe new c_new l_new
received_after (response m) mac now alternate s l c result new l_new c_new safe step =
    responded_after (position (is_answered_by m) l) mac now m alternate s l c result new l_new c_new safe step
received_after (peer_data peer contents) mac now alternate s l c result new l_new c_new safe step =
    heard_after now (Some peer) contents s l c result new l_new c_new safe step.0 step.1 step.2
received_after (channel_data number contents) mac now alternate s l c result new l_new c_new safe step =
    heard_after now (channel_peer number l) contents s l c result new l_new c_new safe step.0 step.1 step.2
received_after malformed mac now alternate s l c result new l_new c_new safe step = lease_is s new c c_new l l_new step.1 step.3 step.2 safe
received_after unasked mac now alternate s l c result new l_new c_new safe step = lease_is s new c c_new l l_new step.1 step.3 step.2 safe
received_after unparsed mac now alternate s l c result new l_new c_new safe step = lease_is s new c c_new l l_new step.1 step.3 step.2 safe

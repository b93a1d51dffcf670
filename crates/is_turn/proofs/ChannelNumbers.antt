-- No call gives the number of a channel to another peer.
use Rattle.std.proofs.lemmas.List.Quantifiers.{position-Some}
use Rattle.is_turn.specs.declared.session.Phase.TheVariants as phases
use Rattle.is_turn.specs.declared.session.Step.TheVariants as steps
use Rattle.is_turn.proofs.Common.{[], ◌&&◌, ◌+◌, ◌<◌, ◌||◌, ◌∙◌, ◌≡◌, ◌≤◌, ◌⊎◌, added_at, advanced, Allocated, another, ap, asked_again}
use Rattle.is_turn.proofs.Common.{at_place, barred_at, Bool, cases_eq, cases_lt, challenge_taken, Challenged, changed, channel_added_at}
use Rattle.is_turn.proofs.Common.{channel_named_by, ClientTiming, cond, Credentials, Doubted, doubted, driven, driven_by, Dropped, Failed}
use Rattle.is_turn.proofs.Common.{failed_at, false, fill_bytes, get_or-map, get_or-set_other, get_or-set_same, get_or_past, heard, heard_at}
use Rattle.is_turn.proofs.Common.{heard_by, Hinted, hinted, inl, inr, Instant, is_answered_by, is_barring, is_channel_of, is_free}
use Rattle.is_turn.proofs.Common.{is_held_back, is_idle, is_none, is_open, is_past, is_permission_of, is_renewal_due, is_reported, is_some}
use Rattle.is_turn.proofs.Common.{IsResponded, IsRespondedBy, KeepsChannels, kept_in, lapsed, Lasting, lasts_since, Lease, lease_attempted}
use Rattle.is_turn.proofs.Common.{lease_polled, lease_repeated, LeaseApplies, length, List, map, Message, named_at, named_in, nat_lt}
use Rattle.is_turn.proofs.Common.{new_lease, None, Operation, Option, Outcome, outcome_with, permitted, permitted_by, Phase, polled}
use Rattle.is_turn.proofs.Common.{position, Receipt, Redirected, refl, Refreshed, renewed, reported, reported_at, requested_for, retried_at}
use Rattle.is_turn.proofs.Common.{SameChannel, Session, set, SocketAddr, Some, Step, step_at, Stream, subst, sym, true, unused, used_at}
use Rattle.is_turn.proofs.Common.{used_in, with_changed, with_channel, with_operation, without_report, ℕ}

-- ---- a lease in a place

is_none_not : (o : Option ℕ) → is_some o ≡ true → is_none o ≡ true → ⊥
is_none_not None h k = cc h
is_none_not (Some n) h k = cc k

past : (l : List Lease) (place : ℕ) → length l ≤ place → is_some (at_place place l).number ≡ true → ⊥
past l place h some = is_none_not (at_place place l).number some (ap (λ (g : Lease). is_none g.number) (get_or_past l place unused h))

within_of : (l : List Lease) (place : ℕ) → is_some (at_place place l).number ≡ true → (place < length l) ⊎ (length l ≤ place) → place < length l
within_of l place some (inl h) = h
within_of l place some (inr h) = absurd (past l place h some)

within : (l : List Lease) (place : ℕ) → is_some (at_place place l).number ≡ true → place < length l
within l place some = within_of l place some (cases_lt place (length l))

same_by : (g x y : Lease) → y ≡ x → SameChannel g x → SameChannel g y
same_by g x y e h = subst (λ (z : Lease). SameChannel g z) (sym e) h

set_by : (l : List Lease) (i k : ℕ) (g : Lease) → (k ≡ i) ⊎ (k ≡ i → ⊥) → is_some (at_place k l).number ≡ true
    → (is_some (at_place i l).number ≡ true → SameChannel (at_place i l) g) → SameChannel (at_place k l) (at_place k (set l i g))
set_by l i k g (inl e) some h =
    subst (λ (j : ℕ). is_some (at_place j l).number ≡ true → SameChannel (at_place j l) (at_place j (set l i g))) (sym e)
    (λ there. same_by (at_place i l) g (at_place i (set l i g)) (get_or-set_same l i g unused (within l i there)) (h there)) some
set_by l i k g (inr other) some h =
    same_by (at_place k l) (at_place k l) (at_place k (set l i g)) (get_or-set_other l i k g unused other) (refl, refl)

keeps_set : (l : List Lease) (i : ℕ) (g : Lease) → (is_some (at_place i l).number ≡ true → SameChannel (at_place i l) g) → KeepsChannels l (set l i g)
keeps_set l i g h = λ k some. set_by l i k g (cases_eq k i) some h

keeps_self : (l : List Lease) → KeepsChannels l l
keeps_self l = λ k some. (refl, refl)

keeps_then : (l m n : List Lease) → KeepsChannels l m → KeepsChannels m n → KeepsChannels l n
keeps_then l m n p q = λ k some.
    let a = p k some in
    let b = q k (ap is_some a.0 ∙ some) in
    (b.0 ∙ a.0, b.1 ∙ a.1)

keeps_map : (f : Lease → Lease) (l : List Lease) → ((g : Lease) → SameChannel g (f g)) → KeepsChannels l (map f l)
keeps_map f l h = λ k some.
    same_by (at_place k l) (f (at_place k l)) (at_place k (map f l)) (get_or-map f l k unused unused (within l k some)) (h (at_place k l))

-- ---- what happens to a lease

same_cond : (b : Bool) (g x y : Lease) → SameChannel g x → SameChannel g y → SameChannel g (cond b x y)
same_cond true g x y p q = p
same_cond false g x y p q = q

pub same_named : (now : Instant) (g : Lease) → SameChannel g (named_at now g)
same_named now g = same_cond (is_some g.barred) g (asked_again now g) (used_at now g) (refl, refl) (refl, refl)

same_requested : (peer : Option SocketAddr) (now : Instant) (g : Lease) → SameChannel g (requested_for peer now g)
same_requested None now g = (refl, refl)
same_requested (Some peer) now g = (refl, refl)

same_renewed : (now : Instant) (g : Lease) → SameChannel g (renewed now g)
same_renewed now g = same_cond (is_renewal_due now g) g (requested_for g.peer now g) g (same_requested g.peer now g) (refl, refl)

same_lapsed : (now : Instant) (g : Lease) → SameChannel g (lapsed now g)
same_lapsed now g = same_cond (is_past g.until now) g (record g { until = None }) g (refl, refl) (refl, refl)

pub same_advanced : (now : Instant) (g : Lease) → SameChannel g (advanced now g)
same_advanced now g =
    let a = same_lapsed now g in
    let b = same_renewed now (lapsed now g) in
    (b.0 ∙ a.0, b.1 ∙ a.1)

pub same_failed : (now : Instant) (code : Option ℕ) (g : Lease) → SameChannel g (failed_at now code g)
same_failed now code g = same_cond (is_none g.until || is_barring code) g (barred_at now code g) (retried_at now g) (refl, refl) (refl, refl)

same_with : (change : Operation → Operation) (o : Option Operation) (g : Lease) → SameChannel g (with_operation change o g)
same_with change None g = (refl, refl)
same_with change (Some o) g = (refl, refl)

pub same_changed : (change : Operation → Operation) (g : Lease) → SameChannel g (changed change g)
same_changed change g = same_with change g.operation g

-- ---- the user

keeps_either : (b : Bool) (l : List Lease) (x y : List Lease × Bool) → KeepsChannels l x.0 → KeepsChannels l y.0 → KeepsChannels l (cond b x y).0
keeps_either true l x y p q = p
keeps_either false l x y p q = q

keeps_cond : (b : Bool) (l x y : List Lease) → KeepsChannels l x → KeepsChannels l y → KeepsChannels l (cond b x y)
keeps_cond true l x y p q = p
keeps_cond false l x y p q = q

keeps_named : (now : Instant) (place : ℕ) (l : List Lease) → KeepsChannels l (named_in now place l).0
keeps_named now place l =
    keeps_either (is_held_back now (at_place place l)) l (l, false) (set l place (named_at now (at_place place l)), true) (keeps_self l)
    (keeps_set l place (named_at now (at_place place l)) (λ some. same_named now (at_place place l)))

first_of : (a b : Bool) → (a && b) ≡ true → a ≡ true
first_of true b h = refl
first_of false b h = absurd (cc h)

free_has_none : (now : Instant) (g : Lease) → is_free now g ≡ true → is_none g.number ≡ true
free_has_none now g h =
    let a = first_of (is_none g.number && is_none g.until && is_none g.operation && is_none g.report) (is_idle now g) h in
    let b = first_of (is_none g.number && is_none g.until && is_none g.operation) (is_none g.report) a in
    let c = first_of (is_none g.number && is_none g.until) (is_none g.operation) b in
    first_of (is_none g.number) (is_none g.until) c

no_channel : (now : Instant) (place : ℕ) (l : List Lease) → position (is_free now) l ≡ Some place → is_some (at_place place l).number ≡ true → ⊥
no_channel now place l at some =
    is_none_not (at_place place l).number some (free_has_none now (at_place place l) (position-Some (is_free now) l place unused at).1)

keeps_added : (now : Instant) (g : Lease) (p : Option ℕ) (l : List Lease) → position (is_free now) l ≡ p → KeepsChannels l (added_at g p l).0
keeps_added now g None l at = keeps_self l
keeps_added now g (Some place) l at = keeps_set l place g (λ some. absurd (no_channel now place l at some))

keeps_permitted_by : (now : Instant) (ip : SocketAddr) (p : Option ℕ) (l : List Lease) → KeepsChannels l (permitted_by now ip p l).0
keeps_permitted_by now ip None l = keeps_added now (new_lease ip None now) (position (is_free now) l) l refl
keeps_permitted_by now ip (Some place) l = keeps_named now place l

pub keeps_permitted : (now : Instant) (ip : SocketAddr) (l : List Lease) → KeepsChannels l (permitted now ip l).0
keeps_permitted now ip l = keeps_permitted_by now ip (position (is_permission_of ip) l) l

keeps_channel_at : (now : Instant) (peer : SocketAddr) (p : Option ℕ) (l : List Lease) → position (is_free now) l ≡ p → KeepsChannels l (channel_added_at now peer p l)
keeps_channel_at now peer None l at = keeps_self l
keeps_channel_at now peer (Some place) l at =
    keeps_cond (nat_lt place 4096) l (set l place (new_lease peer (Some (0x4000 + place)) now)) l
    (keeps_set l place (new_lease peer (Some (0x4000 + place)) now) (λ some. absurd (no_channel now place l at some))) (keeps_self l)

keeps_channel_by : (now : Instant) (peer : SocketAddr) (p : Option ℕ) (l : List Lease) → KeepsChannels l (channel_named_by now peer p l)
keeps_channel_by now peer None l = keeps_channel_at now peer (position (is_free now) l) l refl
keeps_channel_by now peer (Some place) l = keeps_named now place l

pub keeps_channel : (now : Instant) (peer : SocketAddr) (l : List Lease) → KeepsChannels l (with_channel now peer l)
keeps_channel now peer l = keeps_channel_by now peer (position (is_channel_of peer) l) l

-- ---- data

keeps_used : (now : Instant) (p : Option ℕ) (l : List Lease) → KeepsChannels l (used_in now p l)
keeps_used now None l = keeps_self l
keeps_used now (Some place) l = keeps_set l place (used_at now (at_place place l)) (λ some. (refl, refl))

keeps_heard_by : (now : Instant) (peer : SocketAddr) (place : ℕ) (l : List Lease) → KeepsChannels l (heard_by now peer place l).0
keeps_heard_by now peer place l =
    let m = set l place (used_at now (at_place place l)) in
    keeps_either (is_open (at_place place l)) l (used_in now (position (is_channel_of peer) m) m, true) (l, false)
    (keeps_then l m (used_in now (position (is_channel_of peer) m) m)
    (keeps_set l place (used_at now (at_place place l)) (λ some. (refl, refl))) (keeps_used now (position (is_channel_of peer) m) m))
    (keeps_self l)

keeps_heard_at : (now : Instant) (peer : SocketAddr) (p : Option ℕ) (l : List Lease) → KeepsChannels l (heard_at now peer p l).0
keeps_heard_at now peer None l = keeps_self l
keeps_heard_at now peer (Some place) l = keeps_heard_by now peer place l

pub keeps_heard : (now : Instant) (ip peer : SocketAddr) (l : List Lease) → KeepsChannels l (heard now ip peer l).0
keeps_heard now ip peer l = keeps_heard_at now peer (position (is_permission_of ip) l) l

-- ---- the clock, packets and events

pub keeps_advanced : (now : Instant) (l : List Lease) → KeepsChannels l (map (advanced now) l)
keeps_advanced now l = keeps_map (advanced now) l (same_advanced now)

keeps_driven_by : (step : Step) (now : Instant) (key : Option (List ℕ)) (t : ClientTiming) (place : ℕ) (stream : Stream) (l : List Lease)
    → KeepsChannels l (driven_by step now key t place stream l).0
keeps_driven_by steps.Nothing now key t place stream l = keeps_self l
keeps_driven_by steps.Lapse now key t place stream l = keeps_self l
keeps_driven_by steps.Attempt now key t place stream l =
    keeps_set l place (lease_attempted now (record { 0 = (fill_bytes 12 stream).0 }) key t (at_place place l)) (λ some. same_changed _ (at_place place l))
keeps_driven_by steps.Repeat now key t place stream l =
    keeps_set l place (lease_repeated now t (at_place place l)) (λ some. same_changed _ (at_place place l))
keeps_driven_by steps.TimeOut now key t place stream l =
    keeps_set l place (failed_at now None (at_place place l)) (λ some. same_failed now None (at_place place l))
keeps_driven_by steps.KeepAlive now key t place stream l = keeps_self l

pub keeps_driven : (now : Instant) (key : Option (List ℕ)) (place : ℕ) (s : Session) (stream : Stream) (l : List Lease)
    → KeepsChannels l (driven now key place s stream l).0
keeps_driven now key place s stream l = keeps_driven_by (step_at place s l) now key s.timing place stream l

pub keeps_polled : (place : ℕ) (l : List Lease) → KeepsChannels l (set l place (lease_polled (at_place place l)))
keeps_polled place l = keeps_set l place (lease_polled (at_place place l)) (λ some. same_changed polled (at_place place l))

keeps_reported_at : (p : Option ℕ) (l : List Lease) → KeepsChannels l (reported_at p l).0
keeps_reported_at None l = keeps_self l
keeps_reported_at (Some place) l = keeps_set l place (without_report (at_place place l)) (λ some. (refl, refl))

pub keeps_reported : (l : List Lease) → KeepsChannels l (reported l).0
keeps_reported l = keeps_reported_at (position is_reported l) l

-- ---- responses

keeps_is : (l m n : List Lease) → KeepsChannels l m → n ≡ m → KeepsChannels l n
keeps_is l m n h e = subst (λ (x : List Lease). KeepsChannels l x) (sym e) h

keeps_kept : (phase : Phase) (l m n : List Lease) → KeepsChannels l m → n ≡ kept_in phase m → (n ≡ []) ⊎ KeepsChannels l n
keeps_kept phases.Ended l m n h e = inl e
keeps_kept phases.New l m n h e = inr (keeps_is l m n h e)
keeps_kept phases.Asking l m n h e = inr (keeps_is l m n h e)
keeps_kept phases.Leaving l m n h e = inr (keeps_is l m n h e)
keeps_kept phases.Ready l m n h e = inr (keeps_is l m n h e)
keeps_kept phases.Closing l m n h e = inr (keeps_is l m n h e)

keeps_changed : (change : Lease → Lease) (place : ℕ) (l : List Lease) → ((g : Lease) → SameChannel g (change g)) → KeepsChannels l (with_changed place change l)
keeps_changed change place l h = keeps_set l place (change (at_place place l)) (λ some. h (at_place place l))

keeps_applied : (now : Instant) (place : ℕ) (outcome : Outcome) (realm nonce : Option (List ℕ)) (s : Session) (l : List Lease) (c : Option Credentials)
    (result : Receipt) (new : Session) (l_new : List Lease) (c_new : Option Credentials)
    → LeaseApplies now place outcome realm nonce s l c result new l_new c_new → (l_new ≡ []) ⊎ KeepsChannels l l_new
keeps_applied now place (Dropped reason) realm _ s l c result new l_new c_new step = inr (keeps_is l l l_new (keeps_self l) step.2)
keeps_applied now place (Doubted code) realm _ s l c result new l_new c_new step =
    inr (keeps_is l (with_changed place (changed (doubted code)) l) l_new (keeps_changed (changed (doubted code)) place l (same_changed (doubted code))) step.2)
keeps_applied now place (Hinted code) realm _ s l c result new l_new c_new step =
    inr (keeps_is l (with_changed place (changed (hinted now code s.timing)) l) l_new
    (keeps_changed (changed (hinted now code s.timing)) place l (same_changed (hinted now code s.timing))) step.2)
keeps_applied now place (Challenged b code) realm nonce s l c result new l_new c_new step =
    inr (keeps_is l (cond (challenge_taken realm nonce c).1 (with_changed place (changed (another now b code)) l) (with_changed place (changed (doubted code)) l)) l_new
    (keeps_cond (challenge_taken realm nonce c).1 l (with_changed place (changed (another now b code)) l) (with_changed place (changed (doubted code)) l)
    (keeps_changed (changed (another now b code)) place l (same_changed (another now b code)))
    (keeps_changed (changed (doubted code)) place l (same_changed (doubted code)))) step.1.1)
keeps_applied now place (Lasting since) realm _ s l c result new l_new c_new step =
    inr (keeps_is l (with_changed place (lasts_since since) l) l_new (keeps_changed (lasts_since since) place l (λ g. (refl, refl))) step.2)
keeps_applied now place (Failed code) realm _ s l c result new l_new c_new step =
    keeps_kept new.phase l (with_changed place (failed_at now (Some code)) l) l_new
    (keeps_changed (failed_at now (Some code)) place l (same_failed now (Some code))) step.2
keeps_applied now place (Allocated since seconds allocation) realm _ s l c result new l_new c_new step =
    inr (keeps_is l l l_new (keeps_self l) step.2)
keeps_applied now place (Refreshed since seconds) realm _ s l c result new l_new c_new step = inr (keeps_is l l l_new (keeps_self l) step.2)
keeps_applied now place (Redirected server) realm _ s l c result new l_new c_new step = inr (keeps_is l l l_new (keeps_self l) step.2)

keeps_responded_by : (p : Option ℕ) (mac : List ℕ → List ℕ → List ℕ) (now : Instant) (m : Message) (alternate : Option SocketAddr) (s : Session)
    (l : List Lease) (c : Option Credentials) (result : Receipt) (new : Session) (l_new : List Lease) (c_new : Option Credentials)
    → IsRespondedBy p mac now m alternate s l c result new l_new c_new → (l_new ≡ []) ⊎ KeepsChannels l l_new
keeps_responded_by None mac now m alternate s l c result new l_new c_new step = keeps_kept new.phase l l l_new (keeps_self l) step.1
keeps_responded_by (Some place) mac now m alternate s l c result new l_new c_new step =
    keeps_applied now place (outcome_with step.0 s.phase c m None (at_place place l).operation) m.attributes.realm m.attributes.nonce
    s l c result new l_new c_new step.2

pub keeps_responded : (mac : List ℕ → List ℕ → List ℕ) (now : Instant) (m : Message) (alternate : Option SocketAddr) (s : Session)
    (l : List Lease) (c : Option Credentials) (result : Receipt) (new : Session) (l_new : List Lease) (c_new : Option Credentials)
    → IsResponded mac now m alternate s l c result new l_new c_new → (l_new ≡ []) ⊎ KeepsChannels l l_new
keeps_responded mac now m alternate s l c result new l_new c_new step =
    keeps_responded_by (position (is_answered_by m) l) mac now m alternate s l c result new l_new c_new step

-- No call but permit and send names a peer, and none changes the number of places.
use Rattle.is_turn.specs.declared.session.Phase.TheVariants as phases
use Rattle.is_turn.specs.declared.session.Step.TheVariants as steps
use Rattle.is_turn.specs.Peers.{KeepsPlaces, NamesOnly}
use Rattle.is_turn.proofs.Common.{[], ◌+◌, ◌<◌, ◌∙◌, ◌≡◌, ◌≤◌, ◌⊎◌, added_at, advanced, Allocated, another, ap, at_place, Bool, cases_eq}
use Rattle.is_turn.proofs.Common.{cases_lt, challenge_taken, Challenged, changed, channel_added_at, channel_named_by, ClientTiming, cond}
use Rattle.is_turn.proofs.Common.{Credentials, Doubted, doubted, driven, driven_by, Dropped, Failed, failed_at, false, fill_bytes}
use Rattle.is_turn.proofs.Common.{get_or-map, get_or-set_other, get_or-set_same, get_or_past, heard, heard_at, heard_by, Hinted, hinted}
use Rattle.is_turn.proofs.Common.{inl, inr, Instant, is_answered_by, is_channel_of, is_free, is_held_back, is_open, is_permission_of}
use Rattle.is_turn.proofs.Common.{is_reported, IsResponded, IsRespondedBy, kept_in, Lasting, lasts_since, Lease, lease_attempted}
use Rattle.is_turn.proofs.Common.{lease_polled, lease_repeated, LeaseApplies, length, length-map, length-set, List, map, Message, named_at}
use Rattle.is_turn.proofs.Common.{named_in, nat_lt, new_lease, None, Option, Outcome, outcome_with, permitted, permitted_by, Phase, polled}
use Rattle.is_turn.proofs.Common.{position, Receipt, Redirected, refl, Refreshed, reported, reported_at, SameChannel, Session, set}
use Rattle.is_turn.proofs.Common.{set_past, SocketAddr, Some, Step, step_at, Stream, subst, sym, true, unused, used_at, used_in}
use Rattle.is_turn.proofs.Common.{with_changed, with_channel, without_report, ℕ}
use Rattle.is_turn.proofs.ChannelNumbers.{same_named, same_advanced, same_failed, same_changed}

-- ---- a lease in a place

same_by : (g x y : Lease) → y ≡ x → SameChannel g x → SameChannel g y
same_by g x y e h = subst (λ (z : Lease). SameChannel g z) (sym e) h

abbrev pub AtSet : List Lease → ℕ → Lease → ℕ → Type 0
AtSet l i g k = (k ≡ i) × (at_place k (set l i g) ≡ g) ⊎ (at_place k (set l i g) ≡ at_place k l)

at_set_past : (l : List Lease) (i k : ℕ) (g : Lease) → length l ≤ i → AtSet l i g k
at_set_past l i k g h = inr (ap (at_place k) (set_past l i g h))

at_set_by : (l : List Lease) (i k : ℕ) (g : Lease) → i < length l → (k ≡ i) ⊎ (k ≡ i → ⊥) → AtSet l i g k
at_set_by l i k g h (inl e) = inl (e, ap (λ (j : ℕ). at_place j (set l i g)) e ∙ get_or-set_same l i g unused h)
at_set_by l i k g h (inr other) = inr (get_or-set_other l i k g unused other)

at_set_in : (l : List Lease) (i k : ℕ) (g : Lease) → (i < length l) ⊎ (length l ≤ i) → AtSet l i g k
at_set_in l i k g (inl h) = at_set_by l i k g h (cases_eq k i)
at_set_in l i k g (inr h) = at_set_past l i k g h

-- what is at a place after a lease was put in one
pub at_set : (l : List Lease) (i k : ℕ) (g : Lease) → AtSet l i g k
at_set l i k g = at_set_in l i k g (cases_lt i (length l))

same_set : (l : List Lease) (i k : ℕ) (g : Lease) → SameChannel (at_place i l) g → AtSet l i g k → SameChannel (at_place k l) (at_place k (set l i g))
same_set l i k g h (inl (e, put)) =
    same_by (at_place k l) g (at_place k (set l i g)) put (subst (λ (j : ℕ). SameChannel (at_place j l) g) (sym e) h)
same_set l i k g h (inr kept) = same_by (at_place k l) (at_place k l) (at_place k (set l i g)) kept (refl, refl)

keeps_set : (l : List Lease) (i : ℕ) (g : Lease) → SameChannel (at_place i l) g → KeepsPlaces l (set l i g)
keeps_set l i g h = record { places = length-set l i g; same = λ k. same_set l i k g h (at_set l i k g) }

names_set_at : (peer : SocketAddr) (l : List Lease) (i k : ℕ) (g : Lease) → g.peer ≡ Some peer → AtSet l i g k
    → SameChannel (at_place k l) (at_place k (set l i g)) ⊎ ((at_place k (set l i g)).peer ≡ Some peer)
names_set_at peer l i k g h (inl (e, put)) = inr (ap (λ (x : Lease). x.peer) put ∙ h)
names_set_at peer l i k g h (inr kept) = inl (same_by (at_place k l) (at_place k l) (at_place k (set l i g)) kept (refl, refl))

names_set : (peer : SocketAddr) (l : List Lease) (i : ℕ) (g : Lease) → g.peer ≡ Some peer → NamesOnly peer l (set l i g)
names_set peer l i g h = record { places = length-set l i g; same = λ k. names_set_at peer l i k g h (at_set l i k g) }

keeps_names : (peer : SocketAddr) (l new : List Lease) → KeepsPlaces l new → NamesOnly peer l new
keeps_names peer l new h = record { places = h.places; same = λ k. inl (h.same k) }

keeps_self : (l : List Lease) → KeepsPlaces l l
keeps_self l = record { places = refl; same = λ k. (refl, refl) }

keeps_then : (l m n : List Lease) → KeepsPlaces l m → KeepsPlaces m n → KeepsPlaces l n
keeps_then l m n p q = record {
  places = q.places ∙ p.places;
  same = λ k. ((q.same k).0 ∙ (p.same k).0, (q.same k).1 ∙ (p.same k).1);
}

same_map : (f : Lease → Lease) (l : List Lease) (k : ℕ) → ((g : Lease) → SameChannel g (f g)) → (k < length l) ⊎ (length l ≤ k)
    → SameChannel (at_place k l) (at_place k (map f l))
same_map f l k h (inl lt) = same_by (at_place k l) (f (at_place k l)) (at_place k (map f l)) (get_or-map f l k unused unused lt) (h (at_place k l))
same_map f l k h (inr past) =
    same_by (at_place k l) (at_place k l) (at_place k (map f l))
    (get_or_past (map f l) k unused (subst (λ (n : ℕ). n ≤ k) (sym (length-map l f)) past) ∙ sym (get_or_past l k unused past)) (refl, refl)

keeps_map : (f : Lease → Lease) (l : List Lease) → ((g : Lease) → SameChannel g (f g)) → KeepsPlaces l (map f l)
keeps_map f l h = record { places = length-map l f; same = λ k. same_map f l k h (cases_lt k (length l)) }

keeps_cond : (b : Bool) (l x y : List Lease) → KeepsPlaces l x → KeepsPlaces l y → KeepsPlaces l (cond b x y)
keeps_cond true l x y p q = p
keeps_cond false l x y p q = q

keeps_either : (b : Bool) (l : List Lease) (x y : List Lease × Bool) → KeepsPlaces l x.0 → KeepsPlaces l y.0 → KeepsPlaces l (cond b x y).0
keeps_either true l x y p q = p
keeps_either false l x y p q = q

-- ---- a peer is named

keeps_named : (now : Instant) (place : ℕ) (l : List Lease) → KeepsPlaces l (named_in now place l).0
keeps_named now place l =
    keeps_either (is_held_back now (at_place place l)) l (l, false) (set l place (named_at now (at_place place l)), true) (keeps_self l)
    (keeps_set l place (named_at now (at_place place l)) (same_named now (at_place place l)))

names_added : (now : Instant) (peer : SocketAddr) (p : Option ℕ) (l : List Lease) → NamesOnly peer l (added_at (new_lease peer None now) p l).0
names_added now peer None l = keeps_names peer l l (keeps_self l)
names_added now peer (Some place) l = names_set peer l place (new_lease peer None now) refl

names_permitted_by : (now : Instant) (ip : SocketAddr) (p : Option ℕ) (l : List Lease) → NamesOnly ip l (permitted_by now ip p l).0
names_permitted_by now ip None l = names_added now ip (position (is_free now) l) l
names_permitted_by now ip (Some place) l = keeps_names ip l (named_in now place l).0 (keeps_named now place l)

pub names_permitted : (now : Instant) (ip : SocketAddr) (l : List Lease) → NamesOnly ip l (permitted now ip l).0
names_permitted now ip l = names_permitted_by now ip (position (is_permission_of ip) l) l

names_cond : (b : Bool) (peer : SocketAddr) (l x y : List Lease) → NamesOnly peer l x → NamesOnly peer l y → NamesOnly peer l (cond b x y)
names_cond true peer l x y p q = p
names_cond false peer l x y p q = q

names_channel_at : (now : Instant) (peer : SocketAddr) (p : Option ℕ) (l : List Lease) → NamesOnly peer l (channel_added_at now peer p l)
names_channel_at now peer None l = keeps_names peer l l (keeps_self l)
names_channel_at now peer (Some place) l =
    names_cond (nat_lt place 4096) peer l (set l place (new_lease peer (Some (0x4000 + place)) now)) l
    (names_set peer l place (new_lease peer (Some (0x4000 + place)) now) refl) (keeps_names peer l l (keeps_self l))

names_channel_by : (now : Instant) (peer : SocketAddr) (p : Option ℕ) (l : List Lease) → NamesOnly peer l (channel_named_by now peer p l)
names_channel_by now peer None l = names_channel_at now peer (position (is_free now) l) l
names_channel_by now peer (Some place) l = keeps_names peer l (named_in now place l).0 (keeps_named now place l)

pub names_channel : (now : Instant) (peer : SocketAddr) (l : List Lease) → NamesOnly peer l (with_channel now peer l)
names_channel now peer l = names_channel_by now peer (position (is_channel_of peer) l) l

-- ---- data

keeps_used : (now : Instant) (p : Option ℕ) (l : List Lease) → KeepsPlaces l (used_in now p l)
keeps_used now None l = keeps_self l
keeps_used now (Some place) l = keeps_set l place (used_at now (at_place place l)) (refl, refl)

keeps_heard_by : (now : Instant) (peer : SocketAddr) (place : ℕ) (l : List Lease) → KeepsPlaces l (heard_by now peer place l).0
keeps_heard_by now peer place l =
    let m = set l place (used_at now (at_place place l)) in
    keeps_either (is_open (at_place place l)) l (used_in now (position (is_channel_of peer) m) m, true) (l, false)
    (keeps_then l m (used_in now (position (is_channel_of peer) m) m)
    (keeps_set l place (used_at now (at_place place l)) (refl, refl)) (keeps_used now (position (is_channel_of peer) m) m))
    (keeps_self l)

keeps_heard_at : (now : Instant) (peer : SocketAddr) (p : Option ℕ) (l : List Lease) → KeepsPlaces l (heard_at now peer p l).0
keeps_heard_at now peer None l = keeps_self l
keeps_heard_at now peer (Some place) l = keeps_heard_by now peer place l

pub keeps_heard : (now : Instant) (ip peer : SocketAddr) (l : List Lease) → KeepsPlaces l (heard now ip peer l).0
keeps_heard now ip peer l = keeps_heard_at now peer (position (is_permission_of ip) l) l

-- ---- the clock, packets and events

pub keeps_advanced : (now : Instant) (l : List Lease) → KeepsPlaces l (map (advanced now) l)
keeps_advanced now l = keeps_map (advanced now) l (same_advanced now)

keeps_driven_by : (step : Step) (now : Instant) (key : Option (List ℕ)) (t : ClientTiming) (place : ℕ) (stream : Stream) (l : List Lease)
    → KeepsPlaces l (driven_by step now key t place stream l).0
keeps_driven_by steps.Nothing now key t place stream l = keeps_self l
keeps_driven_by steps.Lapse now key t place stream l = keeps_self l
keeps_driven_by steps.Attempt now key t place stream l =
    keeps_set l place (lease_attempted now (record { 0 = (fill_bytes 12 stream).0 }) key t (at_place place l)) (same_changed _ (at_place place l))
keeps_driven_by steps.Repeat now key t place stream l =
    keeps_set l place (lease_repeated now t (at_place place l)) (same_changed _ (at_place place l))
keeps_driven_by steps.TimeOut now key t place stream l =
    keeps_set l place (failed_at now None (at_place place l)) (same_failed now None (at_place place l))
keeps_driven_by steps.KeepAlive now key t place stream l = keeps_self l

pub keeps_driven : (now : Instant) (key : Option (List ℕ)) (place : ℕ) (s : Session) (stream : Stream) (l : List Lease)
    → KeepsPlaces l (driven now key place s stream l).0
keeps_driven now key place s stream l = keeps_driven_by (step_at place s l) now key s.timing place stream l

pub keeps_polled : (place : ℕ) (l : List Lease) → KeepsPlaces l (set l place (lease_polled (at_place place l)))
keeps_polled place l = keeps_set l place (lease_polled (at_place place l)) (same_changed polled (at_place place l))

keeps_reported_at : (p : Option ℕ) (l : List Lease) → KeepsPlaces l (reported_at p l).0
keeps_reported_at None l = keeps_self l
keeps_reported_at (Some place) l = keeps_set l place (without_report (at_place place l)) (refl, refl)

pub keeps_reported : (l : List Lease) → KeepsPlaces l (reported l).0
keeps_reported l = keeps_reported_at (position is_reported l) l

-- ---- responses

keeps_is : (l m n : List Lease) → KeepsPlaces l m → n ≡ m → KeepsPlaces l n
keeps_is l m n h e = subst (λ (x : List Lease). KeepsPlaces l x) (sym e) h

keeps_kept : (phase : Phase) (l m n : List Lease) → KeepsPlaces l m → n ≡ kept_in phase m → (n ≡ []) ⊎ KeepsPlaces l n
keeps_kept phases.Ended l m n h e = inl e
keeps_kept phases.New l m n h e = inr (keeps_is l m n h e)
keeps_kept phases.Asking l m n h e = inr (keeps_is l m n h e)
keeps_kept phases.Leaving l m n h e = inr (keeps_is l m n h e)
keeps_kept phases.Ready l m n h e = inr (keeps_is l m n h e)
keeps_kept phases.Closing l m n h e = inr (keeps_is l m n h e)

keeps_changed : (change : Lease → Lease) (place : ℕ) (l : List Lease) → ((g : Lease) → SameChannel g (change g)) → KeepsPlaces l (with_changed place change l)
keeps_changed change place l h = keeps_set l place (change (at_place place l)) (h (at_place place l))

keeps_applied : (now : Instant) (place : ℕ) (outcome : Outcome) (realm nonce : Option (List ℕ)) (s : Session) (l : List Lease) (c : Option Credentials)
    (result : Receipt) (new : Session) (l_new : List Lease) (c_new : Option Credentials)
    → LeaseApplies now place outcome realm nonce s l c result new l_new c_new → (l_new ≡ []) ⊎ KeepsPlaces l l_new
keeps_applied now place (Dropped reason) realm _ s l c result new l_new c_new step = inr (keeps_is l l l_new (keeps_self l) step.2)
keeps_applied now place (Doubted code) realm _ s l c result new l_new c_new step =
    inr (keeps_is l (with_changed place (changed (doubted code)) l) l_new (keeps_changed (changed (doubted code)) place l (same_changed (doubted code))) step.2)
keeps_applied now place (Hinted code) realm _ s l c result new l_new c_new step =
    inr (keeps_is l (with_changed place (changed (hinted now code s.timing)) l) l_new
    (keeps_changed (changed (hinted now code s.timing)) place l (same_changed (hinted now code s.timing))) step.2)
keeps_applied now place (Challenged b code) realm nonce s l c result new l_new c_new step =
    inr (keeps_is l (cond (challenge_taken realm nonce c).1 (with_changed place (changed (another now b code)) l) (with_changed place (changed (doubted code)) l)) l_new
    (keeps_cond (challenge_taken realm nonce c).1 l (with_changed place (changed (another now b code)) l) (with_changed place (changed (doubted code)) l)
    (keeps_changed (changed (another now b code)) place l (same_changed (another now b code)))
    (keeps_changed (changed (doubted code)) place l (same_changed (doubted code)))) step.1.1)
keeps_applied now place (Lasting since) realm _ s l c result new l_new c_new step =
    inr (keeps_is l (with_changed place (lasts_since since) l) l_new (keeps_changed (lasts_since since) place l (λ g. (refl, refl))) step.2)
keeps_applied now place (Failed code) realm _ s l c result new l_new c_new step =
    keeps_kept new.phase l (with_changed place (failed_at now (Some code)) l) l_new
    (keeps_changed (failed_at now (Some code)) place l (same_failed now (Some code))) step.2
keeps_applied now place (Allocated since seconds allocation) realm _ s l c result new l_new c_new step =
    inr (keeps_is l l l_new (keeps_self l) step.2)
keeps_applied now place (Refreshed since seconds) realm _ s l c result new l_new c_new step = inr (keeps_is l l l_new (keeps_self l) step.2)
keeps_applied now place (Redirected server) realm _ s l c result new l_new c_new step = inr (keeps_is l l l_new (keeps_self l) step.2)

keeps_responded_by : (p : Option ℕ) (mac : List ℕ → List ℕ → List ℕ) (now : Instant) (m : Message) (alternate : Option SocketAddr) (s : Session)
    (l : List Lease) (c : Option Credentials) (result : Receipt) (new : Session) (l_new : List Lease) (c_new : Option Credentials)
    → IsRespondedBy p mac now m alternate s l c result new l_new c_new → (l_new ≡ []) ⊎ KeepsPlaces l l_new
keeps_responded_by None mac now m alternate s l c result new l_new c_new step = keeps_kept new.phase l l l_new (keeps_self l) step.1
keeps_responded_by (Some place) mac now m alternate s l c result new l_new c_new step =
    keeps_applied now place (outcome_with step.0 s.phase c m None (at_place place l).operation) m.attributes.realm m.attributes.nonce
    s l c result new l_new c_new step.2

pub keeps_responded : (mac : List ℕ → List ℕ → List ℕ) (now : Instant) (m : Message) (alternate : Option SocketAddr) (s : Session)
    (l : List Lease) (c : Option Credentials) (result : Receipt) (new : Session) (l_new : List Lease) (c_new : Option Credentials)
    → IsResponded mac now m alternate s l c result new l_new c_new → (l_new ≡ []) ⊎ KeepsPlaces l l_new
keeps_responded mac now m alternate s l c result new l_new c_new step =
    keeps_responded_by (position (is_answered_by m) l) mac now m alternate s l c result new l_new c_new step

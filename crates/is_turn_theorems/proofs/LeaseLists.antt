-- What holds of the leases of a client, if it holds after each change of one lease that a call makes.
use Rattle.std.proofs.Common.{◌≡◌, ℕ, ◌+◌, ◌≤◌, ◌<◌, Bool, true, false, List, Option, Some, None, is_some, length, set, position, nat_lt, refl, sym, ap, subst, ◌∙◌, inl, inr, ◌⊎◌}
use Rattle.is_turn_theorems.proofs.Common.{added_at, alive_or_nothing, asked_again, at_place, Attempt, cases_eq, cases_lt, channel_added_at, channel_named_by, client_packet, get_or-set_other}
use Rattle.is_turn_theorems.proofs.Common.{get_or-set_same, heard_at, heard_by, heard_data, heard_peer, Instant, ip_of, is_channel_of, is_free, is_held_back, is_open, is_permission_of, is_ready}
use Rattle.is_turn_theorems.proofs.Common.{is_reported, is_to_be_sent, Lease, lease_packet_at, lease_packet_of, lease_polled, lease_polled_in, lease_request, leases_after_event, leases_after_poll}
use Rattle.is_turn_theorems.proofs.Common.{may_permit, named_in, new_lease, Operation, packet_after, packet_due, packet_or, permits_peer, permitted_by, plain, reported, reported_at, request_or}
use Rattle.is_turn_theorems.proofs.Common.{routed, routed_if, Session, set_past, SocketAddr, TransId, unused, used_at, used_in, with_channel, without_report}
use Rattle.std.proofs.lemmas.List.Quantifiers.{position-Some}
use Rattle.std.specs.Prelude.{Result, Ok, Err}
use Rattle.is_proto.specs.declared.error.StunError.{StunError}
use Rattle.is_turn_theorems.proofs.OtherCalls.{through}

-- ---- a lease in a place

abbrev pub AtSet : List Lease → ℕ → Lease → ℕ → Type 0
AtSet l i g k = (k ≡ i) × (at_place k (set l i g) ≡ g) ⊎ (at_place k (set l i g) ≡ at_place k l)

at_set_by : (l : List Lease) (i k : ℕ) (g : Lease) → i < length l → (k ≡ i) ⊎ (k ≡ i → ⊥) → AtSet l i g k
at_set_by l i k g h (inl e) = inl (e, ap (λ (j : ℕ). at_place j (set l i g)) e ∙ get_or-set_same l i g unused h)
at_set_by l i k g h (inr other) = inr (get_or-set_other l i k g unused other)

at_set_in : (l : List Lease) (i k : ℕ) (g : Lease) → (i < length l) ⊎ (length l ≤ i) → AtSet l i g k
at_set_in l i k g (inl h) = at_set_by l i k g h (cases_eq k i)
at_set_in l i k g (inr h) = inr (ap (at_place k) (set_past l i g h))

-- what is at a place after a lease was put in one
pub at_set : (l : List Lease) (i k : ℕ) (g : Lease) → AtSet l i g k
at_set l i k g = at_set_in l i k g (cases_lt i (length l))

keep_or_by : (P Q : Lease → Type 0) (p q : ℕ) (l : List Lease) (g : Lease) → (p ≡ q → P (at_place q l) → Q g) → (P (at_place p l) → Q (at_place p l))
    → P (at_place p l) → AtSet l q g p → Q (at_place p (set l q g))
keep_or_by P Q p q l g f same h (inl (e, put)) = subst Q (sym put) (f e (subst (λ (j : ℕ). P (at_place j l)) e h))
keep_or_by P Q p q l g f same h (inr kept) = subst Q (sym kept) (same h)

-- what holds of the lease in a place after a lease was put in one
pub keep_or : (P Q : Lease → Type 0) (p q : ℕ) (l : List Lease) (g : Lease) → (P (at_place q l) → Q g) → (P (at_place p l) → Q (at_place p l))
    → P (at_place p l) → Q (at_place p (set l q g))
keep_or P Q p q l g f same h = keep_or_by P Q p q l g (λ e x. f x) same h (at_set l q p g)

pub keep_set : (P : Lease → Type 0) (p q : ℕ) (l : List Lease) (g : Lease) → (p ≡ q → P (at_place q l) → P g) → P (at_place p l) → P (at_place p (set l q g))
keep_set P p q l g f h = keep_or_by P P p q l g f (λ x. x) h (at_set l q p g)

-- ---- each change of a lease

pub record Closed (R : List Lease → Type 0) (now : Instant) : Type 0 where
  pub used : (q : ℕ) (l : List Lease) → R l → R (set l q (used_at now (at_place q l)))
  pub again : (q : ℕ) (l : List Lease) → is_some (at_place q l).barred ≡ true → R l → R (set l q (asked_again now (at_place q l)))
  pub new : (q : ℕ) (l : List Lease) (peer : SocketAddr) (number : Option ℕ) → is_free now (at_place q l) ≡ true → R l → R (set l q (new_lease peer number now))
  pub polled : (q : ℕ) (l : List Lease) → R l → R (set l q (lease_polled (at_place q l)))
  pub reported : (q : ℕ) (l : List Lease) → R l → R (set l q (without_report (at_place q l)))

free_at : (now : Instant) (q : ℕ) (l : List Lease) → position (is_free now) l ≡ Some q → is_free now (at_place q l) ≡ true
free_at now q l e = (position-Some (is_free now) l q unused e).1

module _ (R : List Lease → Type 0) (now : Instant) (c : Closed R now) where
  -- ---- the user

  named_keeps : (q : ℕ) (l : List Lease) → R l → R (named_in now q l).0
  named_keeps q l h =
      through (named_in now q l) (λ x. R x.0) (is_held_back now (at_place q l)) _ _ (λ e. h)
      (λ e. through (at_place q l) (λ g. R (set l q g)) (is_some (at_place q l).barred) (asked_again now (at_place q l)) (used_at now (at_place q l))
      (λ barred. c.again q l barred h) (λ fine. c.used q l h))

  added_keeps : (peer : SocketAddr) (p : Option ℕ) (l : List Lease) → position (is_free now) l ≡ p → R l → R (added_at (new_lease peer None now) p l).0
  added_keeps peer None l e h = h
  added_keeps peer (Some q) l e h = c.new q l peer None (free_at now q l e) h

  permitted_keeps : (ip : SocketAddr) (p : Option ℕ) (l : List Lease) → R l → R (permitted_by now ip p l).0
  permitted_keeps ip None l h = added_keeps ip (position (is_free now) l) l refl h
  permitted_keeps ip (Some q) l h = named_keeps q l h

  pub permits_keep : (peer : SocketAddr) (s : Session) (l : List Lease) → R l → R (permits_peer now peer s l).0
  permits_keep peer s l h =
      through (permits_peer now peer s l) (λ x. R x.0) (may_permit peer s) _ _
      (λ e. permitted_keeps (ip_of peer) (position (is_permission_of (ip_of peer)) l) l h) (λ e. h)

  channel_added_keeps : (peer : SocketAddr) (p : Option ℕ) (l : List Lease) → position (is_free now) l ≡ p → R l → R (channel_added_at now peer p l)
  channel_added_keeps peer None l e h = h
  channel_added_keeps peer (Some q) l e h =
      through l R (nat_lt q 4096) (set l q (new_lease peer (Some (0x4000 + q)) now)) l
      (λ few. c.new q l peer (Some (0x4000 + q)) (free_at now q l e) h) (λ many. h)

  channel_keeps : (peer : SocketAddr) (p : Option ℕ) (l : List Lease) → R l → R (channel_named_by now peer p l)
  channel_keeps peer None l h = channel_added_keeps peer (position (is_free now) l) l refl h
  channel_keeps peer (Some q) l h = named_keeps q l h

  routed_if_keeps : (b : Bool) (peer : SocketAddr) (media : Bool) (l : List Lease) → R l → R (routed_if b now peer media l).0
  routed_if_keeps false peer media l h = h
  routed_if_keeps true peer media l h =
      through l R media (with_channel now peer l) l (λ e. channel_keeps peer (position (is_channel_of peer) l) l h) (λ e. h)

  pub routed_keeps : (peer : SocketAddr) (media : Bool) (s : Session) (l : List Lease) → R l → R (routed now peer media s l).0
  routed_keeps peer media s l h =
      let asked = permits_peer now peer s l in
      through (routed now peer media s l) (λ x. R x.0) (is_ready s.phase) _ _
      (λ e. routed_if_keeps asked.1 (plain peer) media asked.0 (permits_keep peer s l h)) (λ e. h)

  -- ---- data

  used_keeps : (p : Option ℕ) (l : List Lease) → R l → R (used_in now p l)
  used_keeps None l h = h
  used_keeps (Some q) l h = c.used q l h

  heard_by_keeps : (peer : SocketAddr) (q : ℕ) (l : List Lease) → R l → R (heard_by now peer q l).0
  heard_by_keeps peer q l h =
      let m = set l q (used_at now (at_place q l)) in
      through (heard_by now peer q l) (λ x. R x.0) (is_open (at_place q l)) _ _
      (λ e. used_keeps (position (is_channel_of peer) m) m (c.used q l h)) (λ e. h)

  heard_at_keeps : (peer : SocketAddr) (p : Option ℕ) (l : List Lease) → R l → R (heard_at now peer p l).0
  heard_at_keeps peer None l h = h
  heard_at_keeps peer (Some q) l h = heard_by_keeps peer q l h

  heard_peer_keeps : (peer : Option SocketAddr) (contents : List ℕ) (l : List Lease) → R l → R (heard_peer now peer contents l).1
  heard_peer_keeps None contents l h = h
  heard_peer_keeps (Some peer) contents l h = heard_at_keeps peer (position (is_permission_of (ip_of peer)) l) l h

  pub heard_keeps : (peer : Option SocketAddr) (contents : List ℕ) (s : Session) (l : List Lease) → R l → R (heard_data now peer contents s l).1
  heard_keeps peer contents s l h =
      through (heard_peer now peer contents l) (λ x. R x.1) (is_ready s.phase) _ _ (λ e. heard_peer_keeps peer contents l h) (λ e. h)

  -- ---- polls

  quiet_polled : (alive : Option TransId) (l : List Lease) → R l → R (lease_polled_in (alive_or_nothing alive) l)
  quiet_polled None l h = h
  quiet_polled (Some id) l h = h

  last_polled : (q : ℕ) (o : Operation) (a : Option Attempt) (alive : Option TransId) (l : List Lease) → R l
      → R (lease_polled_in (lease_request q o.request a (alive_or_nothing alive)) l)
  last_polled q o None alive l h = quiet_polled alive l h
  last_polled q o (Some a) alive l h = c.polled q l h

  lease_of_polled : (q : ℕ) (o : Option Operation) (alive : Option TransId) (l : List Lease) → R l
      → R (lease_polled_in (lease_packet_of q o (alive_or_nothing alive)) l)
  lease_of_polled q None alive l h = quiet_polled alive l h
  lease_of_polled q (Some o) alive l h = last_polled q o o.attempts.last alive l h

  lease_at_polled : (p : Option ℕ) (alive : Option TransId) (l : List Lease) → R l → R (lease_polled_in (lease_packet_at p l (alive_or_nothing alive)) l)
  lease_at_polled None alive l h = quiet_polled alive l h
  lease_at_polled (Some q) alive l h = lease_of_polled q (at_place q l).operation alive l h

  alive_polled : (alive : Option TransId) (l : List Lease) → R l → R (lease_polled_in (packet_after (alive_or_nothing alive) l) l)
  alive_polled None l h = lease_at_polled (position is_to_be_sent l) None l h
  alive_polled (Some id) l h = lease_at_polled (position is_to_be_sent l) (Some id) l h

  request_polled : (o : Operation) (a : Option Attempt) (s : Session) (l : List Lease) → R l
      → R (lease_polled_in (packet_after (request_or o.request a (alive_or_nothing s.alive)) l) l)
  request_polled o None s l h = alive_polled s.alive l h
  request_polled o (Some a) s l h = h

  packet_polled_keeps : (o : Option Operation) (s : Session) (l : List Lease) → R l
      → R (lease_polled_in (packet_after (packet_or o (alive_or_nothing s.alive)) l) l)
  packet_polled_keeps None s l h = alive_polled s.alive l h
  packet_polled_keeps (Some o) s l h =
      through (packet_due s) (λ x. R (lease_polled_in (packet_after x l) l)) o.is_waiting _ _ (λ e. request_polled o o.attempts.last s l h)
      (λ e. alive_polled s.alive l h)

  pub polled_keeps : (result : Result (Option ℕ) StunError) (s : Session) (l : List Lease) → R l → R (leases_after_poll result (client_packet s l) l)
  polled_keeps (Ok None) s l h = h
  polled_keeps (Ok (Some n)) s l h = packet_polled_keeps s.operation s l h
  polled_keeps (Err e) s l h = h

  reported_keeps : (p : Option ℕ) (l : List Lease) → R l → R (reported_at p l).0
  reported_keeps None l h = h
  reported_keeps (Some q) l h = c.reported q l h

  pub events_keep : (s : Session) (l : List Lease) → R l → R (leases_after_event s l)
  events_keep s l h =
      through l R (is_some s.made) l (reported l).0 (λ e. h) (λ e. reported_keeps (position is_reported l) l h)

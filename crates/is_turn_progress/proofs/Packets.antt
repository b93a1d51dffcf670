-- What the packet is that a client has to send: nothing, a keep-alive, the request of the allocation, or that of a lease.
use Rattle.std.proofs.Common.{ℕ, Bool, true, false, cond, List, Option, Some, None, position}
use Rattle.is_turn_progress.proofs.Common.{alive_or_nothing, at_place, Attempt, client_packet, is_to_be_sent, Lease, lease_packet_at, lease_packet_of, lease_request, Operation, packet_after}
use Rattle.is_turn_progress.proofs.Common.{packet_or, Request, request_or, Session, TransId}

request_case : (F : _ → Type 0) (place : ℕ) (r : Request) (last : Option Attempt) (alive : Option TransId) → F (alive_or_nothing alive)
    → ((place : ℕ) (r : Request) (a : Attempt) → F (lease_request place r (Some a) (alive_or_nothing None)))
    → F (lease_request place r last (alive_or_nothing alive))
request_case F place r None alive other lease = other
request_case F place r (Some a) alive other lease = lease place r a

lease_case : (F : _ → Type 0) (place : ℕ) (o : Option Operation) (alive : Option TransId) → F (alive_or_nothing alive)
    → ((place : ℕ) (r : Request) (a : Attempt) → F (lease_request place r (Some a) (alive_or_nothing None)))
    → F (lease_packet_of place o (alive_or_nothing alive))
lease_case F place None alive other lease = other
lease_case F place (Some o) alive other lease = request_case F place o.request o.attempts.last alive other lease

place_case : (F : _ → Type 0) (p : Option ℕ) (l : List Lease) (alive : Option TransId) → F (alive_or_nothing alive)
    → ((place : ℕ) (r : Request) (a : Attempt) → F (lease_request place r (Some a) (alive_or_nothing None)))
    → F (lease_packet_at p l (alive_or_nothing alive))
place_case F None l alive other lease = other
place_case F (Some place) l alive other lease = lease_case F place (at_place place l).operation alive other lease

after_case : (F : _ → Type 0) (alive : Option TransId) (l : List Lease) → ((alive : Option TransId) → F (alive_or_nothing alive))
    → ((place : ℕ) (r : Request) (a : Attempt) → F (lease_request place r (Some a) (alive_or_nothing None)))
    → F (packet_after (alive_or_nothing alive) l)
after_case F None l other lease = place_case F (position is_to_be_sent l) l None (other None) lease
after_case F (Some id) l other lease = place_case F (position is_to_be_sent l) l (Some id) (other (Some id)) lease

waits_case : (F : _ → Type 0) (waits : Bool) (r : Request) (last : Option Attempt) (alive : Option TransId) (l : List Lease)
    → ((alive : Option TransId) → F (alive_or_nothing alive))
    → ((r : Request) (a : Attempt) → F (request_or r (Some a) (alive_or_nothing None)))
    → ((place : ℕ) (r : Request) (a : Attempt) → F (lease_request place r (Some a) (alive_or_nothing None)))
    → F (packet_after (cond waits (request_or r last (alive_or_nothing alive)) (alive_or_nothing alive)) l)
waits_case F false r last alive l other request lease = after_case F alive l other lease
waits_case F true r None alive l other request lease = after_case F alive l other lease
waits_case F true r (Some a) alive l other request lease = request r a

operation_case : (F : _ → Type 0) (o : Option Operation) (alive : Option TransId) (l : List Lease)
    → ((alive : Option TransId) → F (alive_or_nothing alive))
    → ((r : Request) (a : Attempt) → F (request_or r (Some a) (alive_or_nothing None)))
    → ((place : ℕ) (r : Request) (a : Attempt) → F (lease_request place r (Some a) (alive_or_nothing None)))
    → F (packet_after (packet_or o (alive_or_nothing alive)) l)
operation_case F None alive l other request lease = after_case F alive l other lease
operation_case F (Some o) alive l other request lease = waits_case F o.is_waiting o.request o.attempts.last alive l other request lease

pub packet_case : (F : _ → Type 0) (s : Session) (l : List Lease)
    → ((alive : Option TransId) → F (alive_or_nothing alive))
    → ((r : Request) (a : Attempt) → F (request_or r (Some a) (alive_or_nothing None)))
    → ((place : ℕ) (r : Request) (a : Attempt) → F (lease_request place r (Some a) (alive_or_nothing None)))
    → F (client_packet s l)
packet_case F s l other request lease = operation_case F s.operation s.alive l other request lease

-- A client with a request, in any phase: what polls leave of it.
use Rattle.std.proofs.Common.{◌≡◌, ℕ, Bool, true, false, cond, List, Option, Some, None, is_some, Result, Ok, Err, refl}
use Rattle.is_turn_progress.proofs.Common.{after_event, after_poll, alive_or_nothing, Allocation, client_packet, Lease, Operation, packet_polled, Phase, polled, reported, reported_by, Session}
use Rattle.is_turn_progress.proofs.Common.{session_after_event, StunError, TransId}
use Rattle.is_turn_progress.proofs.Packets.{packet_case}

-- ---- a client in a phase, with a request

abbrev pub held : Phase → Session → Operation → Session
held p b o = record b { phase = p; operation = Some o }

-- its session, with the same request
pub record Held (p : Phase) (b : Session) (o : Operation) (new : Session) : Type 0 where
  pub base : Session
  pub operation : Operation
  pub is : new ≡ held p base operation
  pub paced : base.paced.0 ≡ b.paced.0
  pub timing : base.timing ≡ b.timing
  pub request : operation.request ≡ o.request
  pub fresh : operation.is_fresh ≡ o.is_fresh
  pub due : operation.due.0 ≡ o.due.0
  pub attempts : operation.attempts ≡ o.attempts
  pub sent : operation.sent ≡ o.sent

pub held_as : (p : Phase) (b : Session) (o : Operation) (new : Session) → new ≡ held p b o → Held p b o new
held_as p b o new h = record {
  base = b;
  operation = o;
  is = h;
  paced = refl;
  timing = refl;
  request = refl;
  fresh = refl;
  due = refl;
  attempts = refl;
  sent = refl;
}

held_alive : (p : Phase) (alive : Option TransId) (b : Session) (o : Operation) → Held p b o (packet_polled (alive_or_nothing alive) (held p b o))
held_alive p None b o = held_as p b o (held p b o) refl
held_alive p (Some id) b o = record {
  base = record b { alive = None };
  operation = o;
  is = refl;
  paced = refl;
  timing = refl;
  request = refl;
  fresh = refl;
  due = refl;
  attempts = refl;
  sent = refl;
}

held_request : (p : Phase) (b : Session) (o : Operation) → Held p b o (held p b (polled o))
held_request p b o = record {
  base = b;
  operation = polled o;
  is = refl;
  paced = refl;
  timing = refl;
  request = refl;
  fresh = refl;
  due = refl;
  attempts = refl;
  sent = refl;
}

held_packet : (p : Phase) (b : Session) (o : Operation) (l : List Lease) → Held p b o (packet_polled (client_packet (held p b o) l) (held p b o))
held_packet p b o l =
    packet_case (λ packet. Held p b o (packet_polled packet (held p b o))) (held p b o) l (λ alive. held_alive p alive b o) (λ r a. held_request p b o)
    (λ place r a. held_as p b o (held p b o) refl)

pub held_poll : (p : Phase) (result : Result (Option ℕ) StunError) (b : Session) (o : Operation) (l : List Lease)
    → Held p b o (after_poll result (client_packet (held p b o) l) (held p b o))
held_poll p (Ok None) b o l = held_as p b o (held p b o) refl
held_poll p (Ok (Some n)) b o l = held_packet p b o l
held_poll p (Err e) b o l = held_as p b o (held p b o) refl

held_reported : (p : Phase) (made : Option Allocation) (b : Session) (o : Operation) → Held p b o (reported_by made (held p b o))
held_reported p None b o = record {
  base = record b { ending = None };
  operation = o;
  is = refl;
  paced = refl;
  timing = refl;
  request = refl;
  fresh = refl;
  due = refl;
  attempts = refl;
  sent = refl;
}
held_reported p (Some made) b o = record {
  base = record b { made = None };
  operation = o;
  is = refl;
  paced = refl;
  timing = refl;
  request = refl;
  fresh = refl;
  due = refl;
  attempts = refl;
  sent = refl;
}

held_cond : (p : Phase) (t : Bool) (b : Session) (o : Operation) (x y : Session) → Held p b o x → Held p b o y → Held p b o (cond t x y)
held_cond p true b o x y h k = h
held_cond p false b o x y h k = k

pub held_event : (p : Phase) (l : List Lease) (b : Session) (o : Operation) → Held p b o (session_after_event (held p b o) l)
held_event p l b o =
    let after = held_reported p b.made b o in
    held_cond p (is_some b.made) b o (after_event (held p b o)) (cond (is_some (reported l).1) (held p b o) (after_event (held p b o))) after
    (held_cond p (is_some (reported l).1) b o (held p b o) (after_event (held p b o)) (held_as p b o (held p b o) refl) after)

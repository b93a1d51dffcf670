-- Why a datagram counts for a client, and what one that does not count changes (RFC 8489, section 9.2.5).
use Rattle.std.specs.Prelude.{◌≡◌, ◌⊎◌, ℕ, true, List, map, Option, Some, None, is_some}
use Rattle.is_stun.specs.Message.{Message}
use Rattle.is_turn.specs.declared.attempts.Attempt.{Attempt}
use Rattle.is_turn.specs.declared.lease.Lease.{Lease}
use Rattle.is_turn.specs.declared.operation.Operation.{Operation}
use Rattle.is_turn.specs.declared.session.Session.{Session}
use Rattle.is_turn.specs.Client.{at_time}
use Rattle.is_turn.specs.Credentials.{Credentials}
use Rattle.is_turn.specs.Incoming.{datagram_of, response}
use Rattle.is_turn.specs.LeaseResponses.{with_changed}
use Rattle.is_turn.specs.Leases.{changed}
use Rattle.is_turn.specs.Operations.{doubted, takes_challenge}
use Rattle.is_turn.specs.Outcome.{answered_in, code_or_success, is_last_sent, is_unknown}
use Rattle.is_turn.specs.Places.{at_place}
use Rattle.is_turn.specs.Relaying.{kept_leases}
use Rattle.is_turn.specs.Turn.{with_doubt}
use Rattle.is_turn.specs.Verdict.{IsSignedFor, is_challenge, code_of}

-- ---- why a response counts

-- an unsigned 300 to an attempt that was not signed
abbrev pub IsFirst300 : Message → Attempt → Type 0
IsFirst300 m a = (code_of m ≡ Some 300) × (a.key ≡ None)

-- 401 or 438 to the last attempt, within the limits
abbrev pub IsChallengeTo : Message → Operation → Attempt → Type 0
IsChallengeTo m o a = (is_challenge (code_of m) ≡ true) × (takes_challenge a.id (is_some a.key) (code_or_success m) o ≡ true)

-- any to the last attempt, while the client has its password
abbrev pub IsHintTo : Option Credentials → Operation → Attempt → Type 0
IsHintTo c o a = (is_unknown c ≡ true) × (is_last_sent a o ≡ true)

-- there are no credentials; or it is signed with the key of the attempt that it answers; or it is unsigned, and one of these
abbrev pub Grounds : (List ℕ → List ℕ → List ℕ) → Message → Option Credentials → Operation → Attempt → Type 0
Grounds mac m c o a =
    (c ≡ None) ⊎ (IsSignedFor mac m a.key ⊎ ((m.integrity ≡ None) × (IsFirst300 m a ⊎ (IsChallengeTo m o a ⊎ IsHintTo c o a))))

-- the request is the client's: for the allocation, or for a lease
abbrev pub IsPending : Operation → Session → List Lease → Type 0
IsPending o s l = (s.operation ≡ Some o) ⊎ ((place : ℕ) × ((at_place place l).operation ≡ Some o))

-- the datagram is a response to an attempt of a pending request, by method, class and transaction ID, and counts
pub record HasGrounds (mac : List ℕ → List ℕ → List ℕ) (bytes : List ℕ) (s : Session) (l : List Lease) (c : Option Credentials) : Type 0 where
  pub message : Message
  pub read : datagram_of bytes ≡ response message
  pub request : Operation
  pub pending : IsPending request s l
  pub attempt : Attempt
  pub answers : answered_in message request ≡ Some attempt
  pub grounds : Grounds mac message c request attempt

-- ---- what another datagram changes

-- a code for the log, of one pending request; an ended client has no leases
abbrev pub IsDoubtOfSession : Session → List Lease → Session → List Lease → Type 0
IsDoubtOfSession s l new l_new = (code : ℕ) × (new ≡ with_doubt code s) × (l_new ≡ kept_leases s l)

abbrev pub IsDoubtOfLease : Session → List Lease → Session → List Lease → Type 0
IsDoubtOfLease s l new l_new = (place : ℕ) × (code : ℕ) × (new ≡ s) × (l_new ≡ with_changed place (changed (doubted code)) l)

abbrev pub IsSame : Session → List Lease → Session → List Lease → Type 0
IsSame s l new l_new = (new ≡ s) × ((l_new ≡ l) ⊎ (l_new ≡ kept_leases s l))

-- a lease, except when it was used
abbrev pub unclocked : Lease → Lease
unclocked g = record g { used = at_time 0 }

-- when leases were used
abbrev pub IsUseOnly : Session → List Lease → Session → List Lease → Type 0
IsUseOnly s l new l_new = (new ≡ s) × (map unclocked l_new ≡ map unclocked l)

-- nothing, or the doubt of one request, or when leases were used; and no credentials
abbrev pub ChangesLittle : Session → List Lease → Option Credentials → Session → List Lease → Option Credentials → Type 0
ChangesLittle s l c new l_new c_new =
    (c_new ≡ c) × (IsSame s l new l_new ⊎ (IsDoubtOfSession s l new l_new ⊎ (IsDoubtOfLease s l new l_new ⊎ IsUseOnly s l new l_new)))

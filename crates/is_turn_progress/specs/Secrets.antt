-- What a client keeps secret: its password and the keys that it makes of it.
use Rattle.std.specs.Prelude.{◌≡◌, ℕ, List, [], ◌∷◌, map, Option, Some, None, option_map}
use Rattle.std.specs.declared.net.socket_addr.SocketAddr.{SocketAddr}
use Rattle.is_stun.specs.declared.requested.AddressFamily.{AddressFamily}
use Rattle.is_turn.specs.declared.attempts.Attempt.{Attempt}
use Rattle.is_turn.specs.declared.attempts.Attempts.{Attempts}
use Rattle.is_turn.specs.declared.lease.Lease.{Lease}
use Rattle.is_turn.specs.declared.operation.Operation.{Operation}
use Rattle.is_turn.specs.declared.session.Phase.{Phase}
use Rattle.is_turn.specs.declared.session.Phase.TheVariants as phases
use Rattle.is_turn.specs.declared.session.Session.{Session}
use Rattle.is_turn.specs.declared.timing.ClientTiming.{ClientTiming}
use Rattle.is_turn.specs.Credentials.{Credentials, Challenge}
use Rattle.is_turn.specs.Session.{new_session}
use Rattle.is_turn.specs.Turn.{key_now}
use Rattle.is_turn_progress.specs.States.{State}

-- ---- a client without its secrets: whether there is a password, and which attempts are signed, can be seen

abbrev pub keyless_attempt : Attempt → Attempt
keyless_attempt a = record a { key = option_map (λ k. []) a.key }

abbrev pub keyless_attempts : Attempts → Attempts
keyless_attempts a = record {
  last = option_map keyless_attempt a.last;
  second = option_map keyless_attempt a.second;
  third = option_map keyless_attempt a.third;
  fourth = option_map keyless_attempt a.fourth;
  fifth = option_map keyless_attempt a.fifth;
  sixth = option_map keyless_attempt a.sixth;
}

abbrev pub keyless_operation : Operation → Operation
keyless_operation o = record o { attempts = keyless_attempts o.attempts }

abbrev pub keyless_session : Session → Session
keyless_session s = record s { operation = option_map keyless_operation s.operation }

abbrev pub keyless_lease : Lease → Lease
keyless_lease g = record g { operation = option_map keyless_operation g.operation }

abbrev pub keyless_challenge : Challenge → Challenge
keyless_challenge c = record c { key = [] }

abbrev pub without_secrets : Credentials → Credentials
without_secrets c = record c { password = option_map (λ p. []) c.password; challenge = option_map keyless_challenge c.challenge }

-- each text has the same MAC under both keys
abbrev pub SameMacs : (List ℕ → List ℕ → List ℕ) → Option (List ℕ) → Option (List ℕ) → Type 0
SameMacs mac (Some key) (Some other) = (text : List ℕ) → mac key text ≡ mac other text
SameMacs mac None other = Unit {0}
SameMacs mac (Some key) None = Unit {0}

-- two clients that differ only in their passwords and keys, and whose MACs are the same
pub record LookAlike (mac : List ℕ → List ℕ → List ℕ) (x y : State) : Type 0 where
  pub session : keyless_session x.session ≡ keyless_session y.session
  pub leases : map keyless_lease x.leases ≡ map keyless_lease y.leases
  pub credentials : option_map without_secrets x.credentials ≡ option_map without_secrets y.credentials
  pub macs : SameMacs mac (key_now x.credentials) (key_now y.credentials)

-- ---- when they are forgotten

abbrev pub password_of : Option Credentials → Option (List ℕ)
password_of None = None
password_of (Some c) = c.password

-- Until the server has answered, the password is needed. With an allocation there is none; after the end there are no credentials, no request
-- and no leases, and so no key.
abbrev pub IsForgotten : Phase → Option Operation → Option Credentials → List Lease → Type 0
IsForgotten phases.New o c l = Unit {0}
IsForgotten phases.Asking o c l = Unit {0}
IsForgotten phases.Leaving o c l = Unit {0}
IsForgotten phases.Ready o c l = password_of c ≡ None
IsForgotten phases.Closing o c l = password_of c ≡ None
IsForgotten phases.Ended o c l = (c ≡ None) × (l ≡ []) × (o ≡ None)

abbrev pub Forgets : State → Type 0
Forgets x = IsForgotten x.session.phase x.session.operation x.credentials x.leases

-- a client as it is made
pub record IsNewClient (x : State) : Type 0 where
  pub server : SocketAddr
  pub family : Option AddressFamily
  pub timing : ClientTiming
  pub lifetime : ℕ
  pub session : x.session ≡ new_session server family timing lifetime

-- after each call
abbrev pub AlwaysForgets : List State → Type 0
AlwaysForgets [] = Unit {0}
AlwaysForgets (x ∷ rest) = Forgets x × AlwaysForgets rest

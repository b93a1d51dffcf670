-- What the caller says to all clients of servers, the clock, and questions.
use Rattle.std.specs.Prelude.{◌≡◌, ℕ, List, length, nat_lt, MatchBool, MatchOption, ℤ}
use Rattle.std.specs.declared.net.socket_addr.SocketAddr.{SocketAddr}
use Rattle.rand_core.specs.Stream.{Stream}
use Rattle.rand_core.specs.Steps.{stream_of}
use Rattle.is_servers.specs.declared.transport.Transport.{Transport}
use Rattle.is_servers.specs.Calls.{TimesOut}
use Rattle.is_servers.specs.Servers.{AsksPermissions, ProbesAll, ClosesAll, Loses, next_time, is_gathering}
use Rattle.is_c.specs.ServersHeld.{Clients, Succeeds, Fails, at_time}
use Rattle.is_c_calls.specs.Codes.{OK, NOTHING, TOO_FEW_RANDOM_BYTES, found_code}
use Rattle.is_c_calls.specs.Random.{given_steps}

-- `is_ice_servers_permit`
abbrev pub PermitsAt : ℕ → SocketAddr → Clients → ℤ → Clients → Type 0
PermitsAt now peer old code new = Succeeds (AsksPermissions (at_time now) peer) old code new

-- `is_ice_servers_probe`
abbrev pub ProbesAt : ℕ → Clients → ℤ → Clients → Type 0
ProbesAt now old code new = Succeeds (ProbesAll (at_time now)) old code new

-- `is_ice_servers_close`
abbrev pub ClosesAt : ℕ → Clients → ℤ → Clients → Type 0
ClosesAt now old code new = Succeeds (ClosesAll (at_time now)) old code new

-- `is_ice_servers_lose`
abbrev pub LosesEnd : Transport × SocketAddr → Clients → ℤ → Clients → Type 0
LosesEnd end old code new = Succeeds (Loses end.0 end.1) old code new

-- the random bytes are drawn in order
abbrev pub RunsDue : ℕ → List ℕ → Clients → Clients → Type 0
RunsDue now random old new = (left : Stream) × TimesOut (at_time now) (stream_of given_steps random) left old new

-- `is_ice_servers_handle_timeout`
abbrev pub TimesOutAt : ℕ → List ℕ → Clients → ℤ → Clients → Type 0
TimesOutAt now random old code new =
    MatchBool (nat_lt (length random) 12) (Fails TOO_FEW_RANDOM_BYTES old code new) (Succeeds (RunsDue now random) old code new)

-- `is_ice_servers_poll_timeout`: a query
abbrev pub ReturnsNextTime : ℕ → ℕ → Clients → ℤ → Clients → Type 0
ReturnsNextTime before after old code new =
    MatchOption (next_time old) ((code ≡ NOTHING) × (after ≡ before)) (λ time. (code ≡ OK) × (after ≡ time.0)) × (new ≡ old)

-- `is_ice_servers_gathering`: a query
abbrev pub ReturnsGathering : Clients → ℤ → Clients → Type 0
ReturnsGathering old code new = (code ≡ found_code (is_gathering old)) × (new ≡ old)

-- What a slot of clients of servers holds, and what the relations of the calls have in common.
use Rattle.std.specs.Prelude.{◌≡◌, ℕ, ◌⊎◌, ◌==◌, List, [], Option, Some, None, option_map, if◌then◌else◌, ℤ, pos, negsuc}
use Rattle.std.specs.Option.{option_and_then}
use Rattle.std.specs.declared.net.socket_addr.SocketAddr.{SocketAddr}
use Rattle.is_proto.specs.declared.hmac_provider.DefaultSha1HmacProvider.{DefaultSha1HmacProvider}
use Rattle.is_proto.specs.declared.proto.Instant.{Instant}
use Rattle.is_servers.specs.declared.servers.Servers.{Servers}
use Rattle.is_servers.specs.declared.transport.Transport.{Transport}
use Rattle.is_servers.specs.declared.transport.Transport.TheVariants.{Udp, Tcp}
use Rattle.is_servers.specs.Servers.{mappings_of, udp_of, tcp_of, IsSame}
use Rattle.is_c.specs.declared.servers.ends.Ends.{Ends}
use Rattle.is_c.specs.declared.servers.held.HeldServers.{HeldServers}
use Rattle.is_c.specs.declared.servers.slot.ServersSlot.{ServersSlot}
use Rattle.is_c_calls.specs.declared.address.Address.{Address}
use Rattle.is_c_calls.specs.Addresses.{socket_of}
use Rattle.is_c_calls.specs.Codes.{OK, BAD_ADDRESS, OUT_OF_MEMORY}

-- ---- codes

abbrev pub NO_RELAY : ℤ
NO_RELAY = pos 18

abbrev pub BAD_URL : ℤ
BAD_URL = negsuc 18

abbrev pub NO_SERVERS : ℤ
NO_SERVERS = negsuc 19

abbrev pub HAS_SERVERS : ℤ
HAS_SERVERS = negsuc 20

-- ---- what is held

abbrev pub Clients : Type 0
Clients = Servers DefaultSha1HmacProvider

abbrev pub clients_of : HeldServers → Clients
clients_of held = held.servers

abbrev pub clients_held : ServersSlot → Option Clients
clients_held slot = option_map clients_of slot.handle.held

-- there is no client
pub record AreNone (s : Clients) : Type 0 where
  pub mappings : mappings_of s ≡ []
  pub udp : udp_of s ≡ []
  pub tcp : tcp_of s ≡ []

-- `is_ice_servers_new`: a slot that holds clients keeps them
abbrev pub MakesClients : Option Clients → ℤ → Option Clients → Type 0
MakesClients (Some held) code new = (code ≡ HAS_SERVERS) × (new ≡ Some held)
MakesClients None code (Some new) = (code ≡ OK) × AreNone new
MakesClients None code None = code ≡ OUT_OF_MEMORY

-- ---- calls

abbrev pub Mac : Type 0
Mac = DefaultSha1HmacProvider → List ℕ → List ℕ → List ℕ

-- the caller's clock is that of the clients
abbrev pub at_time : ℕ → Instant
at_time now = record { 0 = now }

-- what an export returns and does: without clients nothing, and it returns `NO_SERVERS`
abbrev pub AtClients : (Clients → ℤ → Clients → Type 0) → Option Clients → ℤ → Option Clients → Type 0
AtClients Does None code new = (code ≡ NO_SERVERS) × (new ≡ None)
AtClients Does (Some old) code None = ⊥
AtClients Does (Some old) code (Some new) = Does old code new

-- a call that always succeeds
abbrev pub Succeeds : (Clients → Clients → Type 0) → Clients → ℤ → Clients → Type 0
Succeeds Changes old code new = (code ≡ OK) × Changes old new

-- a call that fails before the library is called
abbrev pub Fails : ℤ → Clients → ℤ → Clients → Type 0
Fails why old code new = (code ≡ why) × (new ≡ old)

-- the library's call, unless there is no memory for it
abbrev pub SucceedsOr : (Clients → Clients → Type 0) → Clients → ℤ → Clients → Type 0
SucceedsOr Changes old code new = ((code ≡ OK) × Changes old new) ⊎ ((code ≡ OUT_OF_MEMORY) × IsSame old new)

-- with what C passes, if it means something: an address, for example
abbrev pub With : {A : Type 0} → Option A → (A → Clients → ℤ → Clients → Type 0) → Clients → ℤ → Clients → Type 0
With None Does old code new = Fails BAD_ADDRESS old code new
With (Some given) Does old code new = Does given old code new

-- ---- sockets, connections and servers

-- over what a client reaches its server
abbrev pub transport_of : ℕ → Option Transport
transport_of n = if n == 0 then Some Udp else (if n == 1 then Some Tcp else None)

-- a socket or connection and its other end, as C passes them
abbrev pub ends_of : ℕ → Address → Address → Option Ends
ends_of protocol local remote =
    option_and_then (λ transport.
    option_and_then (λ here. option_map (λ there. record { transport = transport; local = here; remote = there }) (socket_of remote))
    (socket_of local))
    (transport_of protocol)

-- a socket or connection
abbrev pub end_of : ℕ → Address → Option (Transport × SocketAddr)
end_of protocol local =
    option_and_then (λ transport. option_map (λ here. (transport, here)) (socket_of local)) (transport_of protocol)

-- source and destination of a packet
abbrev pub pair_of : Address → Address → Option (SocketAddr × SocketAddr)
pair_of source destination =
    option_and_then (λ from. option_map (λ to. (from, to)) (socket_of destination)) (socket_of source)

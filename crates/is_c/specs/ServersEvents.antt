-- Events of the clients of servers, as C gets them.
use Rattle.std.specs.Prelude.{◌≡◌, ℕ, true, false, Option, Some, None, ℤ, pos}
use Rattle.std.specs.Option.{unwrap_or}
use Rattle.std.specs.declared.net.ip_addr.IpAddr.{IpAddr}
use Rattle.std.specs.declared.net.ip_addr.IpAddr.TheVariants as ip
use Rattle.std.specs.declared.net.socket_addr.SocketAddr.{SocketAddr}
use Rattle.std.specs.declared.net.socket_addr.SocketAddr.TheVariants.{V4, V6}
use Rattle.is_turn.specs.declared.session.Why.{Why}
use Rattle.is_turn.specs.declared.session.Why.TheVariants.{Failed, Lost, Closed}
use Rattle.is_servers.specs.declared.events.Happened.{Happened}
use Rattle.is_servers.specs.declared.events.Happened.TheVariants.{Mapped, Allocated, NotPermitted, Ended}
use Rattle.is_servers.specs.declared.events.ServerEvent.{ServerEvent}
use Rattle.is_servers.specs.declared.transport.Transport.{Transport}
use Rattle.is_servers.specs.declared.transport.Transport.TheVariants.{Udp, Tcp}
use Rattle.is_servers.specs.Calls.{ReportsNext}
use Rattle.is_c.specs.declared.servers.events.Event.{Event}
use Rattle.is_c.specs.ServersHeld.{Clients, transport_of}
use Rattle.is_c_calls.specs.Addresses.{socket_of}
use Rattle.is_c_calls.specs.Codes.{OK, NOTHING}

abbrev pub why_number : Why → ℤ
why_number Failed = pos 0
why_number Lost = pos 1
why_number Closed = pos 2

-- 0: there was no response
abbrev pub code_number : Option ℕ → ℕ
code_number code = unwrap_or code 0

-- an IP address with port 0
abbrev pub portless : IpAddr → SocketAddr
portless (ip.V4 at) = V4 (record { ip = at; port = 0 })
portless (ip.V6 at) = V6 (record { ip = at; port = 0; flowinfo = 0; scope_id = 0 })

-- over TCP a server sees a connection, whose address no candidate has
abbrev pub mapped_over : Transport → Option SocketAddr → Option SocketAddr
mapped_over Udp mapped = mapped
mapped_over Tcp mapped = None

abbrev pub IsAllocated : Option SocketAddr → SocketAddr → Event → Event → Type 0
IsAllocated None relayed before after =
    (after ≡ record before { kind = pos 2; relayed = after.relayed; has_mapped = false }) × (socket_of after.relayed ≡ Some relayed)
IsAllocated (Some mapped) relayed before after =
    (after ≡ record before { kind = pos 2; relayed = after.relayed; mapped = after.mapped; has_mapped = true })
    × (socket_of after.relayed ≡ Some relayed) × (socket_of after.mapped ≡ Some mapped)

-- what C gets of an event, by its kind; a field that the kind does not have stays as it was
abbrev pub SaysWhat : Transport → Happened → Event → Event → Type 0
SaysWhat transport (Mapped mapped) before after =
    (after ≡ record before { kind = pos 1; mapped = after.mapped }) × (socket_of after.mapped ≡ Some mapped)
SaysWhat transport (Allocated made) before after = IsAllocated (mapped_over transport made.mapped) made.relayed before after
SaysWhat transport (NotPermitted at code) before after =
    (after ≡ record before { kind = pos 3; peer = after.peer; code = code_number code }) × (socket_of after.peer ≡ Some (portless at))
SaysWhat transport (Ended ending) before after =
    after ≡ record before {
      kind = pos 4;
      why = why_number ending.why;
      code = code_number ending.code;
      unverified = code_number ending.unverified;
    }

-- whose it is
pub record IsOf (e : ServerEvent) (before after : Event) : Type 0 where
  pub rest : after ≡ record before { protocol = after.protocol; local = after.local; server = after.server }
  pub protocol : transport_of after.protocol ≡ Some e.transport
  pub local : socket_of after.local ≡ Some e.local
  pub server : socket_of after.server ≡ Some e.server

abbrev pub IsServerEvent : ServerEvent → Event → Event → Type 0
IsServerEvent e before after = (named : Event) × IsOf e before named × SaysWhat e.transport e.what named after

abbrev pub PutsNext : Option ServerEvent → Event → Event → ℤ → Type 0
PutsNext None before after code = (code ≡ NOTHING) × (after ≡ before)
PutsNext (Some e) before after code = (code ≡ OK) × IsServerEvent e before after

-- `is_ice_servers_poll_event`
abbrev pub ReturnsNext : Event → Event → Clients → ℤ → Clients → Type 0
ReturnsNext before after old code new = (e : Option ServerEvent) × ReportsNext old e new × PutsNext e before after code

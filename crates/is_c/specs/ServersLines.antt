-- The line of an event of a client, for a log: what it says, and its text.
use Rattle.std.specs.Prelude.{◌⊎◌, ℕ, ◌==◌, List, [], ◌++◌, codes, decimal, Option, Some, None, option_map, if◌then◌else◌, ℤ, pos, negsuc}
use Rattle.std.specs.Option.{option_and_then}
use Rattle.std.specs.declared.net.socket_addr.SocketAddr.{SocketAddr}
use Rattle.std.specs.Net.Socket.{socket_ip}
use Rattle.std.specs.Net.Text.{ip_text, socket_text}
use Rattle.is_turn.specs.declared.session.Why.{Why}
use Rattle.is_turn.specs.declared.session.Why.TheVariants.{Failed, Lost, Closed}
use Rattle.is_servers.specs.declared.transport.Transport.{Transport}
use Rattle.is_servers.specs.declared.transport.Transport.TheVariants.{Udp, Tcp}
use Rattle.is_c.specs.declared.servers.events.Event.{Event}
use Rattle.is_c.specs.declared.servers.lines.Line.{Line}
use Rattle.is_c.specs.declared.servers.lines.Said.{Said}
use Rattle.is_c.specs.declared.servers.lines.Said.TheVariants.{Maps, Allocates, Bars, Ends}
use Rattle.is_c.specs.ServersHeld.{transport_of}
use Rattle.is_c_calls.specs.Addresses.{socket_of}
use Rattle.is_c_calls.specs.Codes.{BAD_ADDRESS, OUT_OF_MEMORY}
use Rattle.is_c_calls.specs.Texts.{Puts, PutsNone}

-- ---- the words

abbrev pub transport_word : Transport → List ℕ
transport_word Udp = codes "udp"
transport_word Tcp = codes "tcp"

abbrev pub why_word : Why → List ℕ
why_word Failed = codes "failed"
why_word Lost = codes "lost"
why_word Closed = codes "closed"

-- ---- the texts

unfoldable pub mapped_text : Option SocketAddr → List ℕ
mapped_text None = []
mapped_text (Some mapped) = codes ", mapped " ++ socket_text mapped

-- the text of a code, and none of no code
unfoldable pub code_text : ℕ → List ℕ
code_text n = if n == 0 then [] else codes ", " ++ decimal n

unfoldable pub unverified_text : ℕ → List ℕ
unverified_text n = if n == 0 then [] else codes ", unverified " ++ decimal n

-- as `allocated 192.0.2.1:49152, mapped 203.0.113.5:61000`, or `ended, lost, 437`
unfoldable pub said_text : Said → List ℕ
said_text (Maps mapped) = codes "mapped " ++ socket_text mapped
said_text (Allocates relayed mapped) = codes "allocated " ++ socket_text relayed ++ mapped_text mapped
said_text (Bars peer code) = codes "not permitted " ++ ip_text (socket_ip peer) ++ code_text code
said_text (Ends why code unverified) = codes "ended, " ++ why_word why ++ code_text code ++ unverified_text unverified

-- as `server 192.0.2.1:3478 udp 10.0.0.1:1000: mapped 203.0.113.5:61000`
abbrev pub line_text : Line → List ℕ
line_text l =
    codes "server " ++ socket_text l.server ++ codes " " ++ transport_word l.transport ++ codes " " ++ socket_text l.local ++ codes ": "
    ++ said_text l.said

-- ---- events, as C passes them

abbrev pub why_of : ℤ → Option Why
why_of (pos n) =
    if n == 0 then Some Failed
    else (if n == 1 then Some Lost
    else (if n == 2 then Some Closed else None))
why_of (negsuc n) = None

-- the mapped address, if there is one; None: its family is unknown
abbrev pub mapped_in : Event → Option (Option SocketAddr)
mapped_in e = if e.has_mapped then option_map Some (socket_of e.mapped) else Some None

-- what the line of an event says, by its kind; None: C passed no event
abbrev pub said_of : Event → Option Said
said_of e = by e.kind where
  by : ℤ → Option Said
  by (pos n) =
      if n == 1 then option_map Maps (socket_of e.mapped)
      else (if n == 2 then option_and_then (λ relayed. option_map (Allocates relayed) (mapped_in e)) (socket_of e.relayed)
      else (if n == 3 then option_map (λ peer. Bars peer e.code) (socket_of e.peer)
      else (if n == 4 then option_map (λ why. Ends why e.code e.unverified) (why_of e.why) else None)))
  by (negsuc n) = None

-- the line of an event of the clients, if C's struct says one
abbrev pub line_of : Event → Option Line
line_of e =
    option_and_then (λ transport.
    option_and_then (λ local.
    option_and_then (λ server. option_map (λ said. record { transport = transport; local = local; server = server; said = said }) (said_of e))
    (socket_of e.server))
    (socket_of e.local))
    (transport_of e.protocol)

-- `is_ice_servers_event_line`
abbrev pub PutsLine : Option Line → List ℕ → ℕ → ℤ → List ℕ → ℕ → Type 0
PutsLine None before was code after count = PutsNone BAD_ADDRESS before was code after count
PutsLine (Some l) before was code after count =
    PutsNone OUT_OF_MEMORY before was code after count ⊎ Puts (line_text l) before code after count

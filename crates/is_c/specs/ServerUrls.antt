-- The URLs of servers, as C reads them.
use Rattle.std.specs.Prelude.{◌≡◌, ◌⊎◌, ℕ, Bool, List, length, Option, Some, None, if◌then◌else◌, ℤ}
use Rattle.std.specs.Str.{IsUtf8}
use Rattle.is_servers.specs.declared.transport.Transport.{Transport}
use Rattle.is_servers.specs.declared.transport.Transport.TheVariants.{Udp, Tcp}
use Rattle.is_servers.specs.declared.url.Scheme.{Scheme}
use Rattle.is_servers.specs.declared.url.Scheme.TheVariants.{Stun, Turn}
use Rattle.is_servers.specs.Hosts.{IsV6If}
use Rattle.is_servers.specs.Urls.{Url, bracketed_in, url_of}
use Rattle.is_c.specs.declared.servers.urls.Url.{Url as Flat}
use Rattle.is_c.specs.ServersHeld.{BAD_URL}
use Rattle.is_c.specs.ServersPackets.{IsPlaceFrom}
use Rattle.is_c_calls.specs.Codes.{OK, NOT_UTF8}

abbrev pub scheme_number : Scheme → ℕ
scheme_number Stun = 0
scheme_number Turn = 1

abbrev pub number_over : Transport → ℕ
number_over Udp = 0
number_over Tcp = 1

-- UDP, TCP or TLS
abbrev pub protocol_number : Bool → Transport → ℕ
protocol_number is_secure transport = if is_secure then 3 else number_over transport

-- the host is the part of the text that begins here
abbrev pub flat_of : Url → ℕ → Flat
flat_of u start = record {
  host_start = start;
  host_length = length u.host;
  port = u.port;
  scheme = scheme_number u.scheme;
  protocol = protocol_number u.is_secure u.transport;
}

abbrev pub PutsNoUrl : ℤ → Flat → Flat → ℤ → Type 0
PutsNoUrl why before after code = (code ≡ why) × (after ≡ before)

abbrev pub PutsHost : Option ℕ → Url → Flat → Flat → ℤ → Type 0
PutsHost None u before after code = PutsNoUrl BAD_URL before after code
PutsHost (Some start) u before after code = (code ≡ OK) × (after ≡ flat_of u start)

-- the host is looked for after the shortest scheme and its colon
abbrev pub PutsUrl : List ℕ → Option Url → Flat → Flat → ℤ → Type 0
PutsUrl text None before after code = PutsNoUrl BAD_URL before after code
PutsUrl text (Some u) before after code = (place : Option ℕ) × IsPlaceFrom text u.host 5 place × PutsHost place u before after code

-- `is_ice_server_url_of`
abbrev pub ReturnsUrl : List ℕ → Flat → Flat → ℤ → Type 0
ReturnsUrl text before after code =
    ((¬ IsUtf8 text) × PutsNoUrl NOT_UTF8 before after code)
    ⊎ (IsUtf8 text × ((v6 : Bool) × IsV6If (bracketed_in text) v6 × PutsUrl text (url_of v6 text) before after code))

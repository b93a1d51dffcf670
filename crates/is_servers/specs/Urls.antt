-- The URLs of STUN and TURN servers: scheme ":" host [ ":" port ] (RFC 7064, section 3.1), and for TURN [ "?transport=" transport ]
-- (RFC 7065, section 3.1).
use Rattle.std.specs.Prelude.{ℕ, Bool, true, false, bytes_eq, codes, List, map, Option, Some, None, if◌then◌else◌}
use Rattle.std.specs.Char.{to_ascii_lowercase}
use Rattle.is_servers.specs.declared.transport.Transport.{Transport}
use Rattle.is_servers.specs.declared.transport.Transport.TheVariants.{Udp, Tcp}
use Rattle.is_servers.specs.declared.url.Scheme.{Scheme}
use Rattle.is_servers.specs.declared.url.Scheme.TheVariants.{Stun, Turn}
use Rattle.is_servers.specs.declared.url.ServerUrl.{ServerUrl}
use Rattle.is_servers.specs.Hosts.{split_at, place_of, port_of, bracketed}

-- what a URL says
pub record Url : Type 0 where
  pub scheme : Scheme
  pub is_secure : Bool
  pub transport : Transport
  pub host : List ℕ
  pub port : ℕ

-- a URL without its memory layout
abbrev pub url_view : ServerUrl → Url
url_view u = record { scheme = u.scheme; is_secure = u.is_secure; transport = u.transport; host = u.host.now; port = u.port }

-- the same text, in upper or lower case (RFC 5234, section 2.3)
abbrev pub same_word : List ℕ → List ℕ → Bool
same_word a b = bytes_eq (map to_ascii_lowercase a) (map to_ascii_lowercase b)

-- what a scheme is for, and whether over TLS
abbrev pub scheme_of : List ℕ → Option (Scheme × Bool)
scheme_of text =
    if same_word text (codes "stun") then Some (Stun, false)
    else if same_word text (codes "stuns") then Some (Stun, true)
    else if same_word text (codes "turn") then Some (Turn, false)
    else if same_word text (codes "turns") then Some (Turn, true)
    else None

-- the transport of a URL that names none: TCP for TLS, else UDP
abbrev pub usual_transport : Bool → Transport
usual_transport is_secure = if is_secure then Tcp else Udp

abbrev pub usual_port : Bool → ℕ
usual_port is_secure = if is_secure then 5349 else 3478

-- UDP with a secure scheme is DTLS, which is not there
abbrev pub named_transport : Bool → List ℕ → Option Transport
named_transport is_secure query =
    if same_word query (codes "transport=tcp") then Some Tcp
    else if is_secure then None
    else if same_word query (codes "transport=udp") then Some Udp
    else None

-- only the URL of a TURN server may name one
abbrev pub transport_of : Scheme → Bool → Option (List ℕ) → Option Transport
transport_of scheme is_secure None = Some (usual_transport is_secure)
transport_of Turn is_secure (Some query) = named_transport is_secure query
transport_of Stun is_secure (Some query) = None

-- the text before a question mark, and after it, if there is one
abbrev pub query_parts : List ℕ → Option (List ℕ × List ℕ) → List ℕ × Option (List ℕ)
query_parts text None = (text, None)
query_parts text (Some parts) = (parts.0, Some parts.1)

abbrev pub without_query : List ℕ → List ℕ × Option (List ℕ)
without_query text = query_parts text (split_at 63 text)

abbrev pub url_with_port : Scheme × Bool → Transport → List ℕ → Option ℕ → Option Url
url_with_port scheme transport host None = None
url_with_port scheme transport host (Some port) =
    Some (record { scheme = scheme.0; is_secure = scheme.1; transport = transport; host = host; port = port })

abbrev pub url_at : Scheme × Bool → Transport → Option (List ℕ × List ℕ) → Option Url
url_at scheme transport None = None
url_at scheme transport (Some place) = url_with_port scheme transport place.0 (port_of (usual_port scheme.1) place.1)

abbrev pub url_over : Bool → Scheme × Bool → List ℕ → Option Transport → Option Url
url_over v6 scheme place None = None
url_over v6 scheme place (Some transport) = url_at scheme transport (place_of v6 place)

abbrev pub url_after : Bool → Option (Scheme × Bool) → List ℕ × Option (List ℕ) → Option Url
url_after v6 None rest = None
url_after v6 (Some scheme) rest = url_over v6 scheme rest.0 (transport_of scheme.0 scheme.1 rest.1)

abbrev pub url_in : Bool → Option (List ℕ × List ℕ) → Option Url
url_in v6 None = None
url_in v6 (Some parts) = url_after v6 (scheme_of parts.0) (without_query parts.1)

-- what the text says, given whether what is in brackets is an IPv6 address
abbrev pub url_of : Bool → List ℕ → Option Url
url_of v6 text = url_in v6 (split_at 58 text)

abbrev pub bracketed_after : Option (Scheme × Bool) → List ℕ → Option (List ℕ)
bracketed_after None rest = None
bracketed_after (Some scheme) rest = bracketed (without_query rest).0

abbrev pub bracketed_by : Option (List ℕ × List ℕ) → Option (List ℕ)
bracketed_by None = None
bracketed_by (Some parts) = bracketed_after (scheme_of parts.0) parts.1

-- what is in brackets after a scheme
abbrev pub bracketed_in : List ℕ → Option (List ℕ)
bracketed_in text = bracketed_by (split_at 58 text)

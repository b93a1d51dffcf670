-- A STUN client's request, and what its response says (RFC 8489, sections 6 and 14).
use Rattle.std.specs.Prelude.{◌≡◌, ◌⊎◌, ℕ, List, Option, Some, None, option_map, Result, Ok, Err, ℤ}
use Rattle.std.specs.declared.net.socket_addr.SocketAddr.{SocketAddr}
use Rattle.is_stun.specs.declared.header.Class.{Class}
use Rattle.is_stun.specs.declared.header.Class.TheVariants.{Request, Success, Failure}
use Rattle.is_stun.specs.declared.header.Method.{Method}
use Rattle.is_stun.specs.declared.header.Method.TheVariants.{Binding}
use Rattle.is_stun.specs.Builder.{built}
use Rattle.is_stun.specs.Message.{AttributesRecord, Message, no_attributes}
use Rattle.is_c.specs.declared.stun_client.Response.{Response}
use Rattle.is_c_calls.specs.Addresses.{socket_of}
use Rattle.is_c_calls.specs.Codes.{OK, NOTHING}

-- a Binding request without attributes; FINGERPRINT is added when it is written
abbrev pub binding_query : List ℕ → Message
binding_query id = built Binding Request id no_attributes

-- the mapped address, or the error's code and reason
abbrev pub Said : Type 0
Said = Result SocketAddr (ℕ × List ℕ)

-- what a message says as the response to a Binding request
abbrev pub said_of : Method → Class → AttributesRecord → Option Said
said_of Binding Success a = option_map (λ at. Ok at) a.xor_mapped_address
said_of Binding Failure a = option_map (λ e. Err e) a.error_code
said_of _ _ a = None

-- what C gets of it
abbrev pub ReturnsSaid : Option Said → Response → ℤ → Response → Type 0
ReturnsSaid None before code after = (code ≡ NOTHING) × (after ≡ before)
ReturnsSaid (Some (Ok at)) before code after =
    (code ≡ OK) × (after ≡ record before { mapped = after.mapped; error_code = 0 }) × (socket_of after.mapped ≡ Some at)
ReturnsSaid (Some (Err e)) before code after = (code ≡ OK) × (after ≡ record before { error_code = e.0 })

-- only the response with this transaction ID says anything
abbrev pub ReturnsResponse : List ℕ → Message → Response → ℤ → Response → Type 0
ReturnsResponse id m before code after =
    ((m.id ≡ id) × ReturnsSaid (said_of m.method m.class m.attributes) before code after)
    ⊎ (¬ (m.id ≡ id) × (code ≡ NOTHING) × (after ≡ before))

-- What a datagram of the server says to a client that waits for a response (RFC 8489, section 6.3).
use Rattle.std.specs.Prelude.{◌≡◌, ℕ, ◌&&◌, Bool, true, false, List, bytes_eq, is_some, Option, Some, None, if◌then◌else◌}
use Rattle.std.specs.declared.net.socket_addr.SocketAddr.{SocketAddr}
use Rattle.is_stun.specs.declared.header.Class.{Class}
use Rattle.is_stun.specs.declared.header.Class.TheVariants.{Success, Failure}
use Rattle.is_stun.specs.declared.header.Method.{Method}
use Rattle.is_stun.specs.declared.header.Method.TheVariants as methods
use Rattle.is_stun.specs.declared.trans_id.TransId.{TransId}
use Rattle.is_stun.specs.Form.{form_fault, ReadsAny}
use Rattle.is_stun.specs.Message.{Message}
use Rattle.is_stun.specs.Reading.{message_of}
use Rattle.is_turn.specs.declared.answer.Answer.{Answer}
use Rattle.is_turn.specs.declared.answer.Answer.TheVariants.{Unparsed, Unasked, Malformed, Mapped, Failed}

abbrev pub is_binding : Method → Bool
is_binding methods.Binding = true
is_binding _ = false

abbrev pub is_response : Class → Bool
is_response Success = true
is_response Failure = true
is_response _ = false

-- the message is a response to the request with this transaction ID
abbrev pub is_answer : Option TransId → Message → Bool
is_answer None m = false
is_answer (Some id) m = is_binding m.method && is_response m.class && bytes_eq m.id id.0

-- a success response has a mapped address, an error response a code
abbrev pub mapped_or : Option SocketAddr → Answer
mapped_or None = Malformed
mapped_or (Some at) = Mapped at

abbrev pub code_or : Option (ℕ × List ℕ) → Answer
code_or None = Malformed
code_or (Some e) = Failed e.0

abbrev pub said_by : Class → Message → Answer
said_by Success m = mapped_or m.attributes.xor_mapped_address
said_by _ m = code_or m.attributes.error_code

abbrev pub said_in : Message → Answer
said_in m = said_by m.class m

abbrev pub answer_by : Option TransId → Message → Answer
answer_by pending m = if is_answer pending m then said_in m else Unasked

-- the response to the pending request, whatever it says
abbrev pub IsOwn : Answer → Type 0
IsOwn (Mapped at) = Unit {0}
IsOwn (Failed code) = Unit {0}
IsOwn _ = ⊥

-- the bytes encode a response to the pending request
abbrev pub IsRead : Option TransId → List ℕ → Type 0
IsRead pending bytes = (m : Message) × ReadsAny bytes m × (is_answer pending m ≡ true)

-- what the bytes say, given the transaction ID of the pending request
unfoldable pub answer_in : Option TransId → List ℕ → Answer
answer_in pending bytes = if is_some (form_fault bytes) then Unparsed else answer_by pending (message_of bytes)

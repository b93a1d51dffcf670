-- Which datagrams are for an agent, as C queries it.
use Rattle.std.specs.Prelude.{◌≡◌, ◌⊎◌, ◌↔◌, ℕ, Bool, List, Option, Some, None, IsTrue, ℤ}
use Rattle.is_proto.specs.declared.error.StunError.{StunError}
use Rattle.is_stun.specs.Message.{Message}
use Rattle.is_stun.specs.Reading.{Reads, FailsBy}
use Rattle.is_rules.specs.declared.emitted.Path.{Path}
use Rattle.is_rules.specs.Accepting.{IsAccepted, IsAcceptedOn}
use Rattle.is_agent.specs.declared.rejecting.Rejection.{Rejection}
use Rattle.is_agent.specs.Rejecting.{IsRejection}
use Rattle.is_c_calls.specs.Codes.{BAD_ADDRESS, UNPARSED, found_code, rejection_code}
use Rattle.is_c_calls.specs.Held.{Held, HeldRecord}
use Rattle.is_c_calls.specs.Packets.{Mac}

-- OK exactly if the bytes encode a message of which P holds, UNPARSED exactly if they encode none
abbrev pub ReturnsWhether : (Message → Type 0) → List ℕ → ℤ → Type 0
ReturnsWhether P bytes code =
    ((e : StunError) × FailsBy bytes e × (code ≡ UNPARSED))
    ⊎ ((m : Message) × Reads bytes m × ((yes : Bool) × (IsTrue yes ↔ P m) × (code ≡ found_code yes)))

abbrev pub AsksOn : Mac → Held → Option Path → List ℕ → ℤ → Type 0
AsksOn mac a None bytes code = code ≡ BAD_ADDRESS
AsksOn mac a (Some path) bytes code = ReturnsWhether (IsAcceptedOn mac a path) bytes code

-- `is_ice_accepts_packet`
abbrev pub AsksWay : Mac → Option Path → List ℕ → HeldRecord → ℤ → HeldRecord → Type 0
AsksWay mac path bytes old code new = AsksOn mac old.agent path bytes code × (new ≡ old)

-- `is_ice_accepts_message`
abbrev pub AsksMessage : Mac → List ℕ → HeldRecord → ℤ → HeldRecord → Type 0
AsksMessage mac bytes old code new = ReturnsWhether (IsAccepted mac old.agent) bytes code × (new ≡ old)

-- UNPARSED exactly if the bytes encode no message; else the code of the first reason that applies, and OK exactly if the message is accepted
abbrev pub ReturnsReason : Mac → Held → Path → List ℕ → ℤ → Type 0
ReturnsReason mac a path bytes code =
    ((e : StunError) × FailsBy bytes e × (code ≡ UNPARSED))
    ⊎ ((m : Message) × Reads bytes m × ((why : Option Rejection) × IsRejection mac a path m why
    × ((why ≡ None) ↔ IsAcceptedOn mac a path m) × (code ≡ rejection_code why)))

abbrev pub AsksReasonOn : Mac → Held → Option Path → List ℕ → ℤ → Type 0
AsksReasonOn mac a None bytes code = code ≡ BAD_ADDRESS
AsksReasonOn mac a (Some path) bytes code = ReturnsReason mac a path bytes code

-- `is_ice_rejection`
abbrev pub AsksReason : Mac → Option Path → List ℕ → HeldRecord → ℤ → HeldRecord → Type 0
AsksReason mac path bytes old code new = AsksReasonOn mac old.agent path bytes code × (new ≡ old)

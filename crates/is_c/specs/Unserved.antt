-- Why an accepted request gets no response, as C queries it.
use Rattle.std.specs.Prelude.{◌≡◌, ◌⊎◌, ℕ, List, Option, Some, None, ℤ, pos}
use Rattle.is_proto.specs.declared.error.StunError.{StunError}
use Rattle.is_stun.specs.Message.{Message}
use Rattle.is_stun.specs.Reading.{Reads, FailsBy}
use Rattle.is_rules.specs.declared.emitted.Path.{Path}
use Rattle.is_agent.specs.declared.unserved.Unserved.{Unserved}
use Rattle.is_agent.specs.declared.unserved.Unserved.TheVariants.{Early, OtherDestination, UseCandidate, SenderInvalidated, SendersAtLimit, LocalInvalidated}
use Rattle.is_agent.specs.Unserved.{UnservedIs}
use Rattle.is_c_calls.specs.Codes.{OK, BAD_ADDRESS, UNPARSED}
use Rattle.is_c_calls.specs.Held.{Held, HeldRecord}
use Rattle.is_c_calls.specs.Packets.{Mac}

-- the code of the reason; OK if there is none
abbrev pub unserved_code : Option Unserved → ℤ
unserved_code None = OK
unserved_code (Some Early) = pos 12
unserved_code (Some OtherDestination) = pos 13
unserved_code (Some UseCandidate) = pos 14
unserved_code (Some SenderInvalidated) = pos 15
unserved_code (Some SendersAtLimit) = pos 16
unserved_code (Some LocalInvalidated) = pos 17

-- UNPARSED exactly if the bytes encode no message
abbrev pub ReturnsUnserved : Mac → Held → Path → List ℕ → ℤ → Type 0
ReturnsUnserved mac a path bytes code =
    ((e : StunError) × FailsBy bytes e × (code ≡ UNPARSED))
    ⊎ ((m : Message) × Reads bytes m × ((why : Option Unserved) × UnservedIs mac a path m why × (code ≡ unserved_code why)))

abbrev pub AsksUnservedOn : Mac → Held → Option Path → List ℕ → ℤ → Type 0
AsksUnservedOn mac a None bytes code = code ≡ BAD_ADDRESS
AsksUnservedOn mac a (Some path) bytes code = ReturnsUnserved mac a path bytes code

-- `is_ice_unserved`
abbrev pub AsksUnserved : Mac → Option Path → List ℕ → HeldRecord → ℤ → HeldRecord → Type 0
AsksUnserved mac path bytes old code new = AsksUnservedOn mac old.agent path bytes code × (new ≡ old)

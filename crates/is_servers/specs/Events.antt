-- What happens to a client of a server.
use Rattle.std.specs.Prelude.{ℕ, Option, None}
use Rattle.is_turn.specs.declared.client.StunEvent.{StunEvent}
use Rattle.is_turn.specs.declared.client.StunEvent.TheVariants as stun
use Rattle.is_turn.specs.declared.session.Ending.{Ending}
use Rattle.is_turn.specs.declared.session.Why.{Why}
use Rattle.is_turn.specs.declared.session.Why.TheVariants as why
use Rattle.is_turn.specs.declared.turn.TurnEvent.{TurnEvent}
use Rattle.is_turn.specs.declared.turn.TurnEvent.TheVariants as turn
use Rattle.is_servers.specs.declared.events.Happened.{Happened}
use Rattle.is_servers.specs.declared.events.Happened.TheVariants.{Mapped, Allocated, NotPermitted, Ended}

-- the end of a STUN client
abbrev pub ending_of : Why → Option ℕ → Ending
ending_of reason code = record { why = reason; code = code; unverified = None }

-- a STUN client that fails has ended
abbrev pub stun_happened : StunEvent → Happened
stun_happened (stun.Mapped at) = Mapped at
stun_happened (stun.Failed code) = Ended (ending_of why.Failed code)

abbrev pub turn_happened : TurnEvent → Happened
turn_happened (turn.Allocated allocation) = Allocated allocation
turn_happened (turn.NotPermitted ip code) = NotPermitted ip code
turn_happened (turn.Ended ending) = Ended ending

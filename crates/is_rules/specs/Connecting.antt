-- What the connection states say of media.
use Rattle.std.specs.Prelude.{Bool, true, false}
use Rattle.is_rules.specs.declared.event.IceConnectionState.{IceConnectionState}
use Rattle.is_rules.specs.declared.event.IceConnectionState.TheVariants.{New, Checking, Connected, Completed, Disconnected}

-- Media can be sent.
abbrev pub is_connected : IceConnectionState → Bool
is_connected Connected = true
is_connected Completed = true
is_connected New = false
is_connected Checking = false
is_connected Disconnected = false

-- the state is Disconnected
abbrev pub is_disconnected : IceConnectionState → Bool
is_disconnected Disconnected = true
is_disconnected New = false
is_disconnected Checking = false
is_disconnected Connected = false
is_disconnected Completed = false

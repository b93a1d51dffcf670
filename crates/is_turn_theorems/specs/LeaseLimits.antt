-- How far ahead the end of a permission or of a channel, a lease, is. Durations are in nanoseconds.
use Rattle.std.specs.Prelude.{ℕ, ◌+◌, ◌*◌, ◌-◌, ◌<◌}
use Rattle.is_proto.specs.Times.{SECOND}
use Rattle.is_turn.specs.Session.{PACE}
use Rattle.is_turn_theorems.specs.Limits.{Limits}

-- so long before its end a lease is renewed: a permission after three of its five minutes, a channel after eight of its ten
abbrev pub LEAD : ℕ
LEAD = 120 * SECOND

-- From when an attempt is due until it is sent. One packet leaves at a time; each lease has its turn once, and the allocation its turns.
abbrev pub queue_time : Limits → ℕ
queue_time k = (k.places + k.others) * (PACE + k.late)

-- from when an attempt is due until it is answered
abbrev pub lease_attempt_time : Limits → ℕ
lease_attempt_time k = queue_time k + k.within

-- from when a renewal is due until it is answered by a success response, after so many challenges
abbrev pub lease_renewal_time : Limits → ℕ
lease_renewal_time k = k.late + (k.challenges + 1) * lease_attempt_time k

-- what is left of the lead
abbrev pub lease_margin : Limits → ℕ
lease_margin k = LEAD - lease_renewal_time k

-- something is left of it
abbrev pub LeaveForLeases : Limits → Type 0
LeaveForLeases k = lease_renewal_time k < LEAD

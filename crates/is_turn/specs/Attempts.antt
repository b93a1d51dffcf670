-- The transaction IDs under which a request was sent.
use Rattle.std.specs.Prelude.{Bool, false, bytes_eq, Option, Some, None, if◌then◌else◌}
use Rattle.is_stun.specs.declared.trans_id.TransId.{TransId}
use Rattle.is_turn.specs.declared.attempts.Attempt.{Attempt}
use Rattle.is_turn.specs.declared.attempts.Attempts.{Attempts}

abbrev pub no_attempts : Attempts
no_attempts = record { last = None; second = None; third = None; fourth = None; fifth = None; sixth = None }

abbrev pub is_of_id : TransId → Attempt → Bool
is_of_id id a = bytes_eq a.id.0 id.0

abbrev pub if_id : TransId → Option Attempt → Option Attempt
if_id id None = None
if_id id (Some a) = if is_of_id id a then Some a else None

abbrev pub or : Option Attempt → Option Attempt → Option Attempt
or (Some a) b = Some a
or None b = b

-- the attempt with this ID: the last one of them
abbrev pub attempt_with : TransId → Attempts → Option Attempt
attempt_with id a =
    or (if_id id a.last) (or (if_id id a.second)
    (or (if_id id a.third) (or (if_id id a.fourth) (or (if_id id a.fifth) (if_id id a.sixth)))))

-- one more, which is the last
abbrev pub with_attempt : Attempt → Attempts → Attempts
with_attempt attempt a = record {
  last = Some attempt;
  second = a.last;
  third = a.second;
  fourth = a.third;
  fifth = a.fourth;
  sixth = a.fifth;
}

abbrev pub is_last_of : TransId → Option Attempt → Bool
is_last_of id None = false
is_last_of id (Some a) = is_of_id id a

abbrev pub is_last : TransId → Attempts → Bool
is_last id a = is_last_of id a.last

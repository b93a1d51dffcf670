-- The pending transactions of a pair (RFC 8445, section 7.2), oldest first: the checks that it stores. The pair still accepts
-- a response to each of them, even if it already had one.
use Rattle.std.specs.Prelude.{◌≡◌, ℕ, ◌-◌, Bool, bytes_eq, List, length, drop, find, reverse, position, slice_get, Option, Some, None}
use Rattle.std.specs.Prelude.{option_map, unwrap_or, is_some}
use Rattle.std.specs.List.{list_any}
use Rattle.std.specs.Option.{option_map_or}

-- a check that was sent
pub record Check : Type 0 where
  -- its transaction ID: 12 bytes
  pub id : List ℕ
  pub sent : ℕ
  -- the time of its last response
  pub answered : Option ℕ
  -- whether the pair was nominated when it was sent
  pub nominated : Bool
  -- whether the agent was controlling when it was sent
  pub controlling : Bool

-- the check after its response; of several responses, only the time of the last one is stored
abbrev pub answered_at : ℕ → Check → Check
answered_at now c = record c { answered = Some now }

abbrev pub is_answered : Check → Bool
is_answered c = is_some c.answered

-- the round-trip time of its last response
abbrev pub round_trip_of : Check → Option ℕ
round_trip_of c = option_map (λ at. at - c.sent) c.answered

abbrev pub has_id : List ℕ → Check → Bool
has_id id c = bytes_eq c.id id

abbrev pub is_kept : List ℕ → List Check → Bool
is_kept id checks = list_any (has_id id) checks

-- the check at this index has the transaction ID
abbrev pub IsCheckAt : List Check → List ℕ → ℕ → Check → Type 0
IsCheckAt checks id place c = (slice_get checks place ≡ Some c) × (c.id ≡ id)

-- the last n checks
abbrev pub last_checks : ℕ → List Check → List Check
last_checks n checks = drop (length checks - n) checks

abbrev pub last_check : List Check → Option Check
last_check checks = slice_get checks (length checks - 1)

-- the round-trip time of the last check that had a response
abbrev pub last_round_trip : List Check → Option ℕ
last_round_trip checks = option_map_or round_trip_of (find is_answered (reverse checks)) None

-- how many checks follow the last one that had a response, or all of them if none had
abbrev pub unanswered_count : List Check → ℕ
unanswered_count checks = unwrap_or (position is_answered (reverse checks)) (length checks)

-- the first of the checks after the last one that had a response
abbrev pub first_unanswered : List Check → Option Check
first_unanswered checks = slice_get checks (length checks - unanswered_count checks)

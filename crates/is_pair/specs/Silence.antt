-- The silence of a pair: its checks after the last one that had a response. With the profile `Modern` a selected pair that is silent is
-- left once another pair had a response meanwhile.
use Rattle.std.specs.Prelude.{ℕ, ◌-◌, ◌*◌, ◌==◌, ◌&&◌, Bool, false, not, min, nat_lt, List, length, slice_get, Option, None, option_map, if◌then◌else◌}
use Rattle.std.specs.List.{list_any}
use Rattle.std.specs.Option.{option_and_then, option_map_or}
use Rattle.is_proto.specs.Times.{MILLISECOND, later}
use Rattle.is_stun.specs.declared.timing.StunTiming.{StunTiming}
use Rattle.is_pair.specs.declared.pair.silence.Span.{Span}
use Rattle.is_pair.specs.Checks.{Check, first_unanswered, last_check, unanswered_count}
use Rattle.is_pair.specs.Due.{is_within}
use Rattle.is_pair.specs.Pairs.{PairRecord}

-- the last n checks begin with this one
abbrev pub first_of_last : ℕ → List Check → Option Check
first_of_last n checks = slice_get checks (length checks - n)

-- so many checks of the silent pair have to follow the response that another pair had
abbrev pub FOLLOWING : ℕ
FOLLOWING = 4

-- the time from one check to another one
abbrev pub span_between : Check → Check → Span
span_between a b = record { from = record { 0 = a.sent }; to = record { 0 = b.sent } }

abbrev pub span_from : Option Check → Option Check → Option Span
span_from first last = option_and_then (λ a. option_map (span_between a) last) first

-- from the first check without a response to the first of the last four
abbrev pub silence_of : List Check → Option Span
silence_of checks = span_from (first_unanswered checks) (first_of_last FOLLOWING checks)

-- when the last check was sent, or 0 if there was none
abbrev pub last_sent : List Check → ℕ
last_sent checks = option_map_or (λ (c : Check). c.sent) (last_check checks) 0

-- how many of the last four checks have no response, from the last one back
abbrev pub late_count : List Check → ℕ
late_count checks = min FOLLOWING (unanswered_count checks)

-- from the first of these until now; none if the last check had a response
abbrev pub silence_until : ℕ → List Check → Option Span
silence_until now checks =
    if late_count checks == 0 then None
    else option_map (λ (c : Check). record { from = record { 0 = c.sent }; to = record { 0 = now } }) (first_of_last (late_count checks) checks)

-- The check had a response by then.
abbrev pub is_answered_by : ℕ → Check → Bool
is_answered_by at c = option_map_or (λ received. nat_lt received at) c.answered false

-- The check was sent in that time, and had a response in it.
abbrev pub is_answered_within : Span → Check → Bool
is_answered_within span c = is_answered_by span.to.0 c && nat_lt span.from.0 c.sent && nat_lt c.sent span.to.0

-- A check of the pair that was sent in that time had a response in it.
abbrev pub outlives : Span → PairRecord → Bool
outlives span p = list_any (is_answered_within span) p.checks

-- how long a silent pair is kept at least, from the time on at which the check after its last answered one was due at the latest
abbrev pub LEAST_SILENCE : ℕ
LEAST_SILENCE = 850 * MILLISECOND

-- The last check of the pair that had a response was sent so long ago.
abbrev pub is_long_silent : ℕ → StunTiming → PairRecord → Bool
is_long_silent now t p = not (is_within (later t.max_rto.0 LEAST_SILENCE) now p.consented)

-- Times, durations and counters. Times and durations are in whole nanoseconds. A difference below zero is zero, as with
-- `-`.
use Rattle.std.specs.Prelude.{ℕ, ◌+◌, min}

-- the last time, the longest duration, and the greatest counter
abbrev pub MAX : ℕ
MAX = 0xffff_ffff_ffff_ffff

abbrev pub MILLISECOND : ℕ
MILLISECOND = 1_000_000

abbrev pub SECOND : ℕ
SECOND = 1_000_000_000

-- the time later by so much, or the last time if that overflows
abbrev pub later : ℕ → ℕ → ℕ
later time by = min (time + by) MAX

-- one more
abbrev pub counted : ℕ → ℕ
counted n = later n 1

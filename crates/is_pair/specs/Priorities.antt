-- The priority of a pair (RFC 8445, section 6.1.2.3).
use Rattle.std.specs.Prelude.{ℕ, ◌+◌, ◌*◌, ◌^◌, Bool, true, false, min, max, nat_lt, if◌then◌else◌}

-- the priority of a pair, from the priorities of the controlling and of the controlled agent's candidate
abbrev pub combined : ℕ → ℕ → ℕ
combined g d = 2 ^ 32 * min g d + 2 * max g d + (if nat_lt d g then 1 else 0)

-- the priority of a pair, from the local agent's role, and the remote and the local candidate's priority
abbrev pub pair_priority : Bool → ℕ → ℕ → ℕ
pair_priority true remote local = combined local remote
pair_priority false remote local = combined remote local

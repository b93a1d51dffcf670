-- The value of ERROR-CODE, as stored in memory.
use Rattle.std.specs.Prelude.{ℕ, ◌<◌, ◌≤◌, List, length, take, Option, Some, None}
use Rattle.std.specs.Borrow.{Bor}
use Rattle.std.specs.Option.{option_map}
use Rattle.is_stun.specs.declared.error_code.ErrorValue.{ErrorValue}

abbrev pub error_bytes : ErrorValue → List ℕ
error_bytes e = take e.len e.bytes

-- an error code and its reason, without their memory layout
abbrev pub error_view : Option (ℕ × Bor (List ℕ)) → Option (ℕ × List ℕ)
error_view error = option_map (λ e. (e.0, e.1.now)) error

-- an error code that can be written
abbrev pub WritableError : Option (ℕ × Bor (List ℕ)) → Type 0
WritableError None = Unit {0}
WritableError (Some e) = (e.0 < 700) × (length e.1.now ≤ 128)

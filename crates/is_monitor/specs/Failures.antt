-- Packets that the caller could not send: the last failures, each path and reason once.
use Rattle.std.specs.Prelude.{◌≡◌, ℕ, ◌==◌, ◌&&◌, ◌++◌, ◌∷◌, [], Bool, nat_lt, List, length, drop, position, slice_set, slice_get, Some, MatchOption, if◌then◌else◌}
use Rattle.is_proto.specs.Times.{counted}
use Rattle.is_candidate.specs.Addresses.{same_address, same_protocol}
use Rattle.is_rules.specs.declared.emitted.Path.{Path}
use Rattle.is_monitor.specs.declared.failures.FailedSend.{FailedSend}
use Rattle.is_monitor.specs.declared.failures.FailedSends.{FailedSends}

-- how many are kept at most
abbrev pub FAILURE_LIMIT : ℕ
FAILURE_LIMIT = 16

-- what is kept, the oldest first
abbrev pub failures_of : FailedSends → List FailedSend
failures_of failures = failures.sends.items

abbrev pub same_path : Path → Path → Bool
same_path a b = same_protocol a.proto b.proto && (same_address a.source b.source && same_address a.destination b.destination)

-- the failure is of this path and reason
abbrev pub is_of : Path → ℕ → FailedSend → Bool
is_of path reason f = f.reason == reason && same_path f.path path

abbrev pub first_failure : Path → ℕ → FailedSend
first_failure path reason = record { path = path; reason = reason; times = 1 }

abbrev pub once_more : FailedSend → FailedSend
once_more f = record f { times = counted f.times }

-- with one more at the end; beyond the limit the oldest is dropped
abbrev pub with_last : FailedSend → List FailedSend → List FailedSend
with_last f fs = if nat_lt (length fs) FAILURE_LIMIT then fs ++ f ∷ [] else drop 1 (fs ++ f ∷ [])

-- A failure that is kept already counts once more; another one is kept last.
abbrev pub Notes : Path → ℕ → List FailedSend → List FailedSend → Type 0
Notes path reason old new =
    MatchOption (position (is_of path reason) old) (new ≡ with_last (first_failure path reason) old)
    (λ place. (f : FailedSend) × (slice_get old place ≡ Some f) × (new ≡ slice_set old place (once_more f)))

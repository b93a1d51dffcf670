-- How fast an agent of C sends checks, if C calls `is_ice_handle_timeout` no sooner than `is_ice_poll_timeout` says (RFC 8445, section 14.2).
use Rattle.std.specs.Prelude.{◌≡◌, ℕ, ◌+◌, ◌*◌, ◌<◌, ◌≤◌, ◌⊎◌, ◌&&◌, Bool, true, false, nat_le, List, [], ◌∷◌, IfSome, if◌then◌else◌}
use Rattle.is_proto.specs.Lists.{Has}
use Rattle.is_proto.specs.Times.{MAX, MILLISECOND, SECOND}
use Rattle.is_rules.specs.declared.credentials.IceCreds.{IceCreds}
use Rattle.is_rules.specs.TimeoutTimes.{IsWithinCredit}
use Rattle.is_theorems.specs.CheckRate.{checks_in_span}
use Rattle.is_theorems.specs.Logs.{Logged}
use Rattle.is_c_calls.specs.declared.preference.Preference.{Preference}
use Rattle.is_c_calls.specs.Clock.{agent_time}
use Rattle.is_c_calls.specs.Codes.{OK}
use Rattle.is_c_calls.specs.Held.{HeldRecord}
use Rattle.is_c_calls.specs.Making.{fresh_held}
use Rattle.is_c_calls.specs.Sessions.{Used, Session, is_ok}
use Rattle.is_c_calls.specs.Uses.{Use, SetTimingAdvance, SetSettings, HandlePacket, HandleTimeout, PollTimeout, Does}
use Rattle.is_c_theorems.specs.CallLogs.{IsUsed}
use Rattle.is_c_theorems.specs.Chosen.{EachKeeps}
use Rattle.is_c_theorems.specs.Seen.{Since}

-- C leaves the profile `Modern`, and a pacing interval of at least 50 ms, the default.
abbrev pub keeps_pace : Use → Bool
keeps_pace (SetTimingAdvance by) = nat_le (50 * MILLISECOND) by
keeps_pace (SetSettings s) = s.modern && nat_le (50 * MILLISECOND) s.timing_advance
keeps_pace _ = true

-- ---- times in order

-- the time of a call after one at `earlier`
abbrev pub time_after : (earlier : ℕ) → Use → ℕ
time_after earlier (HandlePacket now protocol source destination bytes) = now
time_after earlier (HandleTimeout now random) = now
time_after earlier _ = earlier

-- the time of the last of these calls
abbrev pub time_of : List Used → ℕ
time_of [] = 0
time_of (u ∷ before) = time_after (time_of before) u.export

-- Time does not run back along these calls.
abbrev pub AreInOrder : List Used → Type 0
AreInOrder [] = Unit {0}
AreInOrder (u ∷ before) = (time_of before ≤ time_of (u ∷ before)) × AreInOrder before

-- ---- a caller who goes by `is_ice_poll_timeout`

abbrev pub is_timeout : Use → Bool
is_timeout (HandleTimeout now random) = true
is_timeout _ = false

-- an `is_ice_handle_timeout` call that returned OK
abbrev pub is_timed : Used → Bool
is_timed u = if is_timeout u.export then is_ok u.code else false

-- It was called at this time.
abbrev pub IsTimedAt : ℕ → Used → Type 0
IsTimedAt at u = (random : List ℕ) × (u.export ≡ HandleTimeout at random) × (u.code ≡ OK)

-- `is_ice_poll_timeout` returned a time that has come; or the call was `is_ice_handle_timeout`, 25 ms before.
abbrev pub LetsCall : ℕ → Used → Type 0
LetsCall now u =
    ((was at : ℕ) × (u.export ≡ PollTimeout was at) × (u.code ≡ OK) × (at ≤ now)) ⊎ ((at : ℕ) × IsTimedAt at u × (at + 25 * MILLISECOND ≤ now))

-- There was an `is_ice_handle_timeout` call at this time or later that returned OK.
abbrev pub HasCalled : ℕ → List Used → Type 0
HasCalled from uses = (u : Used) × Has uses u × (at : ℕ) × IsTimedAt at u × (from ≤ at)

-- In the second that begins then, an `is_ice_handle_timeout` call is the first one; or it comes no sooner than `is_ice_poll_timeout` returned
-- since the last one that returned OK, or 25 ms after that one.
abbrev pub IsFrugalAt : ℕ → Used → List Used → Type 0
IsFrugalAt from u before =
    (now : ℕ) (random : List ℕ) → u.export ≡ HandleTimeout now random → now < from + SECOND → HasCalled from before
    → Since is_timed (λ v _. LetsCall now v) before

-- C calls so in this second.
abbrev pub IsFrugal : ℕ → List Used → Type 0
IsFrugal from [] = Unit {0}
IsFrugal from (u ∷ before) = IsFrugalAt from u before × IsFrugal from before

-- ---- the theorems

-- The deadline that a slot keeps is within credit: 25 ms after the last call, or the charges for checks are at most 225 ms ahead of it.
abbrev pub DeadlinesKeepCredit : Type 0
DeadlinesKeepCredit =
    (creds : IceCreds) (tie_breaker : ℕ) (uses : List Used) (held : HeldRecord) → Session (fresh_held creds tie_breaker) uses held
    → EachKeeps keeps_pace uses → IfSome held.deadline (λ at. IsWithinCredit held.agent at)

-- So is the time that `is_ice_poll_timeout` returns, also if silence is to be reported sooner.
abbrev pub ReturnedTimesKeepCredit : Type 0
ReturnedTimesKeepCredit =
    (creds : IceCreds) (tie_breaker : ℕ) (uses : List Used) (held after : HeldRecord) (was at : ℕ) → Session (fresh_held creds tie_breaker) uses held
    → EachKeeps keeps_pace uses → AreInOrder uses → Does (PollTimeout was at) held OK after → IsWithinCredit held.agent (agent_time at)

-- So at most 49 checks leave in a second, by the log of these calls.
abbrev pub FrugalSecondsHaveFewChecks : Type 0
FrugalSecondsHaveFewChecks =
    (creds : IceCreds) (tie_breaker : ℕ) (uses : List Used) (held : HeldRecord) (from : ℕ) → Session (fresh_held creds tie_breaker) uses held
    → EachKeeps keeps_pace uses → AreInOrder uses → IsFrugal from uses → from + 62 * SECOND ≤ MAX
    → (log : List (Logged Preference)) × IsUsed uses log held × (checks_in_span (agent_time from) SECOND log ≤ 49)

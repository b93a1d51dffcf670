-- How fast an agent sends checks (RFC 8445, sections 14.2 and 19.5.1), whatever it receives.
use Rattle.std.specs.Prelude.{◌≡◌, ℕ, ◌+◌, ◌-◌, ◌*◌, ◌/◌, ◌<◌, ◌≤◌, ◌⊎◌, ◌&&◌, min, Bool, true, false, nat_le, nat_lt, List, [], ◌∷◌, count_by, Some}
use Rattle.std.specs.Option.{option_map_or}
use Rattle.is_proto.specs.Lists.{Has}
use Rattle.is_proto.specs.Times.{MAX, MILLISECOND, SECOND, later}
use Rattle.is_candidate.specs.Candidates.{CandidateRecord}
use Rattle.is_rules.specs.declared.emitted.Issued.{Issued}
use Rattle.is_rules.specs.Agent.{AgentRecord}
use Rattle.is_rules.specs.Polls.{LEAST_TA, is_early, pacing_of}
use Rattle.is_rules.specs.Steps.{Answer, Call, Entry, HandleTimeout, NextTimeout, PollTimeout}
use Rattle.is_rules.specs.TimeoutTimes.{IsWithinCredit}
use Rattle.is_theorems.specs.Logs.{Logged}
use Rattle.is_theorems.specs.NotStarved.{is_timeout, timeout_count}
use Rattle.is_theorems.specs.Pending.{is_request}
use Rattle.is_theorems.specs.Shared.{BeforeEach, IsNewlyCreated, SharedRun}

-- ---- how many checks

-- The call sends a check: it issues a Binding request.
abbrev pub sends_check : Entry → Bool
sends_check e = option_map_or (λ (issued : Issued). is_request issued.class) e.emitted.issued false

-- The call is `handle_timeout`, and its time is in the span that begins at `from` and is so long. The end of the span is not in it.
abbrev pub is_in_span : {P : Type 0} → (from long : ℕ) → Call P → Bool
is_in_span from long (HandleTimeout now) = nat_le from now && nat_lt now (from + long)
is_in_span from long _ = false

-- how many checks are sent in the whole log, and in that span
abbrev pub check_count : {P : Type 0} → List (Logged P) → ℕ
check_count log = count_by (λ (x : Logged _). sends_check x.entry) log

abbrev pub checks_in_span : {P : Type 0} → (from long : ℕ) → List (Logged P) → ℕ
checks_in_span from long log = count_by (λ (x : Logged _). is_in_span from long x.call && sends_check x.entry) log

-- how many intervals of this length begin in a span that is so long
abbrev pub begun_in : (long interval : ℕ) → ℕ
begun_in long interval = (long + (interval - 1)) / interval

-- ---- a patient caller

-- `poll_timeout` returned no time, or one that has come.
abbrev pub lets_call : {P : Type 0} → ℕ → Call P → Answer → Bool
lets_call now PollTimeout (NextTimeout deadline) = option_map_or (λ at. nat_le at now) deadline true
lets_call now _ _ = false

-- The call is `handle_timeout`, and came so long before.
abbrev pub is_before : {P : Type 0} → (gap now : ℕ) → Call P → Bool
is_before gap now (HandleTimeout at) = nat_le (at + gap) now
is_before gap now _ = false

-- `handle_timeout` may be called at this time: since the last such call of this log `poll_timeout` returned a time that has come, or that call
-- came so long before. If there was none, any time will do.
abbrev pub MayCallAt : {P : Type 0} → (gap now : ℕ) → List (Logged P) → Type 0
MayCallAt gap now [] = Unit {0}
MayCallAt gap now (x ∷ before) =
    (lets_call now x.call x.entry.answer ≡ true) ⊎ ((is_before gap now x.call ≡ true) ⊎ ((is_timeout x.call ≡ false) × MayCallAt gap now before))

-- If the call is `handle_timeout`, it comes no sooner than then.
abbrev pub ComesFrom : {P : Type 0} → ℕ → Logged P → Type 0
ComesFrom at x = (now : ℕ) → x.call ≡ HandleTimeout now → at ≤ now

-- The log has a `handle_timeout` call at this time or later.
abbrev pub HasCalled : {P : Type 0} → ℕ → List (Logged P) → Type 0
HasCalled from [] = ⊥
HasCalled from (x ∷ before) = ((now : ℕ) × (x.call ≡ HandleTimeout now) × (from ≤ now)) ⊎ HasCalled from before

-- The caller is patient in the span that begins at `from` and is so long: from the first `handle_timeout` call in it to its end none comes
-- sooner than the time that `poll_timeout` returned, unless it comes so long after the one before. With 5 ms that is so of who goes by
-- `next_call_soon`, if the call before served no early request.
abbrev pub IsPatient : {P : Type 0} → (from long gap : ℕ) → List (Logged P) → Type 0
IsPatient from long gap [] = Unit {0}
IsPatient from long gap (x ∷ before) =
    ((now : ℕ) → x.call ≡ HandleTimeout now → now < from + long → HasCalled from before → MayCallAt gap now before) × IsPatient from long gap before

module _ {H P : Type 0} where
  -- When `poll_timeout` is called after a `handle_timeout` call in the span, the pacing interval is at least `pace`. If there is nothing to
  -- check, the next call comes after 3 s.
  abbrev pub IsPacedAt : (from long pace : ℕ) → AgentRecord H P → Logged P → Type 0
  IsPacedAt from long pace a x =
      x.call ≡ PollTimeout → (last : ℕ) → a.last_time ≡ Some last → from ≤ last → last < from + long → pace ≤ min (3 * SECOND) (pacing_of last a)

  -- In the second that begins then, the pacing interval that is set is at least 50 ms, the default.
  abbrev pub IsSlowAt : ℕ → AgentRecord H P → Logged P → Type 0
  IsSlowAt from a x =
      x.call ≡ PollTimeout → (last : ℕ) → a.last_time ≡ Some last → from ≤ last → last < from + SECOND → 50 * MILLISECOND ≤ a.timing_advance

  -- In the second that begins then, the call is the first one; or it comes no sooner than the time that `poll_timeout` returned, or 25 ms after
  -- the one before; or 25 ms after the last one that served no early request; or the charges for checks are at most 225 ms ahead of it, as when
  -- `next_call_soon` of `Modern` brings it forward.
  abbrev pub IsFrugalAt : ℕ → List (Logged P) → AgentRecord H P → Logged P → Type 0
  IsFrugalAt from before a x =
      (now : ℕ) → x.call ≡ HandleTimeout now → now < from + SECOND → HasCalled from before
      → MayCallAt (25 * MILLISECOND) now before ⊎ ((last : ℕ) → a.last_time ≡ Some last → from ≤ last
      → (later last (25 * MILLISECOND) ≤ now) ⊎ ((from ≤ now) × (a.charged_until ≤ now + 225 * MILLISECOND)))

  -- It is not early in this second: the profile is `Original`, the agent is settled, or no pair is at its beginning, and no urgent one is due.
  abbrev pub IsLateAt : ℕ → AgentRecord H P → Logged P → Type 0
  IsLateAt from a x = x.call ≡ PollTimeout → (last : ℕ) → a.last_time ≡ Some last → from ≤ last → last < from + SECOND → is_early last a ≡ false

  module _ (mac : H → List ℕ → List ℕ → List ℕ) (answers : P → CandidateRecord → ℕ → ℕ → Type 0) where
    -- The caller is frugal in this second: at each call.
    abbrev pub IsFrugal : ℕ → (first : AgentRecord H P) (log : List (Logged P)) (last : AgentRecord H P) → SharedRun mac answers first log last → Type 0
    IsFrugal from first [] last run = Unit {0}
    IsFrugal from first (x ∷ before) last run = IsFrugalAt from before run.0 x × IsFrugal from first before run.0 run.3

    -- ---- the theorems

    -- Any caller: only `handle_timeout` sends checks, and each call at most one.
    abbrev pub TimeoutsCheck : Type 0
    TimeoutsCheck = (first last : AgentRecord H P) (log : List (Logged P)) → SharedRun mac answers first log last → check_count log ≤ timeout_count log

    -- In any span of time in which the caller is patient, at most as many checks are sent as pacing intervals begin in it. The agent itself
    -- sends a check in each `handle_timeout` call in which a pair is due, however soon it comes after the one before.
    abbrev pub ChecksArePaced : Type 0
    ChecksArePaced =
        (first last : AgentRecord H P) (log : List (Logged P)) (from long pace : ℕ) → IsNewlyCreated first → (run : SharedRun mac answers first log last)
        → IsPatient from long pace log → BeforeEach mac answers (IsPacedAt from long pace) first log last run → 0 < pace → from + long ≤ MAX
        → checks_in_span from long log ≤ begun_in long pace

    -- With the default pacing interval, in any second: at most 200 checks with either profile, also of a caller whose calls in it are only
    -- 5 ms apart; 20 of one that goes by `poll_timeout` in it, if the agent is not early then; and 49 of a frugal one, early or not. This
    -- last bound needs some time before the end of the clock, since charges do not grow past it.
    abbrev pub SecondsHaveFewChecks : Type 0
    SecondsHaveFewChecks =
        (first last : AgentRecord H P) (log : List (Logged P)) (from : ℕ) → IsNewlyCreated first → (run : SharedRun mac answers first log last)
        → BeforeEach mac answers (IsSlowAt from) first log last run → from + SECOND ≤ MAX
        → (IsPatient from SECOND LEAST_TA log → checks_in_span from SECOND log ≤ 200)
        × (IsPatient from SECOND (50 * MILLISECOND) log → BeforeEach mac answers (IsLateAt from) first log last run
        → checks_in_span from SECOND log ≤ 20)
        × (IsFrugal from first log last run → from + 2 * SECOND ≤ MAX → checks_in_span from SECOND log ≤ 49)

    -- Whatever the log before it, a call is frugal in the second that begins then, if it comes no sooner than a time within credit: that of any
    -- state since the last `handle_timeout` call, as `poll_timeout` and the other queries return it (`KeepsCredit`).
    abbrev pub CreditIsFrugal : Type 0
    CreditIsFrugal =
        (asked last : AgentRecord H P) (since before : List (Logged P)) (x : Logged P) (from at : ℕ) → SharedRun mac answers asked since last
        → ((y : Logged P) → Has since y → is_timeout y.call ≡ false) → IsWithinCredit asked at → ComesFrom at x → from ≤ MAX
        → IsFrugalAt from before last x

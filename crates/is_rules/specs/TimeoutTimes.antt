-- The time that `poll_timeout` returns: later than the last `handle_timeout` call, not late, and within the credit for checks.
use Rattle.std.specs.Prelude.{◌≡◌, ℕ, ◌*◌, ◌<◌, ◌≤◌, ◌⊎◌, min, max, true, false, is_some, List, Option, Some, None, IfSome, IsSomeAnd, Ok, if◌then◌else◌}
use Rattle.rand_core.specs.Stream.{Stream}
use Rattle.is_proto.specs.Lists.{Has}
use Rattle.is_proto.specs.Times.{MAX, SECOND, later}
use Rattle.is_stun.specs.Timing.{is_modern}
use Rattle.is_pair.specs.Pairs.{PairRecord}
use Rattle.is_pair.specs.Due.{call_time_of}
use Rattle.is_rules.specs.Agent.{AgentRecord}
use Rattle.is_rules.specs.Charging.{CHARGE, URGENT_CREDIT}
use Rattle.is_rules.specs.Nominating.{is_pressing}
use Rattle.is_rules.specs.Polls.{LEAST_TA, PollsTimeout, is_idle, soon}
use Rattle.is_rules.specs.Queue.{request_at}
use Rattle.is_rules.specs.Timeouts.{TimesOut}
use Rattle.is_rules.specs.declared.emitted.Emitted.{Emitted}

-- The next timeout is later than the time of the last `handle_timeout` call (`last_time`).
abbrev pub IsAhead : {H P : Type 0} → AgentRecord H P → Option ℕ → Type 0
IsAhead old deadline = IfSome deadline (λ at. (last : ℕ) → old.last_time ≡ Some last → 0 < old.timing_advance → last < MAX → last < at)

-- The next timeout is not later than the time at which any pair is due or its consent ends, except for pacing.
abbrev pub ComesInTime : {H P : Type 0} → AgentRecord H P → Option ℕ → Type 0
ComesInTime old deadline =
    IfSome deadline (λ at. (last : ℕ) → old.last_time ≡ Some last → old.lite ≡ false
    → (p : PairRecord) → Has old.pairs p → at ≤ max (call_time_of last old.timing p) (soon old last))

-- While a selected path is still to be nominated, or its pair is gone and another one may be selected, the next timeout is one pacing
-- interval Ta after the last call.
abbrev pub ComesSoon : {H P : Type 0} → AgentRecord H P → Option ℕ → Type 0
ComesSoon old deadline = IfSome deadline (λ at. (last : ℕ) → old.last_time ≡ Some last → is_pressing old ≡ true → at ≡ soon old last)

-- There is a next timeout if there was a last `handle_timeout` call.
abbrev pub IsGiven : {H P : Type 0} → AgentRecord H P → Option ℕ → Type 0
IsGiven old deadline = is_some deadline ≡ is_some old.last_time

-- A `handle_timeout` call at this time comes 25 ms after the last one; or at least 5 ms after it, while the charges for checks are at most 225 ms
-- ahead of it.
abbrev pub IsWithinCredit : {H P : Type 0} → AgentRecord H P → ℕ → Type 0
IsWithinCredit a now =
    (last : ℕ) → a.last_time ≡ Some last
    → (later last CHARGE ≤ now) ⊎ ((later last LEAST_TA ≤ now) × (a.charged_until ≤ later now URGENT_CREDIT))

-- With a pacing interval Ta of at least 25 ms, a call at the time that is given is within credit.
abbrev pub KeepsCredit : {H P : Type 0} → AgentRecord H P → Option ℕ → Type 0
KeepsCredit a given = CHARGE ≤ a.timing_advance → IfSome given (λ at. IsWithinCredit a at)

-- one pacing interval Ta after the last call; if there is nothing to check, 3 s after it, if that is sooner
abbrev pub soonest : {H P : Type 0} → AgentRecord H P → ℕ → ℕ
soonest a last = if is_idle a then min (soon a last) (later last (3 * SECOND)) else soon a last

-- What `poll_timeout` returns is as `IsAhead` says.
abbrev pub TimeoutIsAhead : Type 0 → Type 0 → Type 0
TimeoutIsAhead H P = (old new : AgentRecord H P) (deadline : Option ℕ) → PollsTimeout old deadline new → IsAhead old deadline

-- What `poll_timeout` returns is as `ComesInTime` says.
abbrev pub TimeoutIsInTime : Type 0 → Type 0 → Type 0
TimeoutIsInTime H P = (old new : AgentRecord H P) (deadline : Option ℕ) → PollsTimeout old deadline new → ComesInTime old deadline

-- What `poll_timeout` returns is as `ComesSoon` says.
abbrev pub TimeoutIsSoon : Type 0 → Type 0 → Type 0
TimeoutIsSoon H P = (old new : AgentRecord H P) (deadline : Option ℕ) → PollsTimeout old deadline new → ComesSoon old deadline

-- What `poll_timeout` returns is as `IsGiven` says.
abbrev pub TimeoutIsGiven : Type 0 → Type 0 → Type 0
TimeoutIsGiven H P = (old new : AgentRecord H P) (deadline : Option ℕ) → PollsTimeout old deadline new → IsGiven old deadline

-- What `poll_timeout` returns is as `KeepsCredit` says.
abbrev pub TimeoutKeepsCredit : Type 0 → Type 0 → Type 0
TimeoutKeepsCredit H P = (old new : AgentRecord H P) (deadline : Option ℕ) → PollsTimeout old deadline new → KeepsCredit old deadline

module _ {H P : Type 0} (mac : H → List ℕ → List ℕ → List ℕ) where
  -- With the profile `Modern`, a `handle_timeout` call returns `Ok` at this time.
  pub record IsNotedCall (old : AgentRecord H P) (now : ℕ) (s : Stream) (emitted : Emitted) (new : AgentRecord H P) (t : Stream) : Type 0 where
    pub by_rule : is_modern old.timing ≡ true
    pub call : TimesOut mac now old s (Ok tt) emitted new t

  -- A `handle_timeout` call of a full agent that knows the peer returns `Ok`, and serves no early request.
  pub record IsFullCall (old : AgentRecord H P) (now : ℕ) (s : Stream) (emitted : Emitted) (new : AgentRecord H P) (t : Stream) : Type 0 where
    pub full : old.lite ≡ false
    pub known : is_some old.remote_creds ≡ true
    pub no_request : request_at now old ≡ None
    pub call : TimesOut mac now old s (Ok tt) emitted new t

module _ (P : Type 0) {H : Type 0} (mac : H → List ℕ → List ℕ → List ℕ) where
  -- After a `handle_timeout` call with the profile `Modern` that returns `Ok` there is a last call, also if it served an early request.
  abbrev pub CallsAreNoted : Type 0
  CallsAreNoted = (old new : AgentRecord H P) (now : ℕ) (s t : Stream) (emitted : Emitted) → IsNotedCall mac old now s emitted new t → is_some new.last_time ≡ true

  -- After a `handle_timeout` call with the profile `Modern` that returns `Ok` there is a next timeout. If the call served no early
  -- request, that is at least one pacing interval later, or 3 s later if there is nothing to check.
  abbrev pub CallsAreFollowed : Type 0
  CallsAreFollowed =
      (old new polled : AgentRecord H P) (now : ℕ) (s t : Stream) (emitted : Emitted) → IsNotedCall mac old now s emitted new t
      → (deadline : Option ℕ) → PollsTimeout new deadline polled → IsSomeAnd deadline (λ at. request_at now old ≡ None → soonest new now ≤ at)

  -- After a `handle_timeout` call of a full agent that knows the peer and serves no early request, no path is left to be selected or
  -- nominated at once.
  abbrev pub NominationsAreSent : Type 0
  NominationsAreSent =
      (old new : AgentRecord H P) (now : ℕ) (s t : Stream) (emitted : Emitted) → IsFullCall mac old now s emitted new t → is_pressing new ≡ false

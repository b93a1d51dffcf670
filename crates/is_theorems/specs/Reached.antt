-- How soon a pair that is due is checked, in either role, whatever the agent receives and while candidates are added: other pairs may
-- be checked first, each at most twice, and paths that are nominated at once. So a controlled agent selects a path, if the peer
-- nominates the pair's path and the checks on it are answered.
use Rattle.std.specs.Prelude.{◌≡◌, ℕ, ◌+◌, ◌*◌, ◌<◌, ◌≤◌, ◌⊎◌, ◌&&◌, Bool, true, false, not, List, [], ◌∷◌, ◌++◌, length, count_by, Some, None, is_some, if◌then◌else◌}
use Rattle.rand_core.specs.Stream.{Stream}
use Rattle.is_proto.specs.Lists.{Has}
use Rattle.is_proto.specs.Times.{MAX}
use Rattle.is_candidate.specs.Candidates.{CandidateRecord}
use Rattle.is_pair.specs.Checks.{unanswered_count}
use Rattle.is_pair.specs.Due.{due_time_of, stays_answered}
use Rattle.is_pair.specs.Pairs.{PairRecord, is_valid}
use Rattle.is_stun.specs.declared.header.Class.TheVariants as class
use Rattle.is_stun.specs.Timing.{is_modern, consent_of}
use Rattle.is_rules.specs.Agent.{AgentRecord}
use Rattle.is_rules.specs.Effects.{last_of}
use Rattle.is_theorems.specs.Asked.{IsOnlyPair, IsAnsweredIn, IsAskedIn, MayEndIn}
use Rattle.is_theorems.specs.AskedExecutions.{Ends}
use Rattle.is_rules.specs.declared.emitted.Path.{Path}
use Rattle.is_theorems.specs.Logs.{Logged}
use Rattle.is_theorems.specs.Progress.{IsChecking, checks_for}
use Rattle.is_rules.specs.Nominating.{numbers}
use Rattle.is_rules.specs.Owed.{one_if}
use Rattle.is_rules.specs.Queue.{request_at}
use Rattle.is_theorems.specs.Rounds.{LoggedRound, entries_of, began_at, is_between, Part, RunsOn}
use Rattle.is_theorems.specs.Runs.{IsFresh, IsTopPath}
use Rattle.is_rules.specs.Sending.{path_of}
use Rattle.is_rules.specs.Steps.{Call, Entry, SetMtu, SetControlTieBreaker, SetMaxCandidatePairs, SetMaxCandidates, SetMaxDiscovered, SetRenomination, SetTimingAdvance, SetLocalPreference, SetControlling, SetLocalCredentials, AddLocalCandidate, AddRemoteCandidate, HandleTimeout, Done}
use Rattle.is_rules.specs.Emitted.{issued_as}

-- What may come between two `handle_timeout` calls: packets and polls, candidates that are added, and settings that change neither
-- pairs nor the timing of their checks. With the profile `Modern` nominations have numbers once renomination is switched on, which may change
-- the timing; so then it is only switched off.
abbrev pub is_in_round : {P : Type 0} → (modern : Bool) → Call P → Bool
is_in_round modern (SetMtu target warn) = true
is_in_round modern (SetControlTieBreaker tie_breaker) = true
is_in_round modern (SetMaxCandidatePairs n) = true
is_in_round modern (SetMaxDiscovered limit) = true
is_in_round modern (SetMaxCandidates limit) = true
is_in_round modern (SetRenomination renominates) = not (modern && renominates)
is_in_round modern (SetTimingAdvance by) = true
is_in_round modern (SetLocalPreference object) = true
is_in_round modern (SetControlling controlling) = true
is_in_round modern (SetLocalCredentials creds) = true
is_in_round modern (AddLocalCandidate c) = true
is_in_round modern (AddRemoteCandidate c) = true
is_in_round modern call = is_between call

-- a round whose `handle_timeout` call is later than `by` and returns Ok, and has only such calls after it
pub record IsPassing {P : Type 0} (modern : Bool) (by : ℕ) (r : LoggedRound P) : Type 0 where
  pub comes : r.timeout.call ≡ HandleTimeout r.now
  pub done : r.timeout.entry.answer ≡ Done
  pub late : by < r.now
  pub early : r.now < MAX
  pub between : (x : Logged P) → Has r.following x → is_in_round modern x.call ≡ true

-- The `handle_timeout` call of one of the rounds sends a check on the path.
abbrev pub ChecksIn : {P : Type 0} → List (LoggedRound P) → Path → Type 0
ChecksIn rounds path =
    (r : LoggedRound _) × (id : List ℕ) × Has rounds r × (r.timeout.entry.emitted.issued ≡ Some (issued_as path class.Request id))

-- If a check is sent on the path, a success response is received on it in the same round.
abbrev pub IsMetOn : {P : Type 0} → Path → LoggedRound P → Type 0
IsMetOn path r = (id : List ℕ) → r.timeout.entry.emitted.issued ≡ Some (issued_as path class.Request id) → IsAnsweredIn r.following path

-- The call selects a path.
abbrev pub selects : Entry → Bool
selects e = is_some (last_of e.emitted.selected_paths)

-- how many calls of the segment select a path
abbrev pub selection_count : {P : Type 0} → List (Logged P) → ℕ
selection_count part = count_by (λ (x : Logged _). selects x.entry) part

module _ {H P : Type 0} where
  -- If nominations have numbers, each path that is selected is checked at once, before pairs that are due earlier
  -- (`nominates_at_once`). So many such checks may be sent from this state on, while so many calls select a path: one for each of them,
  -- and one if a nomination is to be sent already.
  abbrev pub nominations_ahead : AgentRecord H P → ℕ → ℕ
  nominations_ahead a selections = if numbers a then one_if a.nomination_due + selections else 0

  -- Consent does not end before this time: the last check of the pair that got a response is recent enough, or consent does not end
  -- by a clock. A pair that is not valid never got one.
  abbrev pub IsLasting : ℕ → AgentRecord H P → PairRecord → Type 0
  IsLasting now a p = is_valid p ≡ true → stays_answered (consent_of a.timing) now p ≡ true

  -- A pair waits for its check: its due time, computed at time `at`, is at most `by`, and it will not be removed after timeout, or when
  -- consent ends, before the check. It is not valid, so nothing nominates it first, or its due time is fixed already.
  pub record IsInLine (at by : ℕ) (a : AgentRecord H P) (p : PairRecord) : Type 0 where
    pub checking : IsChecking a
    pub queue : a.queue ≡ []
    pub there : Has a.pairs p
    pub due : due_time_of at a.timing p ≤ by
    pub settled : (is_valid p ≡ false) ⊎ (is_some p.due ≡ true)
    pub young : unanswered_count p.checks < a.timing.max_retransmits
    pub lasting : IsLasting at a p

  -- The rounds suffice for a pair that is due by the time `by` when they begin: their `handle_timeout` calls are later than `by`.
  -- For n pairs there are at least 2n - 1 rounds, and one more for each pair that is added in them; if checks may go ahead,
  -- 4n - 1, and two more for each such pair. Each nomination that may be sent at once (`nominations_ahead`) counts like such a pair.
  pub record Suffice (by : ℕ) (start : AgentRecord H P) (rounds : List (LoggedRound P)) (last : AgentRecord H P) (p : PairRecord) : Type 0 where
    pub at : ℕ
    pub began : began_at rounds ≡ Some at
    pub line : IsInLine at by start p
    pub passing : (r : LoggedRound P) → Has rounds r → IsPassing (is_modern start.timing) by r
    pub lasting : (r : LoggedRound P) → Has rounds r → IsLasting r.now start p
    pub enough : checks_for (is_modern start.timing) (2 * length start.pairs + last.next_number + nominations_ahead start (selection_count (entries_of rounds)))
        ≤ length rounds + 1 + checks_for (is_modern start.timing) start.next_number

  module _ (mac : H → List ℕ → List ℕ → List ℕ) (answers : P → CandidateRecord → ℕ → ℕ → Type 0) where
    -- Between the `handle_timeout` calls of a segment, a call may remove a pair that uses the path's addresses. Only the addition
    -- of a candidate may, with either profile.
    abbrev pub IsEndedIn : (before : List (Logged P)) (start : AgentRecord H P) (s : Stream) (part : List (Logged P)) (last : AgentRecord H P) (t : Stream)
        → RunsOn mac answers before start s part last t → Path → Type 0
    IsEndedIn before start s [] last t run path = ⊥
    IsEndedIn before start s (x ∷ part) last t run path =
        ((is_in_round true x.call ≡ true) × Ends answers run.0 x.call x.entry path) ⊎ IsEndedIn before start s part run.0 run.1 run.2 path

    -- If rounds in the log suffice for a pair, a check is sent on its path in one of them, unless a success response is received
    -- on the path in one of them, or a candidate that is added in them may remove a pair of the path. This holds in either role,
    -- whatever the agent receives and nominates.
    abbrev pub RoundsReach : AgentRecord H P → Stream → List (Logged P) → Type 0
    RoundsReach first s log =
        (before : List (Logged P)) (start last : AgentRecord H P) (rounds : List (LoggedRound P)) (p : PairRecord) (by : ℕ)
        → (found : Part mac answers first s log before start (entries_of rounds) last) → Suffice by start rounds last p
        → ChecksIn rounds (path_of start p)
        ⊎ (IsAnsweredIn (entries_of rounds) (path_of start p)
        ⊎ IsEndedIn before start found.at (entries_of rounds) last found.following found.run (path_of start p))

    -- Assume also that each check on the pair's path is answered in its round, and that the peer nominates the path to the
    -- controlled agent in one of them. A `handle_timeout` call that serves no early request follows. If only one pair uses the
    -- addresses of the pair's path then, a path is selected by the end of this call, unless a pair that uses them may have been
    -- removed.
    abbrev pub AskedRoundsSelectIn : AgentRecord H P → Stream → List (Logged P) → Type 0
    AskedRoundsSelectIn first s log =
        (before : List (Logged P)) (start last : AgentRecord H P) (rounds : List (LoggedRound P)) (timeout : Logged P) (now : ℕ)
        (p : PairRecord) (by : ℕ)
        → (found : Part mac answers first s log before start (timeout ∷ entries_of rounds) last) → Suffice by start rounds found.run.0 p
        → ((r : LoggedRound P) → Has rounds r → IsMetOn (path_of start p) r)
        → IsAskedIn mac answers before start found.at (entries_of rounds) found.run.0 found.run.1 found.run.2 (path_of start p)
        → timeout.call ≡ HandleTimeout now → timeout.entry.answer ≡ Done → request_at now found.run.0 ≡ None → IsOnlyPair last (path_of start p)
        → IsTopPath mac answers (timeout ∷ (entries_of rounds ++ before)) last
        ⊎ MayEndIn mac answers first s log (timeout ∷ entries_of rounds) (path_of start p)

    abbrev pub PairsAreReached : Type 0
    PairsAreReached = (first : AgentRecord H P) (s : Stream) (log : List (Logged P)) → IsFresh first → RoundsReach first s log

    abbrev pub AskedRoundsSelect : Type 0
    AskedRoundsSelect = (first : AgentRecord H P) (s : Stream) (log : List (Logged P)) → IsFresh first → AskedRoundsSelectIn first s log

-- Segments of a log. In a polling cycle, `poll_timeout` returns a time and `handle_timeout` is called then or later. In a round,
-- packets and polls follow a `handle_timeout` call. If the checks of a pair are answered in their rounds, a path is selected in
-- one of them.
use Rattle.std.specs.Prelude.{◌≡◌, ℕ, ◌<◌, ◌≤◌, ◌⊎◌, Bool, true, false, List, [], ◌∷◌, ◌++◌, length, Option, Some, None, is_some}
use Rattle.rand_core.specs.Stream.{Stream}
use Rattle.is_proto.specs.Lists.{Has, is_empty}
use Rattle.is_proto.specs.Times.{MAX}
use Rattle.is_candidate.specs.Candidates.{CandidateRecord}
use Rattle.is_pair.specs.Pairs.{PairRecord}
use Rattle.is_pair.specs.Turns.{due_by}
use Rattle.is_stun.specs.declared.header.Class.TheVariants as class
use Rattle.is_stun.specs.Message.{Message}
use Rattle.is_stun.specs.Timing.{is_modern}
use Rattle.is_rules.specs.declared.emitted.Path.{Path}
use Rattle.is_rules.specs.Emitted.{issued_as}
use Rattle.is_rules.specs.Agent.{AgentRecord}
use Rattle.is_rules.specs.Sending.{path_of}
use Rattle.is_rules.specs.Steps.{Call, ReceivePacket, HandleTimeout, PollTransmit, PollTimeout, PollEvent, Done, Polled, NextTimeout, Step}
use Rattle.is_rules.specs.Sound.{GivesBased}
use Rattle.is_rules.specs.Brought.{Brings}
use Rattle.is_rules.specs.Effects.{last_of}
use Rattle.is_theorems.specs.Logs.{Logged}
use Rattle.is_theorems.specs.Runs.{IsFresh, Run, Point, IsTopPath}
use Rattle.is_theorems.specs.Progress.{checks_for, IsChecking, IsOfUse, Awaits, IsUnanswered}

-- ---- the entries of a round

-- newest first: what comes after a `handle_timeout` call, and the call
pub record LoggedRound (P : Type 0) : Type 0 where
  pub following : List (Logged P)
  pub timeout : Logged P
  pub now : ℕ

-- the entries of rounds, newest first
abbrev pub entries_of : {P : Type 0} → List (LoggedRound P) → List (Logged P)
entries_of [] = []
entries_of (r ∷ older) = r.following ++ r.timeout ∷ entries_of older

-- the time of the oldest round
abbrev pub began_at : {P : Type 0} → List (LoggedRound P) → Option ℕ
began_at [] = None
began_at (r ∷ []) = Some r.now
began_at (r ∷ older) = began_at older

abbrev pub is_poll : {P : Type 0} → Call P → Bool
is_poll PollTransmit = true
is_poll PollTimeout = true
is_poll PollEvent = true
is_poll _ = false

-- a poll, or a packet that is received
abbrev pub is_between : {P : Type 0} → Call P → Bool
is_between (ReceivePacket now path bytes) = true
is_between call = is_poll call

-- `poll_transmit` returned no packet, and only polls came after it.
abbrev pub AreTaken : {P : Type 0} → List (Logged P) → Type 0
AreTaken [] = ⊥
AreTaken (x ∷ before) =
    ((x.call ≡ PollTransmit) × (x.entry.answer ≡ Polled None)) ⊎ ((is_poll x.call ≡ true) × AreTaken before)

-- An accepted success response was received.
abbrev pub BringsSuccess : {P : Type 0} → Logged P → Type 0
BringsSuccess x = (at : ℕ) × (by : Path) × (m : Message) × Brings x.call x.entry at by m × (m.class ≡ class.Success)

-- A polling cycle: `poll_timeout` returns a time, any polls follow, and `handle_timeout` is called then or later.
pub record IsCycle {P : Type 0} (asked : Logged P) (polls : List (Logged P)) (timeout : Logged P) (deadline now : ℕ) : Type 0 where
  pub asks : asked.call ≡ PollTimeout
  pub timed_out : asked.entry.answer ≡ NextTimeout (Some deadline)
  pub polled : (x : Logged P) → Has polls x → is_poll x.call ≡ true
  pub comes : timeout.call ≡ HandleTimeout now
  pub done : timeout.entry.answer ≡ Done
  pub kept : deadline ≤ now

-- A round: a `handle_timeout` call, and then only packets and polls. If a check is sent on the path, an accepted success response
-- is received in the same round.
pub record IsRound {P : Type 0} (by : ℕ) (path : Path) (r : LoggedRound P) : Type 0 where
  pub comes : r.timeout.call ≡ HandleTimeout r.now
  pub done : r.timeout.entry.answer ≡ Done
  pub late : by < r.now
  pub early : r.now < MAX
  pub between : (x : Logged P) → Has r.following x → is_between x.call ≡ true
  pub met : (id : List ℕ) → r.timeout.entry.emitted.issued ≡ Some (issued_as path class.Request id)
      → (x : Logged P) × Has r.following x × BringsSuccess x

module _ {H P : Type 0} (mac : H → List ℕ → List ℕ → List ℕ) (answers : P → CandidateRecord → ℕ → ℕ → Type 0) where
  -- ---- segments of a log

  -- further entries after a log and its state, and the state that they lead to
  abbrev pub RunsOn : List (Logged P) → AgentRecord H P → Stream → List (Logged P) → AgentRecord H P → Stream → Type 0
  RunsOn before start s [] last t = (last ≡ start) × (t ≡ s)
  RunsOn before start s (x ∷ part) last t =
      (mid : AgentRecord H P) × (u : Stream) × RunsOn before start s part mid u
      × (x.number ≡ length (part ++ before)) × GivesBased x.call × Step mac answers mid u x.call x.entry last t

  -- The segment is in the log: the log before it led to `start`, and the segment leads from `start` to `last`.
  pub record Part (first : AgentRecord H P) (s : Stream) (log before : List (Logged P)) (start : AgentRecord H P) (part : List (Logged P))
      (last : AgentRecord H P) : Type 0 where
    pub rest : List (Logged P)
    pub split : log ≡ rest ++ (part ++ before)
    pub at : Stream
    pub led : Run mac answers first s before start at
    pub following : Stream
    pub run : RunsOn before start at part last following

  -- The agent is controlling in each state of the segment.
  abbrev pub IsControllingIn : (before : List (Logged P)) (start : AgentRecord H P) (s : Stream) (part : List (Logged P))
      (last : AgentRecord H P) (t : Stream)
      → RunsOn before start s part last t → Type 0
  IsControllingIn before start s [] last t run = last.controlling ≡ true
  IsControllingIn before start s (x ∷ part) last t run = (last.controlling ≡ true) × IsControllingIn before start s part run.0 run.1 run.2

  -- An accepted success response of the segment selects a path: that of an eligible pair with the greatest stored priority.
  abbrev pub SegmentSelects : AgentRecord H P → Stream → List (Logged P) → List (Logged P) → Type 0
  SegmentSelects first s log part =
      (before : List (Logged P)) × (mid after : AgentRecord H P) × (x : Logged P)
      × Point mac answers first s log before mid x after × Has part x × BringsSuccess x
      × (is_some (last_of x.entry.emitted.selected_paths) ≡ true) × IsTopPath mac answers (x ∷ before) after

  -- ---- the theorems

  -- Each segment of the log leads from one state to another.
  abbrev pub PartsPersist : AgentRecord H P → Stream → List (Logged P) → Type 0
  PartsPersist first s log =
      (rest part before : List (Logged P)) → log ≡ rest ++ (part ++ before)
      → (start last : AgentRecord H P) × Part first s log before start part last

  -- For each polling cycle in the log of an agent that has a pair to check, the `handle_timeout` call makes progress, if no
  -- packet is queued when `poll_timeout` is called: all were polled, or nothing queued one since.
  abbrev pub LoggedTimeoutsAreOfUse : AgentRecord H P → Stream → List (Logged P) → Type 0
  LoggedTimeoutsAreOfUse first s log =
      (before polls : List (Logged P)) (start last : AgentRecord H P) (asked timeout : Logged P) (deadline now : ℕ)
      → Part first s log before start (timeout ∷ (polls ++ asked ∷ [])) last → AreTaken before ⊎ (start.packets ≡ []) → IsCycle asked polls timeout deadline now
      → IsChecking start → is_empty start.pairs ≡ false → deadline < MAX
      → IsOfUse start timeout.entry.emitted last

  -- At a `handle_timeout` call in the log n pairs are due by an earlier time `by`. The call begins n rounds, or 2n if checks may
  -- go ahead, all later than `by`, in which the checks of one of these pairs are answered. Then a path is selected in one of the rounds,
  -- whatever else is received.
  abbrev pub RoundsSelect : AgentRecord H P → Stream → List (Logged P) → Type 0
  RoundsSelect first s log =
      (before : List (Logged P)) (start last : AgentRecord H P) (rounds : List (LoggedRound P)) (p : PairRecord) (at by : ℕ)
      → (part : Part first s log before start (entries_of rounds) last)
      → began_at rounds ≡ Some at → Awaits at by start p → IsUnanswered start p
      → ((r : LoggedRound P) → Has rounds r → IsRound by (path_of start p) r)
      → IsControllingIn before start part.at (entries_of rounds) last part.following part.run
      → checks_for (is_modern start.timing) (length (due_by by at start.timing start.pairs)) ≤ length rounds
      → SegmentSelects first s log (entries_of rounds)

  abbrev pub AnsweredRoundsSelect : Type 0
  AnsweredRoundsSelect = (first : AgentRecord H P) (s : Stream) (log : List (Logged P)) → IsFresh first → RoundsSelect first s log

  -- Each segment of an execution leads from one state to another.
  abbrev pub PartsAreRuns : Type 0
  PartsAreRuns = (first last : AgentRecord H P) (s t : Stream) (log : List (Logged P)) → Run mac answers first s log last t → PartsPersist first s log

  abbrev pub CyclesAreOfUse : Type 0
  CyclesAreOfUse = (first : AgentRecord H P) (s : Stream) (log : List (Logged P)) → IsFresh first → LoggedTimeoutsAreOfUse first s log

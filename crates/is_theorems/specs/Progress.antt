-- What an agent achieves if `handle_timeout` is called at the times that `poll_timeout` returns: every timeout makes
-- progress, and each due pair is checked (starvation freedom).
use Rattle.std.specs.Prelude.{Bool, ◌≡◌, ◌≢◌, ℕ, ◌&&◌, ◌*◌, ◌<◌, ◌≤◌, true, false, List, [], ◌∷◌, length, Option, Some, None, is_some, Ok, ◌⊎◌, if◌then◌else◌}
use Rattle.rand_core.specs.Stream.{Stream}
use Rattle.is_proto.specs.Lists.{Has, is_empty}
use Rattle.is_proto.specs.Times.{MAX}
use Rattle.is_proto.specs.Packets.{Packet}
use Rattle.is_candidate.specs.Candidates.{CandidateRecord}
use Rattle.is_pair.specs.Checks.{unanswered_count}
use Rattle.is_pair.specs.Pairs.{PairRecord, is_valid, is_nominated}
use Rattle.is_pair.specs.Due.{due_time_of}
use Rattle.is_stun.specs.declared.header.Class.TheVariants as class
use Rattle.is_stun.specs.Message.{Message}
use Rattle.is_rules.specs.declared.event.IceAgentEvent.{IceAgentEvent}
use Rattle.is_rules.specs.declared.emitted.Path.{Path}
use Rattle.is_rules.specs.declared.emitted.Emitted.{Emitted}
use Rattle.is_rules.specs.Emitted.{issued_as}
use Rattle.is_rules.specs.Agent.{AgentRecord}
use Rattle.is_rules.specs.Sending.{path_of}
use Rattle.is_stun.specs.Reading.{Reads}
use Rattle.is_stun.specs.Timing.{is_modern}
use Rattle.is_rules.specs.Nominating.{is_eligible, is_pressing, nominates_at_once, numbers}
use Rattle.is_rules.specs.Points.{IsTopSelected}
use Rattle.is_rules.specs.Queue.{request_at}
use Rattle.is_rules.specs.Steps.{Done, Entry, Flag, HandleTimeout, ReceivePacket, Step}
use Rattle.is_rules.specs.Polls.{PollsTimeout}
use Rattle.is_rules.specs.Timeouts.{TimesOut}
use Rattle.is_rules.specs.Sound.{IsSound}
use Rattle.is_rules.specs.Brought.{Brings}
use Rattle.is_theorems.specs.Logs.{Logged}
use Rattle.is_theorems.specs.Runs.{IsFresh, AtEach, IsTopPath}
use Rattle.is_pair.specs.Turns.{IsPaced, due_by}

-- No pair has this number.
abbrev pub IsGone : ℕ → List PairRecord → Type 0
IsGone number pairs = (p : PairRecord) → Has pairs p → p.number ≢ number

-- raw bytes that were received, and the recorded result
pub record Arrival : Type 0 where
  pub at : ℕ
  pub via : Path
  pub bytes : List ℕ
  pub entry : Entry

-- The bytes encode a success response, and it was accepted.
abbrev pub IsSuccess : Arrival → Type 0
IsSuccess x = (m : Message) × Reads x.bytes m × (x.entry.answer ≡ Flag true) × (m.class ≡ class.Success)

abbrev pub HasSuccess : List Arrival → Type 0
HasSuccess arrivals = (x : Arrival) × Has arrivals x × IsSuccess x

-- a `handle_timeout` call, and what is received after it, up to the next one
pub record Round : Type 0 where
  pub now : ℕ
  pub emitted : Emitted
  pub arrivals : List Arrival

-- So many checks hold n checks of the pair that is due first: if checks may go ahead, of two checks one after another at least one is
-- of the pair that is due first.
abbrev pub checks_for : Bool → ℕ → ℕ
checks_for ahead n = if ahead then 2 * n else n

module _ {H P : Type 0} where
  -- The agent checks pairs: it is not lite, and the remote credentials are known.
  pub record IsChecking (a : AgentRecord H P) : Type 0 where
    pub full : a.lite ≡ false
    pub peer : is_some a.remote_creds ≡ true

  -- At a `handle_timeout` call the agent is controlled, or its nominations have no numbers. Otherwise it checks each path that it selects
  -- at once, before the pairs that are due earlier (`nominates_at_once`).
  abbrev pub ChecksInTurn : AgentRecord H P → Type 0
  ChecksInTurn a = (a.controlling && numbers a) ≡ false

  -- A check is sent on the pair's path.
  abbrev pub ChecksOn : AgentRecord H P → Emitted → PairRecord → Type 0
  ChecksOn a emitted p = (id : List ℕ) × (emitted.issued ≡ Some (issued_as (path_of a p) class.Request id))

  -- The call makes progress: a check is sent, a pair is removed, there are fewer early requests, or a path is selected because the
  -- selected pair is gone.
  abbrev pub IsOfUse : AgentRecord H P → Emitted → AgentRecord H P → Type 0
  IsOfUse old emitted new =
      ((p : PairRecord) × Has old.pairs p × (ChecksOn old emitted p ⊎ IsGone p.number new.pairs))
      ⊎ ((length new.queue < length old.queue)
      ⊎ ((is_pressing old ≡ true) × ((path : Path) × Has emitted.selected_paths (Some path))))

  -- A pair is eligible, and the selected pair exists, with the greatest priority of the eligible pairs. In a state that no execution leads
  -- to it may be another one of this priority.
  abbrev pub MatchesTop : AgentRecord H P → Type 0
  MatchesTop a = IsTopSelected a × ((p : PairRecord) × Has a.pairs p × (is_eligible a.controlling p ≡ true))

  -- ---- polling cycles

  -- Nothing is queued, so `poll_timeout` computes the time of the next check.
  pub record IsIdle (a : AgentRecord H P) : Type 0 where
    pub packets : a.packets ≡ []
    pub queue : a.queue ≡ []

  -- A pair waits for its check: its due time, computed at time `at`, is at most `by`.
  pub record Awaits (at by : ℕ) (a : AgentRecord H P) (p : PairRecord) : Type 0 where
    pub checking : IsChecking a
    pub paced : IsPaced a.timing
    pub queue : a.queue ≡ []
    pub there : Has a.pairs p
    pub due : due_time_of at a.timing p ≤ by

  -- No pair is valid yet, and this one will not be removed after timeout before its check. No nomination is to be sent at once, before
  -- pairs that are due earlier; until a path is selected, none will be.
  pub record IsUnanswered (a : AgentRecord H P) (p : PairRecord) : Type 0 where
    pub calm : nominates_at_once a ≡ false
    pub invalid : (q : PairRecord) → Has a.pairs q → is_valid q ≡ false
    pub young : unanswered_count p.checks < a.timing.max_retransmits

  -- `poll_timeout` is called, or it is not.
  abbrev pub MayBeAsked : AgentRecord H P → AgentRecord H P → Type 0
  MayBeAsked old new = (new ≡ old) ⊎ ((deadline : Option ℕ) × PollsTimeout old deadline new)

  module _ (mac : H → List ℕ → List ℕ → List ℕ) where
    -- A polling cycle: `poll_timeout` returns a time, `handle_timeout` is called, all packets are polled, and the events are
    -- polled down to `left`.
    pub record Cycle (old : AgentRecord H P) (now : ℕ) (emitted : Emitted) (new : AgentRecord H P) : Type 0 where
      pub deadline : ℕ
      pub asked : AgentRecord H P
      pub polled : PollsTimeout old (Some deadline) asked
      pub before : Stream
      pub following : Stream
      pub after : AgentRecord H P
      pub timeout : TimesOut mac now asked before (Ok tt) emitted after following
      pub left : List IceAgentEvent
      pub taken : new ≡ record after { packets = []; events = left }

    -- one polling cycle after another, each with its time and what it emits
    abbrev pub Cycles : List (ℕ × Emitted) → AgentRecord H P → AgentRecord H P → Type 0
    Cycles [] old new = new ≡ old
    Cycles (x ∷ rest) old new = (mid : AgentRecord H P) × Cycle old x.0 x.1 mid × Cycles rest mid new

    -- ---- rounds

    -- `handle_timeout` is called, and then some of the packets and events are polled.
    pub record Passes (old : AgentRecord H P) (now : ℕ) (emitted : Emitted) (new : AgentRecord H P) : Type 0 where
      pub before : Stream
      pub following : Stream
      pub after : AgentRecord H P
      pub timeout : TimesOut mac now old before (Ok tt) emitted after following
      pub waiting : List Packet
      pub left : List IceAgentEvent
      pub taken : new ≡ record after { packets = waiting; events = left }

    module _ (answers : P → CandidateRecord → ℕ → ℕ → Type 0) where
      -- Packets are received one after another. After each of them the agent is controlling, some of the packets and events are
      -- polled, and `poll_timeout` may be called.
      abbrev pub ArriveInTurn : List Arrival → AgentRecord H P → AgentRecord H P → Type 0
      ArriveInTurn [] old new = new ≡ old
      ArriveInTurn (x ∷ rest) old new =
          (after mid asked : AgentRecord H P) × (waiting : List Packet) × (left : List IceAgentEvent) × (s t : Stream)
          × Step mac answers old s (ReceivePacket x.at x.via x.bytes) x.entry after t × (after.controlling ≡ true)
          × (mid ≡ record after { packets = waiting; events = left }) × MayBeAsked mid asked × ArriveInTurn rest asked new

      abbrev pub Rounds : List Round → AgentRecord H P → AgentRecord H P → Type 0
      Rounds [] old new = new ≡ old
      Rounds (x ∷ rest) old new =
          (mid asked next : AgentRecord H P) × Passes old x.now x.emitted mid × MayBeAsked mid asked × ArriveInTurn x.arrivals asked next
          × Rounds rest next new

      -- After one of the packets, which is an accepted success response, a path is selected.
      abbrev pub SelectsAfter : (arrivals : List Arrival) (old new : AgentRecord H P) → ArriveInTurn arrivals old new → Type 0
      SelectsAfter [] old new came = ⊥
      SelectsAfter (x ∷ rest) old new came = (IsSuccess x × MatchesTop came.0) ⊎ SelectsAfter rest came.2 new came.11

      -- In one of the rounds a path is selected after an accepted success response.
      abbrev pub RoundSelects : (rounds : List Round) (old new : AgentRecord H P) → Rounds rounds old new → Type 0
      RoundSelects [] old new run = ⊥
      RoundSelects (x ∷ rest) old new run = SelectsAfter x.arrivals run.1 run.2 run.5 ⊎ RoundSelects rest run.2 new run.6

-- ---- the theorems of timeouts

-- Every timeout makes progress: a `handle_timeout` call at this time, or later, does.
abbrev pub TimeoutsAreOfUse : {H : Type 0} (P : Type 0) → (H → List ℕ → List ℕ → List ℕ) → Type 0
TimeoutsAreOfUse {H = H} P mac =
    (old asked new : AgentRecord H P) (s t : Stream) (deadline now : ℕ) (emitted : Emitted)
    → IsSound old → IsChecking old → old.packets ≡ [] → is_empty old.pairs ≡ false → deadline < MAX
    → PollsTimeout old (Some deadline) asked → deadline ≤ now → TimesOut mac now asked s (Ok tt) emitted new t
    → IsOfUse old emitted new

-- Starvation freedom: a pair is checked, or removed after timeout, within as many polling cycles as there are pairs that are due
-- no later than it, or twice as many if checks may go ahead. The `handle_timeout` calls come at its due time, or later. A nominated pair
-- goes before all others, unless its due time was fixed before; so `poll_timeout` is called before each `handle_timeout` call. When the
-- cycles begin, no path is to be selected or nominated at once (`is_pressing`), and nominations that are sent at once go before no pair
-- (`ChecksInTurn`).
abbrev pub NoPairIsStarved : {H : Type 0} (P : Type 0) → (H → List ℕ → List ℕ → List ℕ) → Type 0
NoPairIsStarved {H = H} P mac =
    (first last : AgentRecord H P) (cycles : List (ℕ × Emitted)) (p : PairRecord) (at by : ℕ)
    → IsSound first → first.packets ≡ [] → first.last_time ≡ Some at → is_pressing first ≡ false → ChecksInTurn first → Awaits at by first p
    → ((x : ℕ × Emitted) → Has cycles x → (by ≤ x.0) × (x.0 < MAX))
    → Cycles mac cycles first last
    → checks_for (is_modern first.timing) (length (due_by by at first.timing first.pairs)) ≤ length cycles
    → ((x : ℕ × Emitted) × Has cycles x × ChecksOn first x.1 p) ⊎ IsGone p.number last.pairs

-- ---- responses

-- A controlling agent has no valid pair yet, and each check that is sent on the path of a pair is answered in its round. Then the
-- agent selects a path within as many rounds as there are pairs that are due no later than this one, with due times computed at
-- the time of the first round, or within twice as many if checks may go ahead. This holds whatever else it receives, and whether or not
-- `poll_timeout` is called.
abbrev pub AnsweredSelect : {H P : Type 0} → (H → List ℕ → List ℕ → List ℕ) → (P → CandidateRecord → ℕ → ℕ → Type 0) → Type 0
AnsweredSelect {H = H} {P = P} mac answers =
    (first last : AgentRecord H P) (r : Round) (rounds : List Round) (p : PairRecord) (by : ℕ)
    → IsSound first → first.controlling ≡ true → Awaits r.now by first p → IsUnanswered first p
    → ((x : Round) → Has (r ∷ rounds) x → (by < x.now) × (x.now < MAX))
    → (run : Rounds mac answers (r ∷ rounds) first last)
    → ((x : Round) (id : List ℕ) → Has (r ∷ rounds) x → x.emitted.issued ≡ Some (issued_as (path_of first p) class.Request id) → HasSuccess x.arrivals)
    → checks_for (is_modern first.timing) (length (due_by by r.now first.timing first.pairs)) ≤ length (r ∷ rounds)
    → RoundSelects mac answers (r ∷ rounds) first last run

module _ {H P : Type 0} (mac : H → List ℕ → List ℕ → List ℕ) (answers : P → CandidateRecord → ℕ → ℕ → Type 0) where
  -- After an accepted success response a controlling agent has selected the path of an eligible pair with the greatest stored
  -- priority.
  abbrev pub SuccessesSelectPaths : AgentRecord H P → Stream → List (Logged P) → Type 0
  SuccessesSelectPaths first s log =
      AtEach mac answers first s log (λ before mid x after. (at : ℕ) (by : Path) (m : Message) → Brings x.call x.entry at by m
      → m.class ≡ class.Success
      → after.controlling ≡ true → IsTopPath mac answers (x ∷ before) after)

  -- After a `handle_timeout` call that serves no early request, an agent in either role has selected the path of an eligible pair with the
  -- greatest stored priority, if a pair is valid and nominated.
  abbrev pub NominationsSelect : AgentRecord H P → Stream → List (Logged P) → Type 0
  NominationsSelect first s log =
      AtEach mac answers first s log (λ before mid x after. (now : ℕ) → x.call ≡ HandleTimeout now → x.entry.answer ≡ Done → request_at now mid ≡ None
      → (p : PairRecord) → Has after.pairs p → is_valid p ≡ true → is_nominated p ≡ true → IsTopPath mac answers (x ∷ before) after)

  abbrev pub AnswersSelect : Type 0
  AnswersSelect = (first : AgentRecord H P) (s : Stream) (log : List (Logged P)) → IsFresh first → SuccessesSelectPaths first s log

  abbrev pub TimeoutsSelect : Type 0
  TimeoutsSelect = (first : AgentRecord H P) (s : Stream) (log : List (Logged P)) → IsFresh first → NominationsSelect first s log

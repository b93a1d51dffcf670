-- How soon an urgent pair is checked, with the profile `Modern` (RFC 8445, section 7.3.1.4): however many pairs there are, and whatever the
-- agent receives and adds, it waits only for the selected pair, and for urgent pairs whose turn comes before.
use Rattle.std.specs.Prelude.{◌≡◌, ◌≢◌, ℕ, suc, ◌*◌, ◌≤◌, ◌⊎◌, true, false, List, [], ◌∷◌, length}
use Rattle.rand_core.specs.Stream.{Stream}
use Rattle.is_proto.specs.Lists.{Has}
use Rattle.is_stun.specs.Timing.{is_modern}
use Rattle.is_candidate.specs.Candidates.{CandidateRecord}
use Rattle.is_pair.specs.Due.{is_urgent}
use Rattle.is_pair.specs.Multiset.{is_named_by}
use Rattle.is_pair.specs.Pairs.{PairRecord}
use Rattle.is_rules.specs.Agent.{AgentRecord}
use Rattle.is_rules.specs.Checking.{precedence}
use Rattle.is_rules.specs.declared.emitted.Emitted.{Emitted}
use Rattle.is_rules.specs.declared.emitted.Path.{Path}
use Rattle.is_rules.specs.Kinds.{TurnsBefore}
use Rattle.is_rules.specs.Sending.{path_of}
use Rattle.is_rules.specs.Steps.{Entry, HandleTimeout}
use Rattle.is_theorems.specs.Asked.{IsAnsweredIn}
use Rattle.is_theorems.specs.KindsInTurn.{WaitsInRounds}
use Rattle.is_theorems.specs.Logs.{Logged}
use Rattle.is_theorems.specs.Progress.{ChecksOn}
use Rattle.is_theorems.specs.Reached.{ChecksIn, IsEndedIn, selects}
use Rattle.is_theorems.specs.Rounds.{LoggedRound, Part, RunsOn, entries_of}
use Rattle.is_theorems.specs.Runs.{IsFresh}

module _ {H P : Type 0} where
  -- A `handle_timeout` call that selects no path, by an agent that checks urgent pairs first. When it begins, the pair with the number is urgent:
  -- a request was served on it, and it is not valid yet, or it is nominated, no response arrived to a check that nominates it, and few checks
  -- have none.
  pub record PutsUrgentFirst (number : ℕ) (old : AgentRecord H P) (e : Entry) : Type 0 where
    pub modern : is_modern old.timing ≡ true
    pub quiet : selects e ≡ false
    pub urgent : (q : PairRecord) → Has old.pairs q → q.number ≡ number → is_urgent q ≡ true

  -- The call checks another pair than the one with the number: the selected one, or an urgent one whose turn comes before.
  pub record IsOvertaken (number now : ℕ) (old : AgentRecord H P) (emitted : Emitted) : Type 0 where
    pub other : PairRecord
    pub there : Has old.pairs other
    pub apart : other.number ≢ number
    pub sent : ChecksOn old emitted other
    pub before : (is_named_by old.selected_pair other ≡ true)
        ⊎ ((is_urgent other ≡ true) × ((q : PairRecord) → Has old.pairs q → q.number ≡ number
        → TurnsBefore old.local old.remote (precedence old) old.next_kind now old.timing other q))

  module _ (mac : H → List ℕ → List ℕ → List ℕ) (answers : P → CandidateRecord → ℕ → ℕ → Type 0) where
    -- Each `handle_timeout` call of a segment puts urgent pairs first, until a success response is received on the path.
    abbrev pub PutUrgentFirstIn : (number : ℕ) (path : Path) (before : List (Logged P)) (start : AgentRecord H P) (s : Stream)
        (part : List (Logged P)) (last : AgentRecord H P) (t : Stream)
        → RunsOn mac answers before start s part last t → Type 0
    PutUrgentFirstIn number path before start s [] last t run = Unit {0}
    PutUrgentFirstIn number path before start s (x ∷ part) last t run =
        ((now : ℕ) → x.call ≡ HandleTimeout now → PutsUrgentFirst number run.0 x.entry ⊎ IsAnsweredIn part path)
        × PutUrgentFirstIn number path before start s part run.0 run.1 run.2

    -- So many `handle_timeout` calls of a segment, or more, check another pair before the one with the number.
    abbrev pub IsOvertakenIn : (number n : ℕ) (before : List (Logged P)) (start : AgentRecord H P) (s : Stream) (part : List (Logged P))
        (last : AgentRecord H P) (t : Stream)
        → RunsOn mac answers before start s part last t → Type 0
    IsOvertakenIn number n before start s [] last t run = n ≡ 0
    IsOvertakenIn number n before start s (x ∷ part) last t run =
        IsOvertakenIn number n before start s part run.0 run.1 run.2
        ⊎ ((now k : ℕ) × (n ≡ suc k) × (x.call ≡ HandleTimeout now) × IsOvertaken number now run.0 x.entry.emitted
        × IsOvertakenIn number k before start s part run.0 run.1 run.2)

    -- The pair is urgent in the rounds, until its path is answered. In 2 * m of them a check is sent on the path, or m of them check the
    -- selected pair or urgent pairs before it. The exceptions are those of `RoundsReach`.
    abbrev pub RoundsReachUrgent : AgentRecord H P → Stream → List (Logged P) → Type 0
    RoundsReachUrgent first s log =
        (before : List (Logged P)) (start last : AgentRecord H P) (rounds : List (LoggedRound P)) (p : PairRecord) (by m : ℕ)
        → (found : Part mac answers first s log before start (entries_of rounds) last) → WaitsInRounds by start rounds p
        → PutUrgentFirstIn p.number (path_of start p) before start found.at (entries_of rounds) last found.following found.run
        → 2 * m ≤ length rounds
        → ChecksIn rounds (path_of start p)
        ⊎ (IsAnsweredIn (entries_of rounds) (path_of start p)
        ⊎ (IsEndedIn mac answers before start found.at (entries_of rounds) last found.following found.run (path_of start p)
        ⊎ IsOvertakenIn p.number m before start found.at (entries_of rounds) last found.following found.run))

    abbrev pub UrgentPairsAreReached : Type 0
    UrgentPairsAreReached = (first : AgentRecord H P) (s : Stream) (log : List (Logged P)) → IsFresh first → RoundsReachUrgent first s log

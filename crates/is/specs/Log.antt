-- The log of an execution: the calls with their recorded results, newest first.
use Rattle.std.specs.Prelude.{◌≡◌, ℕ, MatchBool, List, [], ◌∷◌, ◌++◌, length}
use Rattle.rand_core.specs.Stream.{Stream}
use Rattle.is_candidate.specs.Candidates.{CandidateRecord}
use Rattle.is_rules.specs.Agent.{AgentRecord}
use Rattle.is_theorems.specs.Logs.{Logged}
use Rattle.is_theorems.specs.Runs.{Run, Point}
use Rattle.is.specs.declared.calls.AgentCall.{AgentCall}
use Rattle.is.specs.declared.calls.Entry.{Entry}
use Rattle.is.specs.declared.runs.RunLog.{RunLog}
use Rattle.is.specs.Views.{call_view, entry_view}

-- a log entry: a call with its recorded result
abbrev pub logged_as : {P : Type 0} → AgentCall P → Entry → Logged P
logged_as c e = record { number = e.number; call = call_view c; entry = entry_view e }

-- the log with further calls and their entries
abbrev pub logged : {P : Type 0} → List (Logged P) → List (AgentCall P) → List Entry → List (Logged P)
logged log (c ∷ calls) (e ∷ entries) = logged (logged_as c e ∷ log) calls entries
logged log [] entries = log
logged log (c ∷ calls) [] = log

-- the log of the calls
abbrev pub log_of : {P : Type 0} → List (AgentCall P) → RunLog → List (Logged P)
log_of calls log = logged [] calls log.entries.items

module _ {H P : Type 0} (mac : H → List ℕ → List ℕ → List ℕ) (answers : P → CandidateRecord → ℕ → ℕ → Type 0) where
  -- One entry for each call, in order; or nothing was done.
  abbrev pub IsRunLog : AgentRecord H P → Stream → List (AgentCall P) → RunLog → AgentRecord H P → Stream → Type 0
  IsRunLog old s calls log new t =
      MatchBool log.stopped
      ((log.entries.items ≡ []) × (new ≡ old) × (t ≡ s))
      ((length log.entries.items ≡ length calls) × Run mac answers old s (log_of calls log) new t)

  -- Each entry is between two states of the execution.
  abbrev pub EntriesPersist : AgentRecord H P → Stream → List (Logged P) → Type 0
  EntriesPersist first s log =
      (rest before : List (Logged P)) (x : Logged P) → log ≡ rest ++ x ∷ before
      → (mid after : AgentRecord H P) × Point mac answers first s log before mid x after

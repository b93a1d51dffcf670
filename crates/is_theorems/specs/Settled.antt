-- With the profile `Modern`, over an execution of one agent: it is connected if and only if it has a path for media.
use Rattle.std.specs.Prelude.{◌≡◌, ℕ, ◌⊎◌, ◌↔◌, true, List, [], ◌∷◌, Option, Some, None}
use Rattle.is_proto.specs.Lists.{Has}
use Rattle.is_stun.specs.Timing.{is_modern}
use Rattle.is_candidate.specs.Candidates.{CandidateRecord}
use Rattle.is_pair.specs.Pairs.{PairRecord}
use Rattle.is_rules.specs.Agent.{AgentRecord}
use Rattle.is_rules.specs.Connecting.{is_connected}
use Rattle.is_rules.specs.declared.emitted.Path.{Path}
use Rattle.is_rules.specs.declared.event.IceConnectionState.TheVariants.{New}
use Rattle.is_rules.specs.Sending.{path_of}
use Rattle.is_rules.specs.States.{is_nominated_and_valid}
use Rattle.is_rules.specs.Steps.{Call, Entry}
use Rattle.is_theorems.specs.AskedExecutions.{selected_along}
use Rattle.is_theorems.specs.ConsentExecutions.{AreNeverLite}
use Rattle.is_theorems.specs.Exchange.{Execution}
use Rattle.is_theorems.specs.Runs.{IsFresh}

module _ {H P : Type 0} where
  -- The path is that of a pair that can be used: one that is valid and nominated.
  abbrev pub IsLive : Option Path → AgentRecord H P → Type 0
  IsLive path a = (p : PairRecord) × Has a.pairs p × (is_nominated_and_valid p ≡ true) × (path ≡ Some (path_of a p))

  -- The agent is Connected or Completed if and only if this path can be used.
  abbrev pub IsAgreed : Option Path → AgentRecord H P → Type 0
  IsAgreed path a = (is_connected a.state ≡ true) ↔ IsLive path a

  module _ (mac : H → List ℕ → List ℕ → List ℕ) (answers : P → CandidateRecord → ℕ → ℕ → Type 0) where
    -- The profile is `Modern` before each of the calls, from the first one of the session on. Else a pair may be nominated by a request, and
    -- selected by the next `handle_timeout` call.
    abbrev pub IsModernAlong : (xs : List (Call P × Entry)) (old new : AgentRecord H P) → Execution mac answers xs old new → Type 0
    IsModernAlong [] old new execution = Unit {0}
    IsModernAlong (x ∷ rest) old new execution =
        ((old.state ≡ New) ⊎ (is_modern old.timing ≡ true)) × IsModernAlong rest execution.0 new execution.5

    -- After any calls of a newly created agent that is never lite, with this profile: it is Connected or Completed if and only if the path
    -- that was selected last since the last clear is that of a pair that can be used.
    abbrev pub StatesAgree : Type 0
    StatesAgree =
        (first last : AgentRecord H P) (xs : List (Call P × Entry)) → IsFresh first → AreNeverLite xs → (execution : Execution mac answers xs first last)
        → IsModernAlong xs first last execution → IsAgreed (selected_along None xs) last

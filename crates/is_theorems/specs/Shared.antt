-- Executions of one agent whose random words may come from any streams, as they do if it shares its random source with another agent.
use Rattle.std.specs.Prelude.{◌≡◌, ℕ, ◌⊎◌, Bool, true, false, List, [], ◌∷◌, Some}
use Rattle.rand_core.specs.Stream.{Stream}
use Rattle.is_proto.specs.Lists.{Has}
use Rattle.is_candidate.specs.Candidates.{CandidateRecord}
use Rattle.is_pair.specs.Pairs.{PairRecord}
use Rattle.is_rules.specs.declared.credentials.IceCreds.{IceCreds}
use Rattle.is_rules.specs.declared.emitted.Path.{Path}
use Rattle.is_rules.specs.Agent.{AgentRecord, fresh}
use Rattle.is_rules.specs.Effects.{clears}
use Rattle.is_rules.specs.Nominating.{is_eligible}
use Rattle.is_rules.specs.Points.{HasSelected, IsNominationPoint}
use Rattle.is_rules.specs.Sound.{GivesBased}
use Rattle.is_rules.specs.Steps.{Step}
use Rattle.is_theorems.specs.Logs.{Logged, NeverLite, last_selected, IsAnsweredBy, NominatedByPeer}

module _ {H P : Type 0} where
  -- The agent is newly created, in either role.
  abbrev pub IsNewlyCreated : AgentRecord H P → Type 0
  IsNewlyCreated a =
      (creds : IceCreds) × (tie_breaker : ℕ) × (controlling : Bool) × (a ≡ record (fresh a.provider creds tie_breaker) { controlling = controlling })

  module _ (mac : H → List ℕ → List ℕ → List ℕ) (answers : P → CandidateRecord → ℕ → ℕ → Type 0) where
    -- The log, newest entry first, leads from the first state to the last: each call is a transition.
    abbrev pub SharedRun : AgentRecord H P → List (Logged P) → AgentRecord H P → Type 0
    SharedRun first [] last = last ≡ first
    SharedRun first (x ∷ before) last =
        (mid : AgentRecord H P) × (s t : Stream) × SharedRun first before mid × GivesBased x.call × Step mac answers mid s x.call x.entry last t

    -- The property holds of each entry and the state before it.
    abbrev pub BeforeEach : (AgentRecord H P → Logged P → Type 0) → (first : AgentRecord H P) (log : List (Logged P)) (last : AgentRecord H P) → SharedRun first log last
        → Type 0
    BeforeEach Holds first [] last run = Unit {0}
    BeforeEach Holds first (x ∷ before) last run = Holds run.0 x × BeforeEach Holds first before run.0 run.3

    -- The agent is controlled in each state since the last clear, or since the start if there was none.
    abbrev pub IsControlledSince : (first : AgentRecord H P) (log : List (Logged P)) (last : AgentRecord H P) → SharedRun first log last → Type 0
    IsControlledSince first [] last run = last.controlling ≡ false
    IsControlledSince first (x ∷ before) last run =
        (last.controlling ≡ false) × ((clears x.call x.entry.answer ≡ true) ⊎ IsControlledSince first before run.0 run.3)

    -- ---- the theorems. They speak of the last call of an execution, and so of each call: what leads up to one is an execution, too.

    -- If the agent was never lite, each path that the call selects is answered.
    abbrev pub SelectionsAreAnswered : Type 0
    SelectionsAreAnswered =
        (first last : AgentRecord H P) (x : Logged P) (before : List (Logged P))
        → IsNewlyCreated first → NeverLite (x ∷ before) → SharedRun first (x ∷ before) last
        → (path : Path) → Has x.entry.emitted.selected_paths (Some path) → IsAnsweredBy mac first.provider x before path

    -- If it is also controlled since the last clear, the peer nominated the path.
    abbrev pub SelectionsAreNominatedByPeer : Type 0
    SelectionsAreNominatedByPeer =
        (first last : AgentRecord H P) (x : Logged P) (before : List (Logged P))
        → IsNewlyCreated first → NeverLite (x ∷ before) → (run : SharedRun first (x ∷ before) last) → IsControlledSince first (x ∷ before) last run
        → (path : Path) → Has x.entry.emitted.selected_paths (Some path) → NominatedByPeer (x ∷ before) path

    -- If the call is a nomination point and a pair is eligible after it, the path that was selected last is that of an eligible pair with
    -- the greatest stored priority, or of the favored pair. This holds whether the agent is lite or not.
    abbrev pub SelectionsAreTop : Type 0
    SelectionsAreTop =
        (first last : AgentRecord H P) (x : Logged P) (before : List (Logged P))
        → IsNewlyCreated first → (run : SharedRun first (x ∷ before) last) → IsNominationPoint run.0 x.call x.entry
        → (p : PairRecord) → Has last.pairs p → is_eligible last.controlling p ≡ true → HasSelected (last_selected (x ∷ before)) last

-- When two agents that are connected to each other send on the same path (RFC 8445, section 8.1.1). These theorems are about two
-- states, taken at any two times: no history of calls is needed. g is one agent and d is its peer. p and q are pairs of g; p2 and
-- q2 are their counterparts at d, on the same paths through the network. g selected p, and d selected q2.
use Rattle.std.specs.Prelude.{◌≡◌, ◌≢◌, ℕ, ◌<◌, true, not, List, ◌∷◌, Option, Some, None, ◌⊎◌}
use Rattle.rand_core.specs.Stream.{Stream}
use Rattle.is_proto.specs.Lists.{Has}
use Rattle.is_candidate.specs.Candidates.{CandidateRecord}
use Rattle.is_pair.specs.Multiset.{IsGreatest}
use Rattle.is_pair.specs.Pairs.{PairRecord}
use Rattle.is_pair.specs.Priorities.{pair_priority}
use Rattle.is_rules.specs.declared.emitted.Path.{Path}
use Rattle.is_rules.specs.Agent.{AgentRecord}
use Rattle.is_theorems.specs.Logs.{Logged, last_selected}
use Rattle.is_rules.specs.Nominating.{followed, is_eligible, pair_selected}
use Rattle.is_rules.specs.Points.{IsNominationPoint, IsTopSelected}
use Rattle.is_theorems.specs.Runs.{IsFresh, IsTopPath, Point}
use Rattle.is_rules.specs.Sending.{path_of}
use Rattle.is_rules.specs.Emitted.{reversed}

-- `seen` maps a path of g to the path that d sees, if d sees it: NATs change addresses on the way. Without NATs, it is the
-- reversed path.
abbrev pub reverse_of : Path → Option Path
reverse_of path = Some (reversed path)

module _ {H P : Type 0} where
  -- a pair of the agent that is valid and, if the agent is controlled, nominated
  abbrev pub HasEligible : AgentRecord H P → PairRecord → Type 0
  HasEligible a p = Has a.pairs p × (is_eligible a.controlling p ≡ true)

  -- an eligible pair, and no eligible pair has a higher priority
  abbrev pub IsTop : AgentRecord H P → PairRecord → Type 0
  IsTop a p = IsGreatest (is_eligible a.controlling) a.pairs (Some p)

  -- No two eligible pairs on different paths have the same priority.
  abbrev pub HasNoTies : AgentRecord H P → Type 0
  HasNoTies a = (p q : PairRecord) → HasEligible a p → HasEligible a q → p.priority ≡ q.priority → path_of a p ≡ path_of a q

  -- The agent selected this pair last, and the pair that it selected last has the highest priority of the eligible ones.
  pub record HasLastSelected (a : AgentRecord H P) (p : PairRecord) : Type 0 where
    pub last : pair_selected a.selected_pair a.pairs ≡ Some p
    pub top : IsTopSelected a

  -- No agent follows its peer: both select by priority.
  abbrev pub NoneFollows : AgentRecord H P → AgentRecord H P → Type 0
  NoneFollows g d = (followed g ≡ None) × (followed d ≡ None)

  module _ (seen : Path → Option Path) (g d : AgentRecord H P) where
    -- Both pairs are on the same path through the network.
    abbrev pub IsSamePath : PairRecord → PairRecord → Type 0
    IsSamePath p p2 = seen (path_of g p) ≡ Some (path_of d p2)

    -- Each pair is eligible at its agent, and both are on the same path.
    pub record AreCounterparts (p p2 : PairRecord) : Type 0 where
      pub near : HasEligible g p
      pub far : HasEligible d p2
      pub path : IsSamePath p p2

    -- Neither agent has a tie, and g does not prefer p to q while d prefers q2 to p2.
    pub record NoDispute (p q p2 q2 : PairRecord) : Type 0 where
      pub orders : ¬ ((q.priority < p.priority) × (p2.priority < q2.priority))
      pub near : p.priority ≢ q.priority
      pub far : p2.priority ≢ q2.priority

    -- The two paths are the same, or there is no dispute over them.
    abbrev pub IsUndisputed : PairRecord → PairRecord → PairRecord → PairRecord → Type 0
    IsUndisputed p q p2 q2 = (path_of d p2 ≡ path_of d q2) ⊎ NoDispute p q p2 q2

    -- The roles differ; counterparts have priorities from the same two candidate priorities, g's and d's; and g has no ties.
    pub record RankAlike : Type 0 where
      pub roles : d.controlling ≡ not g.controlling
      pub shared : (p p2 : PairRecord) → AreCounterparts p p2
          → (gs ds : ℕ) × (p.priority ≡ pair_priority g.controlling ds gs) × (p2.priority ≡ pair_priority d.controlling gs ds)
      pub strict : HasNoTies g

-- ---- the theorems

module _ (H P : Type 0) where
  -- p is a greatest eligible pair of g, and q2 one of d. Each has an eligible counterpart at the other agent. There is no dispute
  -- over the two paths, unless they are the same. Then p and q2 are on the same path.
  abbrev pub TopPathsMatch : Type 0
  TopPathsMatch =
      (seen : Path → Option Path) (g d : AgentRecord H P) (p q p2 q2 : PairRecord) → IsTop g p → IsTop d q2
      → AreCounterparts seen g d p p2 → AreCounterparts seen g d q q2 → IsUndisputed seen g d p q p2 q2
      → IsSamePath seen g d p q2

  -- Without the precondition on disputes this fails, even without NATs and without ties: two agents in different roles, each with
  -- both paths, may select different ones.
  abbrev pub DisputesSplit : Type 0
  DisputesSplit =
      H → (g d : AgentRecord H P) × (p q p2 q2 : PairRecord) × (d.controlling ≡ not g.controlling) × IsTop g p × IsTop d q2
      × AreCounterparts reverse_of g d p p2 × AreCounterparts reverse_of g d q q2 × (p.priority ≢ q.priority) × (p2.priority ≢ q2.priority)
      × ¬ IsSamePath reverse_of g d p q2

  -- Agents that rank alike have no dispute.
  abbrev pub RanksSettle : Type 0
  RanksSettle =
      (seen : Path → Option Path) (g d : AgentRecord H P) (p q p2 q2 : PairRecord) → RankAlike seen g d
      → AreCounterparts seen g d p p2 → AreCounterparts seen g d q q2 → IsUndisputed seen g d p q p2 q2

  -- If two agents rank alike and select by priority, and each has an eligible counterpart of the pair that the other selected last, these
  -- pairs are on the same path.
  abbrev pub SelectedPairsMatch : Type 0
  SelectedPairsMatch =
      (seen : Path → Option Path) (g d : AgentRecord H P) (p q p2 q2 : PairRecord) → NoneFollows g d → RankAlike seen g d
      → HasLastSelected g p → HasLastSelected d q2
      → AreCounterparts seen g d p p2 → AreCounterparts seen g d q q2
      → IsSamePath seen g d p q2

module _ {H P : Type 0} (mac : H → List ℕ → List ℕ → List ℕ) (answers : P → CandidateRecord → ℕ → ℕ → Type 0) where
  -- g and d rank alike and select by priority. g selected the path x last in its log, and d the path y in its own. Each is the path of a
  -- greatest eligible pair, and the other agent has an eligible pair on it. Then x and y are the same path, each as its agent sees it.
  abbrev pub SelectedPathsMatch : Type 0
  SelectedPathsMatch =
      (seen : Path → Option Path) (g d : AgentRecord H P) (near far : List (Logged P)) (x y : Path) (q p2 : PairRecord) → NoneFollows g d → RankAlike seen g d
      → IsTopPath mac answers near g → IsTopPath mac answers far d
      → last_selected near ≡ Some x → last_selected far ≡ Some y
      → HasEligible d p2 → seen x ≡ Some (path_of d p2) → HasEligible g q → seen (path_of g q) ≡ Some y
      → seen x ≡ Some y

  -- g is the state of an agent right after a transition at which nomination was evaluated, in any execution since the agent was
  -- created. The log up to that transition is `log`.
  pub record IsAtNomination (log : List (Logged P)) (g : AgentRecord H P) : Type 0 where
    pub first : AgentRecord H P
    pub s : Stream
    pub all : List (Logged P)
    pub before : List (Logged P)
    pub mid : AgentRecord H P
    pub x : Logged P
    pub fresh : IsFresh first
    pub log_is : log ≡ x ∷ before
    pub point : Point mac answers first s all before mid x g
    pub evaluates : IsNominationPoint mid x.call x.entry

  -- Without NATs g and d rank alike and select by priority, right after transitions of two executions at which nomination was evaluated.
  -- If each has an eligible pair on the reverse of the path that the other selected last, these two paths are the reverse of each other.
  abbrev pub SelectedPathsAreReversed : Type 0
  SelectedPathsAreReversed =
      (g d : AgentRecord H P) (near far : List (Logged P)) (x y : Path) (q p2 : PairRecord) → NoneFollows g d → RankAlike reverse_of g d
      → IsAtNomination near g → IsAtNomination far d
      → last_selected near ≡ Some x → last_selected far ≡ Some y
      → HasEligible d p2 → path_of d p2 ≡ reversed x → HasEligible g q → y ≡ reversed (path_of g q)
      → y ≡ reversed x

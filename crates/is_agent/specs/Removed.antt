-- The pairs that were removed last, as the agent lists them.
use Rattle.std.specs.Prelude.{ℕ, ◌&&◌, List, length, nat_lt, Option, Some, None, if◌then◌else◌}
use Rattle.is_pair.specs.declared.checklist.removed.RemovedPair.{RemovedPair}
use Rattle.is_pair.specs.Checklists as checklists
use Rattle.is_agent.specs.declared.agent.Agent.{Agent}
use Rattle.is_rules.specs.Agent.{AgentRecord}
use Rattle.is_rules.specs.declared.emitted.Path.{Path}
use Rattle.is_rules.specs.Sending.{path_between}

module _ {H P : Type 0} where
  -- the pairs that were removed last: 32 at most, the oldest first
  abbrev pub removed_of : Agent H P → List RemovedPair
  removed_of a = checklists.removed_of a.pairs

  -- the path between these candidates, if there are such
  abbrev pub path_between_some : AgentRecord H P → ℕ → ℕ → Option Path
  path_between_some a l r = if nat_lt l (length a.local) && nat_lt r (length a.remote) then Some (path_between a l r) else None

-- Roles, and role conflicts (RFC 8445, section 7.3.1.1).
use Rattle.std.specs.Prelude.{ℕ, ◌&&◌, ◌||◌, Bool, not, nat_le, map, Option, Some, None, if◌then◌else◌}
use Rattle.is_stun.specs.Timing.{is_modern}
use Rattle.is_pair.specs.Pairs.{PairRecord}
use Rattle.is_rules.specs.declared.roles.Conflict.{Conflict}
use Rattle.is_rules.specs.declared.roles.Conflict.TheVariants.{Absent, Send487, SwitchRole}
use Rattle.is_rules.specs.Request.{RequestRecord, rival_in}
use Rattle.is_rules.specs.Agent.{AgentRecord}
use Rattle.is_rules.specs.Forming.{SidesRecord, combined_priority, sides_of}

-- Two controlled agents resolve a role conflict as two controlling ones do: the greater tie-breaker keeps its role. An agent that
-- keeps its role does so whatever the tie-breakers are.
abbrev pub conflict_by : Bool → ℕ → Option ℕ → Conflict
conflict_by keeps own None = Absent
conflict_by keeps own (Some rival) = if keeps || nat_le rival own then Send487 else SwitchRole

-- the pair with its priority computed again
abbrev pub with_priority_in : SidesRecord → PairRecord → PairRecord
with_priority_in s p = record p { priority = combined_priority s (p.local, p.remote) }

module _ {H P : Type 0} where
  -- the tie-breaker of a sender that claims the agent's role
  abbrev pub rival : AgentRecord H P → RequestRecord → Option ℕ
  rival s q = rival_in s.controlling q

  -- Only full agents repair roles (RFC 8445, section 6.1.1): by its rules a lite agent never changes its role.
  abbrev pub keeps_role : AgentRecord H P → Bool
  keeps_role s = s.lite && is_modern s.timing

  abbrev pub conflict_of : AgentRecord H P → RequestRecord → Conflict
  conflict_of s q = conflict_by (keeps_role s) s.tie_breaker (rival s q)

  -- the input of pair forming in the other role
  abbrev pub switched_sides : AgentRecord H P → SidesRecord
  switched_sides s = record (sides_of s) { controlling = not s.controlling }

  -- The role switches, and all priorities are computed again, from the candidates that are at the indices now.
  abbrev pub switched : AgentRecord H P → AgentRecord H P
  switched s = record s { controlling = not s.controlling; pairs = map (with_priority_in (switched_sides s)) s.pairs }

-- A lite agent that keeps its role: only full agents repair roles (RFC 8445, sections 6.1.1 and 7.3.1.1).
use Rattle.std.specs.Prelude.{◌≡◌, ℕ, ◌⊎◌, true, List}
use Rattle.rand_core.specs.Stream.{Stream}
use Rattle.is_candidate.specs.Candidates.{CandidateRecord}
use Rattle.is_rules.specs.Agent.{AgentRecord}
use Rattle.is_rules.specs.Brought.{IsRoleSet}
use Rattle.is_rules.specs.Roles.{keeps_role}
use Rattle.is_rules.specs.Sound.{IsSound, GivesBased}
use Rattle.is_rules.specs.Steps.{Call, Entry, Step}

-- No packet and no `handle_timeout` call changes its role: a transition leaves it, or the user sets it.
abbrev pub LiteKeepsRole : {H P : Type 0} → (H → List ℕ → List ℕ → List ℕ) → (P → CandidateRecord → ℕ → ℕ → Type 0) → Type 0
LiteKeepsRole {H} {P} mac answers =
    (old new : AgentRecord H P) (s t : Stream) (call : Call P) (e : Entry) → IsSound old → GivesBased call → keeps_role old ≡ true
    → Step mac answers old s call e new t → (new.controlling ≡ old.controlling) ⊎ IsRoleSet call new.controlling

-- The final state of an agent that returns a reference into itself.
use Rattle.std.specs.Prelude.{⊤}
use Rattle.std.specs.Borrow.{follows_so, MutBor, Fml, RattleType}
use mathlib.Core.Option.{none}

-- the agent, of the type R, ends at a value of which P holds
abbrev pub EndsAs : (R : RattleType) → MutBor R.Denot → (R.Denot → Type 0) → Fml
EndsAs R s P = follows_so R R s.ghost_name none (λ _ _. ⊤) P

use Rattle.std.proofs.Common.{ℕ, List, [], ◌∷◌, map}
use Rattle.is_turn_theorems.proofs.Common.{Acceptance, due_since, Entry, IsRun, IsTimelyFrom, Limits, MAX, World}
use Rattle.is_turn_theorems.proofs.lapsing.timely_calls_are_a_run.Goals as goal

is_run : (k : Limits) (mac : List ℕ → List ℕ → List ℕ) (accepted : List Acceptance) (due : ℕ) (w : World) (run : List Entry)
    → IsTimelyFrom k mac accepted due w run → IsRun mac accepted w (map (λ (x : Entry). x.after) run)
is_run k mac accepted due w [] steps = tt
is_run k mac accepted due w (x ∷ rest) steps = (
  record { call = x.call; forward = steps.0.forward; does = steps.0.does },
  is_run k mac accepted (due_since x.call due x.after) x.after rest steps.1,
)

pub returns : goal.returns
returns c = λ k mac accepted w run. is_run k mac accepted MAX w run

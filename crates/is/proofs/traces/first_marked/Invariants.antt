use Rattle.is.proofs.Common.{◌≤◌, NoneMarked}
use Rattle.is.proofs.traces.first_marked.Given as goal

abbrev pub invariant-loop-n : goal.invariant-loop-n
invariant-loop-n l = (l.from ≤ l.n) × NoneMarked l.entries l.mark l.from l.n

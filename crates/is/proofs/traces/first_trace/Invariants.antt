use Rattle.is.proofs.Common.{◌<◌, IsTrace, Trace}
use Rattle.is.proofs.traces.first_trace.Given as goal

-- no causal chain begins before
abbrev pub invariant-loop-checked : goal.invariant-loop-checked
invariant-loop-checked l = (t : Trace) → t.checked < l.checked → ¬ IsTrace l.entries l.side l.path l.end t

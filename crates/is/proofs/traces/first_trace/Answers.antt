use Rattle.is.proofs.RolesAndChains.FirstMarkedEntries.{first_of_all}
use Rattle.is.proofs.traces.first_trace.Goals as goal

pub returns-in-Some : goal.returns-in-Some
returns-in-Some c = first_of_all c.args.entries.now c.args.side c.args.path c.args.end c.loop-checked.checked c.in-Some.trace c.loop-checked.invariant c.in-Some.ensures

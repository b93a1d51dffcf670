use Rattle.std.proofs.Common.{◌≡◌, ◌+◌, suc, arith}
use Rattle.is.proofs.RolesAndChains.FirstMarkedEntries.{none_selected, first_selected}
use Rattle.is.proofs.world_events.WorldLog.trace.Goals as goal

pub returns-in-Some : goal.returns-in-Some
returns-in-Some c =
    let end_is : c.args.entry + 1 ≡ suc c.args.entry = omega arith in
    first_selected c.args.self.now.entries.items c.args.entry c.args.place c.in-Some.side c.in-Some.path (c.args.entry + 1) c.first_trace.result end_is
    (rw c.deref.ensures.value at c.in-Some.ensures) (rw c.deref-in-Some.ensures.value at c.first_trace.ensures)

pub returns-in-None : goal.returns-in-None
returns-in-None c = none_selected c.args.self.now.entries.items c.args.entry c.args.place (rw c.deref.ensures.value at c.in-None.ensures)

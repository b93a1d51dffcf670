use Rattle.std.proofs.Common.{◌≡◌, None, rules}
use Rattle.is.proofs.RolesAndChains.FirstMarkedEntries.{no_check, trace_by}
use Rattle.is.proofs.traces.trace_from.Goals as goal

pub returns-in_err-id : goal.returns-in_err-id
returns-in_err-id c =
    let none : c.from_residual.result ≡ None = search rules in
    rw none (no_check c.args.entries.now c.args.side c.args.path c.args.checked c.args.end c.in_err-id.ensures)

pub returns-in-None : goal.returns-in-None
returns-in-None c =
    trace_by c.args.entries.now c.args.side c.args.path c.args.checked c.args.end c.in_ok-id.id c.in_ok-id.ensures c.in-None.ensures c.answer_of.result c.answer_of.ensures

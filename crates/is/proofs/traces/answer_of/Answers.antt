use Rattle.std.proofs.Common.{◌≡◌, None, rules}
use Rattle.is.proofs.RolesAndChains.FirstMarkedEntries.{no_delivery, no_reply, no_answer, first_answer}
use Rattle.is.proofs.traces.answer_of.Goals as goal

pub returns-in_err-delivered : goal.returns-in_err-delivered
returns-in_err-delivered c =
    let none : c.from_residual.result ≡ None = search rules in
    rw none (no_delivery c.args.entries.now c.args.side c.args.id c.args.checked c.args.end (rw c.other.ensures at c.in_err-delivered.ensures))

pub returns-in_err-replied : goal.returns-in_err-replied
returns-in_err-replied c =
    let none : c.from_residual-in_err-replied.result ≡ None = search rules in
    let one = rw c.other.ensures at c.in_ok-delivered.ensures in
    rw none (no_reply c.args.entries.now c.args.side c.args.id c.args.checked c.args.end c.in_ok-delivered.delivered one.3 (rw c.other-2.ensures at c.in_err-replied.ensures))

pub returns-in_err-answered : goal.returns-in_err-answered
returns-in_err-answered c =
    let none : c.from_residual-in_err-answered.result ≡ None = search rules in
    let one = rw c.other.ensures at c.in_ok-delivered.ensures in
    let two = rw c.other-2.ensures at c.in_ok-replied.ensures in
    rw none (no_answer c.args.entries.now c.args.side c.args.id c.args.checked c.args.end c.in_ok-delivered.delivered one.3 c.in_ok-replied.replied two.3 c.in_err-answered.ensures)

pub returns : goal.returns
returns c =
    let one = rw c.other.ensures at c.in_ok-delivered.ensures in
    let two = rw c.other-2.ensures at c.in_ok-replied.ensures in
    let three = c.in_ok-answered.ensures in
    first_answer c.args.entries.now c.args.side c.args.id c.args.checked c.args.end c.in_ok-delivered.delivered one.3 c.in_ok-replied.replied two.3 c.in_ok-answered.answered one.0 one.2 two.0 two.2 three.0 three.1 three.2 three.3

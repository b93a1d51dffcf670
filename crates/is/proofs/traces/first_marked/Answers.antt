use Rattle.is.proofs.Common.{◌<◌, arith, length, refl, slice_get_read}
use Rattle.is.proofs.RolesAndChains.FirstMarkedEntries.{none_more}
use Rattle.is.proofs.traces.first_marked.Goals as goal

pub loop-n-preserved : goal.loop-n-preserved
loop-n-preserved c =
    let low = c.loop-n.invariant.0 in
    let within : c.loop-n.n < length c.args.entries.now = (let before = c.loop-n-test.true in let all = c.requires in omega (arith, before, all)) in (
      omega (arith, low),
      none_more c.args.entries.now c.args.mark.now c.args.from c.loop-n.n c.index-entries-n.result c.loop-n.invariant.1
          (slice_get_read c.args.entries.now (length c.args.entries.now) c.loop-n.n c.index-entries-n.result refl within c.index-entries-n.is)
          (λ marked. (let holds = c.is_marked.ensures.1 marked in let no = c.if-is_marked.false in cc)),
    )

pub returns : goal.returns
returns c = λ m low high. (let past = c.loop-n-test.false in c.loop-n.invariant.1 m low (omega (arith, high, past)))

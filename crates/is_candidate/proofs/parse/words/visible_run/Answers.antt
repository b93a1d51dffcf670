use Rattle.std.proofs.lemmas.List.Elements.{All-more}
use Rattle.is_candidate.proofs.Common.{arith, IsVisible}
use Rattle.is_candidate.proofs.parse.words.visible_run.Goals as goal

pub loop-count-preserved : goal.loop-count-preserved
loop-count-preserved c = (
  omega (arith, c.loop-count-test.true),
  All-more IsVisible c.args.bytes.now c.loop-count.count 0 c.loop-count-test.true c.loop-count.invariant.1 (c.if-bytes-count-ge33.true, c.if-bytes-count-le126.true),
)

use Rattle.std.proofs.Common.{refl}
use Rattle.is_candidate.proofs.AttributeTexts.ReadKeys.{key-step}
use Rattle.is_candidate.proofs.parse.keys.read_keys.Goals as goal

pub loop-at-preserved : goal.loop-at-preserved
loop-at-preserved c = λ r h.
    let step = rw c.word_at-value.ensures at c.in-Ok.ensures in
    c.loop-at.invariant r (key-step c.args.words.now c.loop-at.at _ _ _ r c.loop-at-test.true step h)

pub returns-in-Err : goal.returns-in-Err
returns-in-Err c =
    let step = rw c.word_at-value.ensures at c.in-Err.ensures in
    c.loop-at.invariant _ (key-step c.args.words.now c.loop-at.at _ _ _ _ c.loop-at-test.true step refl)

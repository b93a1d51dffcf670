use Rattle.std.proofs.Common.{[], append_assoc}
use Rattle.std.proofs.lemmas.List.{take_more, map-append, append-nil}
use Rattle.std.proofs.lemmas.List.Folds.{concat-append}
use Rattle.is_proto.proofs.hmac_provider.digest_after.Goals as goal

pub loop-piece-preserved : goal.loop-piece-preserved
loop-piece-preserved c m held =
    rw (take_more c.args.pieces.now c.loop-piece.piece-index (record { ref_ptr = (0, 0); now = [] }) c.loop-piece-test.true, map-append, concat-append, append-nil, ← append_assoc)
    (c.update.ensures _ (c.loop-piece.invariant m held))

use Rattle.is_stun.proofs.MessageReading.TextValues.{colon_boundary}
use Rattle.is_stun.proofs.attributes.split_at_colon.Goals as goal

pub range-requires-clause-end_boundary : goal.range-requires-clause-end_boundary
range-requires-clause-end_boundary c = (colon_boundary c.args.name.now _ c.in_ok-colon.ensures c.utf8.name).0

pub range_from-requires : goal.range_from-requires
range_from-requires c = λ _. (colon_boundary c.args.name.now _ c.in_ok-colon.ensures c.utf8.name).1

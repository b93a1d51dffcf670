use Rattle.is_rules.proofs.Common.{arith, LONGEST_REPLY}
use Rattle.is_rules.proofs.reply.write_conflict.Goals as goal

pub write_signed-requires-clause-fits : goal.write_signed-requires-clause-fits
write_signed-requires-clause-fits g c = rw (c.binding_role_conflict_reply-message.ensures, c.requires) (c.replies_fit.ensures.conflict_fits _ _ LONGEST_REPLY (omega arith))

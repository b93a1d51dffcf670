use Rattle.is_stun.specs.Message.{Message}
use Rattle.is_stun.specs.Writing.{written}
use Rattle.is_rules.proofs.Common.{arith, IsPut, LONGEST_REPLY, plain, Some, subst}
use Rattle.is_rules.proofs.PollsAndResponses.AddressesInResponses.{plain-reply}
use Rattle.is_rules.proofs.reply.write_reply.Goals as goal

pub write_signed-requires-clause-fits : goal.write_signed-requires-clause-fits
write_signed-requires-clause-fits g c = rw (c.binding_reply-message.ensures, c.requires) (c.replies_fit.ensures.fits _ _ _ LONGEST_REPLY (omega arith))

pub returns-clause-put : goal.returns-clause-put
returns-clause-put g c =
    subst (IsPut _) (plain-reply c.args.id.0 c.args.mapped_address)
    (subst (λ (m : Message). IsPut (written (g.H.Sha1HmacProvider.mac c.args.provider.now) (Some c.args.password.now) m) (plain m)) c.binding_reply-message.ensures c.write_signed.ensures.put)

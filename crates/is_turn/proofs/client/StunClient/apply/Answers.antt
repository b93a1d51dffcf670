use Rattle.std.proofs.Common.{sym, subst}
use Rattle.is_turn.specs.declared.answer.Answer.{Answer}
use Rattle.is_turn.specs.Response.{IsEventAfter}
use Rattle.is_turn.proofs.client.StunClient.apply.Goals as goal

pub returns-in-Mapped-clause-event : goal.returns-in-Mapped-clause-event
returns-in-Mapped-clause-event c =
    subst (λ (answer : Answer). IsEventAfter answer c.args.self.now c.is_mapped.new.self.event) (sym c.in-Mapped.is) c.is_mapped.ensures.event

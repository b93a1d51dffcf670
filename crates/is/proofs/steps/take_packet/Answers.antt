use Rattle.is_rules.specs.Steps as agent
use Rattle.is.proofs.Common.{◌∙◌, ap, emitted_of, inr, message_view}
use Rattle.is.proofs.steps.take_packet.Goals as goal

-- the bytes encode the message, which the agent handles
pub returns-in-Ok-clause-did : goal.returns-in-Ok-clause-did
returns-in-Ok-clause-did g c =
    inr (
      message_view c.in-Ok.message,
      c.in-Ok.ensures.reads,
      (
        c.handle_packet.result,
        emitted_of c.handle_packet.new.self,
        c.telling.ensures.emitted
            ∙ ap (λ (a : agent.Answer). let e : agent.Entry = record { answer = a; emitted = emitted_of c.handle_packet.new.self } in e) c.flag_or_rejected-answer.ensures,
        c.handle_packet.ensures,
      ),
    )

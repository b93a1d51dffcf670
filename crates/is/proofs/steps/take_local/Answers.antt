use Rattle.is.proofs.Common.{◌∙◌, Answer, ap, emitted_of, Entry, refl}
use Rattle.is.proofs.steps.take_local.Goals as goal

pub returns-clause-did : goal.returns-clause-did
returns-clause-did g c = λ s.
    let emitted = emitted_of c.add_local.new.agent in
    let entry : Answer → Entry = λ answer. record { answer = answer; emitted = emitted } in
    (c.add_local.result, emitted, c.telling.ensures.emitted ∙ ap entry c.added_or_rejected-answer.ensures, c.add_local.ensures, refl)

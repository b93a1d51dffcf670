use Rattle.is.proofs.Common.{◌∙◌, Answer, ap, emitted_of, Entry, refl}
use Rattle.is.proofs.steps.take_remote.Goals as goal

pub returns-clause-did : goal.returns-clause-did
returns-clause-did g c = λ s.
    let emitted = emitted_of c.add_remote_candidate.new.self in
    let entry : Answer → Entry = λ answer. record { answer = answer; emitted = emitted } in
    (c.add_remote_candidate.result, emitted, c.telling.ensures.emitted ∙ ap entry c.done_or_rejected-answer.ensures, c.add_remote_candidate.ensures, refl)

use Rattle.is.proofs.Common.{emitted_of, refl}
use Rattle.is.proofs.steps.take_lost.Goals as goal

pub returns-clause-did : goal.returns-clause-did
returns-clause-did g c = λ s.
    let found = c.invalidate_candidate-found in
    (found.result, emitted_of found.new.self, c.telling.ensures.emitted, found.ensures, refl)

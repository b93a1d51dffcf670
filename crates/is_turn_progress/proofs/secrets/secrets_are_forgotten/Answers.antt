use Rattle.is_turn_progress.proofs.ForgottenRuns.{always_forgets}
use Rattle.is_turn_progress.proofs.secrets.secrets_are_forgotten.Goals as goal

pub returns : goal.returns
returns c = always_forgets

use Rattle.std.proofs.Common.{◌∙◌, refl}
use Rattle.is_stun.proofs.WrittenMessages.ConsecutiveTexts.{Puts-then, take-Puts}
use Rattle.is_stun.proofs.error_code.ErrorValue.new.Goals as goal

pub returns : goal.returns
returns c = take-Puts (Puts-then c.put-at.ensures c.put-len.ensures) ∙ rw c.as_bytes.ensures.value refl

use Rattle.is_candidate.proofs.AttributeTexts.UniqueReadings.{text-unique}
use Rattle.is_candidate.proofs.parse.texts_have_one_reading.Goals as goal

pub returns : goal.returns
returns c = text-unique

use Rattle.is_stun.proofs.RoundTrips.FoundRows.{written_is_found}
use Rattle.is_stun.proofs.theorems.written_rows_are_found.Goals as goal

pub returns : goal.returns
returns c = written_is_found

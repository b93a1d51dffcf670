use Rattle.is_stun.proofs.RoundTrips.Requests.{request_is_read, request_is_skipped}
use Rattle.is_stun.proofs.WrittenMessages.RequestingMessages.{requests_nothing}
use Rattle.is_stun.proofs.theorems.requests_round_trip.Goals as goal

pub returns-clause-read : goal.returns-clause-read
returns-clause-read c = request_is_read

pub returns-clause-skipped : goal.returns-clause-skipped
returns-clause-skipped c = request_is_skipped

pub returns-clause-nothing : goal.returns-clause-nothing
returns-clause-nothing c = requests_nothing

use Rattle.is_turn.proofs.Bounded.{requests_bounded, ids_bounded, packets_bounded, events_bounded}
use Rattle.is_turn.proofs.theorems.a_client_is_bounded.Goals as goal

pub returns-clause-requests : goal.returns-clause-requests
returns-clause-requests c = requests_bounded

pub returns-clause-ids : goal.returns-clause-ids
returns-clause-ids c = ids_bounded

pub returns-clause-packets : goal.returns-clause-packets
returns-clause-packets c = packets_bounded

pub returns-clause-events : goal.returns-clause-events
returns-clause-events c = events_bounded

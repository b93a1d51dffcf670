use Rattle.is_turn.proofs.NamedPeers.{names_permitted, names_channel, keeps_heard, keeps_advanced, keeps_driven, keeps_polled, keeps_reported, keeps_responded}
use Rattle.is_turn.proofs.theorems.only_named_peers_have_leases.Goals as goal

pub returns-clause-permitted : goal.returns-clause-permitted
returns-clause-permitted c = names_permitted

pub returns-clause-bound : goal.returns-clause-bound
returns-clause-bound c = names_channel

pub returns-clause-heard : goal.returns-clause-heard
returns-clause-heard c = keeps_heard

pub returns-clause-advanced : goal.returns-clause-advanced
returns-clause-advanced c = keeps_advanced

pub returns-clause-driven : goal.returns-clause-driven
returns-clause-driven c = keeps_driven

pub returns-clause-polled : goal.returns-clause-polled
returns-clause-polled c = keeps_polled

pub returns-clause-reported : goal.returns-clause-reported
returns-clause-reported c = keeps_reported

pub returns-clause-answered : goal.returns-clause-answered
returns-clause-answered c = keeps_responded

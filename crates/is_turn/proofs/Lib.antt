mod Common
-- What a datagram says to a client, and what it changes.
mod Answers
mod ChannelNumbers
mod Receiving
mod OneChanges
mod Bounded
mod NamedPeers
mod RequestedData
mod Beliefs
mod BeliefLeases
mod BeliefSessions
mod BeliefAnswers
mod BeliefRuns

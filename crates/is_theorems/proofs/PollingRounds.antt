-- Rounds in which a pair is checked, or a path selected.
pub mod AnsweredRounds
pub mod AnsweredRoundsInLogs
pub mod CountedSelections
pub mod InTurnAlong
pub mod DuePairsInLogs
pub mod WaitingPairs
pub mod DuePairsPerAgent
pub mod FirstRound
pub mod AddedCandidatesPerAgent
pub mod AddedCandidatesInLogs
pub mod FirstRoundWithoutValidPair
pub mod LimitedPairs
pub mod LimitedPairsAndPackets

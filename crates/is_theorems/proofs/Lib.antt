mod Common
pub mod BasicLemmas
mod RuleEffects
mod CallEffects
pub mod ExecutionLogs
mod StorageBounds
mod PathSelection
mod MatchingPaths
mod StoredPairs
mod CheckExchanges
mod DuePairs
mod EarlierChecks
mod RemainingChecks
mod PollingRounds
mod KindTurns
mod UrgentPairs
mod RenominatedPaths
mod PunctualTimeouts
mod ConnectedConsent
mod SettledStates
pub mod CheckCounts
mod WorkedExamples

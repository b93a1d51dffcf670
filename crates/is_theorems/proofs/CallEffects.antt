-- What each call changes, selects, sends and leaves.
pub mod FailedCallsAndNewAgents
pub mod UnchangedTimingAndBases
pub mod AddedCandidates
pub mod ChecksAndResponses
pub mod ServedRequests
pub mod TimeoutsAndSuccesses
pub mod ChangedCandidates
pub mod CallsThatEmitNothing
pub mod SettingsRoleAndQueues
pub mod PairsAndSelectedPaths
pub mod PathEffects
pub mod ReceivedAndOwed
pub mod PathAndTradeEffects
pub mod ExternalViews
pub mod QueuedSelections
pub mod KeptSettings
pub mod SettingsInTurn

-- Executions of two agents that are seen from outside.
pub mod NetworkModel
pub mod EntriesOfGrowingLogs
pub mod ClaimedRoles
pub mod ImpliedByTheLog
pub mod PreservedByEvents
pub mod ViewsOfExecutions

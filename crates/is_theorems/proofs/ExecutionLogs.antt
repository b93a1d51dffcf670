-- Executions, their logs, segments and points.
pub mod SharedLogTheorems
pub mod LogTheorems
pub mod LogSegments
pub mod SegmentsAsExecutions
pub mod PointsOfSegments
pub mod UnacceptedBytes
pub mod PollingOrder
pub mod SharedRandomSource
pub mod PerAgentExecutions
pub mod NominatedSinceRestart
pub mod PolledSelections

-- The log of one agent.
pub mod GrowingLog
pub mod UnacceptedBytes
pub mod PollingOrder
pub mod StoredAndQueued
pub mod ReportedPaths
pub mod PlainAgents
pub mod SentChecks

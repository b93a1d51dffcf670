-- The events of two agents, and what each agent does in them.
pub mod GrowingLog
pub mod StatesAfterMethods
pub mod DeliveredPackets
pub mod OwnExecutions
pub mod EventsOfSegments
pub mod ExchangedChecks
pub mod OwnLogs
pub mod SelectionsOfSegments

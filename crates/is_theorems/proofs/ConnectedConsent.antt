-- A connected agent has consent.
pub mod ConnectedPairs
pub mod ConnectedExecutions
pub mod AnsweredPairs
pub mod AnsweredExecutions
pub mod AnsweredLately
pub mod ConnectedLogs
pub mod SilentPairs
pub mod SilentRequests
pub mod SilentCalls
pub mod LeftPaths

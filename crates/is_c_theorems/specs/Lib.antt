-- What is proved of lists of C's calls.
pub mod CallLogs
pub mod Chosen
pub mod Seen
pub mod FrugalCalls
pub mod Headline
pub mod Executions
pub mod TwoAgents
pub mod Connecting

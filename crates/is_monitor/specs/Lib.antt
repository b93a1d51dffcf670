-- What is kept next to an agent.
pub mod Watching
pub mod Monitors
pub mod Media
pub mod Failures

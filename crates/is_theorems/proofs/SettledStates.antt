-- With the profile `Modern` an agent is connected if and only if the path that it selected last can be used.
pub mod LivePairs
pub mod SelectedPairs
pub mod Outcomes
pub mod AfterRequests
pub mod AfterTimeouts
pub mod AfterCandidates
pub mod AfterCalls
pub mod AgreeingStates

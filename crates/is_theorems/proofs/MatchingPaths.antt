-- Two agents that send on the same path by their priorities.
pub mod PairsOfTwoAgents
pub mod PathsOfTwoAgents

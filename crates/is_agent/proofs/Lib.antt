pub mod AgentParts

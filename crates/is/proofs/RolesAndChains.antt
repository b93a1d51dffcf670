-- Roles of two agents, and causal chains of the paths that they select.
pub mod RolesAndChainsOfViews
pub mod RolesBecomeOpposite
pub mod OriginalAgents
pub mod ChainsOfSelectedPaths
pub mod FirstMarkedEntries

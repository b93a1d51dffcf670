mod Common
mod AgentLogs
mod TwoAgentEvents
mod ExternalViews
mod RolesAndChains
mod SelectedPaths

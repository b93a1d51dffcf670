-- The paths that two agents select.
pub mod LastSelected
pub mod SelectedInRounds
pub mod SelectedAfterNomination
pub mod BothSelectInRounds
pub mod ChecksInTime
pub mod SelectionsInTime
pub mod NewAgentsSelect
pub mod PathsOfOnePair
pub mod LastNominatedPath

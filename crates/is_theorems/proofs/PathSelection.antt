-- Which path is selected, and after what.
pub mod FirstNumbered
pub mod GreatestEligiblePair
pub mod SelectedPairIsNominated
pub mod NominationPoints
pub mod SelectedAfterResponse
pub mod SelectedAfterFirstResponse
pub mod FirstResponsePerAgent
pub mod FirstSuccessInRounds
pub mod NominatedByPeer
pub mod NominatedByPeerPerAgent
pub mod SelectedAtRequests
pub mod SelectedInCall
pub mod ReplacedPaths

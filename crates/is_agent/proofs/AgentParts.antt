-- Parts of an agent and of its model.
pub mod PairsByNumber
pub mod DuePairsAfterRemoval
pub mod EarlyRequests
pub mod ReceivedResponses
pub mod UsernameLength
pub mod PairsInLists
pub mod SelectedAgain
pub mod LiveCandidates
pub mod PairCounts
pub mod RequestsWithoutResponse
pub mod StepsOfServing
pub mod TimesWithinCredit

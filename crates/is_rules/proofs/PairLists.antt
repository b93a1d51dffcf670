-- A list of pairs in the order of their numbers.
pub mod RisingNumbers
pub mod PairsByNumber
pub mod ChosenPair
pub mod PairsInLists
pub mod VisitedPairs
pub mod CombinationsInLists
pub mod CountedPairs
pub mod LeastOfKind
pub mod PairKinds
pub mod RemovedInTurn
pub mod LeftPair

-- Bounds on lists of candidates, pairs and queues.
pub mod BoundedLists
pub mod UnchangedLists
pub mod ListsAfterRules
pub mod ListsInExecutions
pub mod PairsByCell
pub mod PairsByCellAfterRules
pub mod PairsByCellInExecutions
pub mod NumberOfPairs
pub mod QueuesAfterRules
pub mod QueuesInExecutions

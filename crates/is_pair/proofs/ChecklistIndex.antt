-- A checklist's index of transaction ids.
pub mod SortedById
pub mod IndexAfterCheck
pub mod IndexAfterCut
pub mod AwaitingPair

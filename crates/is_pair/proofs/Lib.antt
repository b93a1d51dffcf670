mod Common
mod StoredChecks
pub mod PairEntries
mod ChecklistIndex
mod PriorityOrder
pub mod DueTimes
pub mod ConsentTimes
pub mod ListParts
pub mod RemovedPairs
pub mod EvictedBlock
pub mod ShortRecords

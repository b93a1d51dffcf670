-- A checklist's pairs by number, when one or all of them change.
pub mod ChangedEntry
pub mod PlaceOfNumber
pub mod VisitedPairs
pub mod WrittenPair
pub mod AnsweredPair
pub mod ChangedPairs
pub mod AddedAndRemovedPairs
pub mod RemovedPair

-- Lists and indices in the proofs of this crate's functions.
pub mod FoundElements
pub mod IndexRanges
pub mod BestIndex
pub mod FoundChecks
pub mod EvictedPairs
pub mod EvictedPairsByKind
pub mod EvictedOneKind
pub mod EvictedTogether
pub mod SlotsOfPairs
pub mod DuePairsAfterNomination
pub mod NextAhead
pub mod NextAsked

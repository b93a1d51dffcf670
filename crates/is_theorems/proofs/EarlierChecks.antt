-- A bound on the checks of other pairs before one that is due.
pub mod ChecksOfOtherPairs
pub mod ChangedPairs
pub mod BetweenTimeouts
pub mod AddedCandidates
pub mod LeavingPaths
pub mod OneCheckFewer
pub mod FirstTimeout

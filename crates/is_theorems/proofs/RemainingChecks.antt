-- How many checks pairs still send before they may be removed.
pub mod RemainingOfPairs
pub mod RemainingAfterRules
pub mod PairsThatPacketsAdd

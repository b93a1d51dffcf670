-- Urgent pairs are checked first.
pub mod ChecksOfUrgentPairs
pub mod RoundsOfUrgentPairs
pub mod RoundsOfServedPairs
pub mod ServedPairsPerAgent

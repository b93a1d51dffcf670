-- Pair priorities, and a checklist's order by them.
pub mod PairPriorities
pub mod OrderedPairs
pub mod GreatestPair
pub mod VisitedGreatest
pub mod LeastPair
pub mod RecomputedPriorities
pub mod RankedPairs
pub mod SingleEntries

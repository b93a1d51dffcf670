-- When pairs are due, and which pair is due first.
pub mod FirstDuePair
pub mod EarlyTime
pub mod LaterAfterCheck
pub mod CountOfDuePairs
pub mod ChecksLeft

-- Which due pair is checked, and what leaves due times.
pub mod AfterNominationAndRemoval
pub mod ChecksAhead
pub mod FirstDuePair
pub mod PressingTimeouts
pub mod AfterPackets
pub mod NoNominationDue
pub mod WithoutValidPair
pub mod PollingCycles
pub mod NominationsAhead
pub mod ConsentAfterTimeouts

-- How many checks an agent sends, and how fast.
pub mod IssuedChecks
pub mod LastTimes
pub mod PacedChecks
pub mod ChargedChecks
pub mod ChecksInSecond
pub mod CallsWithinCredit
pub mod CheckTimes
pub mod Bounds
pub mod KeptPairs
pub mod SentChecks
pub mod PastTimes
pub mod OnSchedule
pub mod FollowedPairs
pub mod SilentTimeouts
pub mod SilentPairs
pub mod FewChecks
pub mod NumbersOfChecks

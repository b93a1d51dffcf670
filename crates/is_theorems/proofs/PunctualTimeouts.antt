-- In which time a pair is checked, and a path is selected.
pub mod UnchangedPacing
pub mod ChecksInTime
pub mod ChecksInTimeInLogs
pub mod ConsentInTime
pub mod SelectedInTime
pub mod SelectedInTimeInLogs
pub mod ServedInTime
pub mod SteadyRoundsInTime

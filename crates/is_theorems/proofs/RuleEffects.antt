-- What the rules of one transition change, leave and select.
pub mod UnchangedSettings
pub mod EarlierAndNewPairs
pub mod SelectedPaths
pub mod NominatedPairs
pub mod ChangedPairs
pub mod TriggeredPairs
pub mod HastenedPairs
pub mod UnhastenedPairs
pub mod PathsThatAreLeft
pub mod Reselection
pub mod NotedErrors

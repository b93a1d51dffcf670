-- The checks that a pair stores.
pub mod LastChecks
pub mod QueueFromBack

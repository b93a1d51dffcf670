pub mod Limits
pub mod Timely
pub mod LeaseLimits
pub mod Leasing

pub mod States
pub mod Reaching
pub mod Authentic
pub mod Secrets
pub mod Closing

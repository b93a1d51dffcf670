pub mod Addresses
pub mod OneReading
pub mod MacLengths

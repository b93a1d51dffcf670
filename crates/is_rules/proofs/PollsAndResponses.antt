-- The next timeout, and what a response contains.
pub mod NextTimeout
pub mod TimesWithinCredit
pub mod AddressesInResponses
pub mod LastTime
pub mod CalmTimeouts
pub mod FormedAgain

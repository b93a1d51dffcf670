-- What was written is read as it was.
pub mod Rows
pub mod ValuesByKind
pub mod XorAddresses
pub mod MessageParts
pub mod Attributes
pub mod SignedMessages
pub mod FoundRows
pub mod Requests
pub mod WrittenChannelData

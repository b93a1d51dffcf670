-- Bytes of a message are read, and which fault they have.
pub mod AttributeSequence
pub mod FirstAttribute
pub mod OnePass
pub mod TextValues
pub mod ReadMessages
pub mod MalformedMessages
pub mod EncodedMessages
pub mod OneReading
pub mod FoundValues

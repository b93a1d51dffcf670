-- Rows, attributes and messages are written, and how long they are.
pub mod ConsecutiveTexts
pub mod ConsecutiveRows
pub mod MessagesByParts
pub mod LengthsOfMessages
pub mod PlainAddresses
pub mod RequestingMessages

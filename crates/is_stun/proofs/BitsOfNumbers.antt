-- Bits of numbers, of addresses and of the CRC; bytes that are equal; delays that double.
pub mod AddressBits
pub mod WideNumbers
pub mod CrcOfConcatenation
pub mod CrcTables
pub mod EqualBytes
pub mod RetransmissionDelays

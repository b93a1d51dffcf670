mod Common
mod MessageReading
mod WrittenMessages
mod RoundTrips
mod BitsOfNumbers

-- The words and the readings of a candidate attribute.
pub mod GrowingTexts
pub mod PlainWords
pub mod SpacedWords
pub mod UniqueWords
pub mod ReadKeys
pub mod UniqueReadings
pub mod PrintedAttributes
pub mod PaddedHexadecimals

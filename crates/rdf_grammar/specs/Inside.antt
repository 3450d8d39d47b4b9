-- What only private functions speak of.
pub mod LexemeReading
pub mod Places

-- What only private functions speak of.
pub mod EachToken
pub mod Places
pub mod Shortcuts
pub mod TokenReading
pub mod TokenValues
pub mod WalkReading

-- What only private functions speak of.
pub mod Exchanges
pub mod Staging
pub mod Unread

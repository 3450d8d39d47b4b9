-- What only private functions speak of: what a keeper holds, how a request is read and staged, and the laws of the readers together.
pub mod FedQuads
pub mod Kept
pub mod Marks
pub mod Saving
pub mod Spans
pub mod Staging
pub mod Starting
pub mod ReaderLaws

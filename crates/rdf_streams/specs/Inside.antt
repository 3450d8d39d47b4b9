-- What only private functions speak of: the parts of a conversion and of a check.
pub mod Counted
pub mod Gathered
pub mod Held
pub mod Parts
pub mod Pieces
pub mod TripleLines

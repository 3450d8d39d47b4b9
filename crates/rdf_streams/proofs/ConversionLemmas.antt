-- What is written of a document.
pub mod Converts
pub mod Gathered
pub mod One
pub mod Ordered
pub mod Parts
pub mod Pieces
pub mod TripleLines
pub mod Turtle
pub mod WholeLines

-- The whole program: what it opens, reads and writes for its words, and how it ends.
pub mod Openings
pub mod Order
pub mod Sessions
pub mod Stages
pub mod Texts
pub mod Words

-- Conversions: what is written of a document, in which order, and the faults that end one.
pub mod Converts
pub mod Faults
pub mod OneConversion
pub mod Orders

-- Events one behind another, what write calls leave, and the bytes of a reader and a writer.
pub mod Logs
pub mod Orderly
pub mod Pairs
pub mod Written

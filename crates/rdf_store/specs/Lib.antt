pub mod Gathered
pub mod Inside
pub mod Stored

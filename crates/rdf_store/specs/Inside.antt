pub mod Names
pub mod Numbers
pub mod Ranks
pub mod Runs

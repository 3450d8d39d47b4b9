pub mod Merging
pub mod Places

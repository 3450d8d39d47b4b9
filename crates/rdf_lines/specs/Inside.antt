pub mod StateListing
pub mod Slices

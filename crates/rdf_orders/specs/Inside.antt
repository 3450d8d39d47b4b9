pub mod Ahead
pub mod Gains
pub mod Mirror
pub mod Run
pub mod Starts
pub mod Widths

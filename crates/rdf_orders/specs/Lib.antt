pub mod Contents
pub mod Inside
pub mod Quads
pub mod Running
pub mod Runs

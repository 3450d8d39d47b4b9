-- What private functions speak of: the parts of an answer, how the program begins and ends, and what `Program` is made of.
pub mod Asks
pub mod Once
pub mod Outcomes
pub mod Starting
pub mod Starts
pub mod Told
pub mod Says
pub mod WriteFaults

-- What only private functions speak of.
pub mod Cells
pub mod Formed
pub mod LinedFaults
pub mod NamePlaces
pub mod Proper
pub mod Reading
pub mod Room
pub mod Stops
pub mod Told
pub mod Turns
pub mod Walks

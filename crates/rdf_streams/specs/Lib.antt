pub mod Checks
pub mod Conversion
pub mod Devices
pub mod DocumentLaws
pub mod Inside
pub mod Streams

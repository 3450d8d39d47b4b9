pub mod Delta
pub mod Emptied
pub mod Unread

pub mod Delta
pub mod Inside

pub mod Examples
pub mod Inside
pub mod Program
pub mod Progress
pub mod Script

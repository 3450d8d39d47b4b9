pub mod Data
pub mod InScope
pub mod Quads
pub mod Visible
pub mod VisibleLaws
pub mod formers

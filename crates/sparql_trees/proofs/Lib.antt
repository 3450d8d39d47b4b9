mod InScopeLemmas
pub mod VisibleLemmas
mod VisibleOrder

mod AheadLemmas
pub mod CallerLemmas
mod ContentsLemmas
mod FromLemmas
mod KeyLemmas
mod LookUpLemmas
mod NextLemmas
mod RunLemmas
mod SetLemmas
mod TestLemmas
mod TreeLemmas
mod WidthLemmas

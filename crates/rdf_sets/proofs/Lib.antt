pub mod CallerLemmas
mod CommonLemmas
mod DeltaLemmas
mod KeepLemmas
mod ListsOnceLemmas
mod SortedLemmas
mod TreeLemmas
mod OnceLemmas

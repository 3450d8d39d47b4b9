pub mod CallerLemmas
mod ChainLemmas
mod ChangeLawLemmas
mod ClearingLemmas
mod EmptiedLemmas
mod ExchangeLemmas
mod GatheringLemmas
mod InsertionLemmas
mod LoadingLemmas
mod QuadEditLemmas
mod SourceLemmas
mod StateLemmas
mod StoredLemmas
mod UnreadLemmas

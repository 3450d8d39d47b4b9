mod AbbreviationLemmas
mod BlankSteps
pub mod CallerLemmas
mod DraftsBelow
mod FailLemmas
mod LeafSteps
mod ScopeLabels
mod ScopeLoops
mod ScopeSteps
mod StandLemmas

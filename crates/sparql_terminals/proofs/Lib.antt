pub mod CallerLemmas
mod FormedSlices
mod GrammarWords
mod Keywords
mod OpenerBytes
mod ProfileTokens
mod Shifts
mod UsefulWords
mod Uses
mod WordYields
mod Yields

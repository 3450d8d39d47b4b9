pub mod CheckLemmas
pub mod ConversionLemmas
pub mod DeviceLemmas
pub mod DocumentLemmas
pub mod StreamLemmas

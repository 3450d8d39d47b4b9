pub mod OrderLemmas
pub mod ProgramLemmas
pub mod ScriptLemmas
pub mod SeveralLemmas
mod StartingLemmas

pub mod Formed
pub mod Lexemes
pub mod Openers
pub mod Profile
pub mod Terminals
pub mod Useful
pub mod WordGrammar
pub mod WordReading

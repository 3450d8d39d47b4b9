pub mod ExpressionLemmas
mod GroupLawLemmas
pub mod GroupLemmas
pub mod KnownLemmas
pub mod NameLemmas
pub mod QuadLemmas
pub mod QueryLemmas

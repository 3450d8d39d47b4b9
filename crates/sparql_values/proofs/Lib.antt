pub mod CallerLemmas
pub mod ColumnsLemmas
mod FoldLemmas
mod FormLemmas
mod FormTableLemmas
mod LawLemmas
mod MappingLemmas
pub mod NameLemmas
mod NumberLemmas
mod OperandLemmas
mod ResultLemmas
mod TableLemmas
mod TermLemmas
mod ValueLemmas

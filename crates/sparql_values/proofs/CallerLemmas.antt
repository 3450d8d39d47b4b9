-- What other crates cite.
pub use Rattle.sparql_values.proofs.TermLemmas.{same_term_is, same_term_own}
pub use Rattle.sparql_values.proofs.ValueLemmas.{value-Bound, value-Not, value-SameTerm, value-Term, value-Variable}
pub use Rattle.sparql_values.proofs.ColumnsLemmas.{value_of_nothing, has_column_within, next_within}
pub use Rattle.sparql_values.proofs.NameLemmas.{column_at, column_is}

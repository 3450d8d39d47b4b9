-- What other crates cite.
pub use Rattle.sparql_grammar.proofs.GrammarUses.{queries_useful, requests_useful}
pub use Rattle.sparql_grammar.proofs.OperationProper.{requests_proper}
pub use Rattle.sparql_grammar.proofs.OperationWhole.{found_alone, request_read, request_unique, stop_explained}
pub use Rattle.sparql_grammar.proofs.QueryProper.{queries_proper}
pub use Rattle.sparql_grammar.proofs.QueryWhole.{query_found, query_stop_explained, query_unique}

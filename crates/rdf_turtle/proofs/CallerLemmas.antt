-- What other crates cite.
pub use Rattle.rdf_turtle.proofs.WrittenDocuments.{written_triples_are_turtle}

-- What other crates cite.
pub use Rattle.rdf_lines.proofs.LawLemmas.{first_quad, quads_of}
pub use Rattle.rdf_lines.proofs.LineLaws.{one_answer, some_answer}
pub use Rattle.rdf_lines.proofs.PieceLemmas.{ended, feed, not_feed, onto-cons, other}
pub use Rattle.rdf_lines.proofs.RenamedLemmas.{numbered_again, numbered_documents_are_read_back}
pub use Rattle.rdf_lines.proofs.SortLemmas.{one_text}
pub use Rattle.rdf_lines.proofs.WrittenLineLemmas.{reads_all}

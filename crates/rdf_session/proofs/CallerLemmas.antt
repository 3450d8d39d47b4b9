-- What other crates cite.
pub use Rattle.rdf_session.proofs.FedLemmas.{SoFar, all_fed, at_start, nothing_so_far, one_more, one_parts, read_parts}
pub use Rattle.rdf_session.proofs.MarkLemmas.{place_kept, place_lost, place_marked, place_nowhere, place_other, place_past}

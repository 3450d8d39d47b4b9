-- What other crates cite.
pub use Rattle.rdf_sets.proofs.DeltaLemmas.{all_new, applied, ends_at, gained_at, has_known, has_new, insert_known, insert_new, lost_at, lost_known, no_delta, remove_known, remove_new, taken_back}
pub use Rattle.rdf_sets.proofs.ListsOnceLemmas.{filter_short, kept_or_new, lists_both, lists_matching, not_both, retained, staged_once}
pub use Rattle.rdf_sets.proofs.SortedLemmas.{at_tie, filter_contains, insert_there, lists_once, tie_itself, tie_same}

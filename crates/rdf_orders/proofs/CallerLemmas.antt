-- What other crates cite.
pub use Rattle.rdf_orders.proofs.KeyLemmas.{contains_kept, id_quad_cmp-IsAntisymmetric, id_quad_cmp_total}
pub use Rattle.rdf_orders.proofs.RunLemmas.{some_of_run}
pub use Rattle.rdf_orders.proofs.SetLemmas.{difference_none, difference_push}
pub use Rattle.rdf_orders.proofs.TestLemmas.{both, either_first, either_second, first_of_both, is_either, second_of_both}

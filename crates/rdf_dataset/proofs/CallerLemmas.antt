-- What other crates cite.
pub use Rattle.rdf_dataset.proofs.InsertionLemmas.{none_left, with_all-more, with_all-nothing}
pub use Rattle.rdf_dataset.proofs.StateLemmas.{gone_back, gone_to, leads_back, leads_of, net, no_items, sound_empty, state}

use Rattle.rdf_terms.specs.Below.{AreBelow}
use Rattle.dataset_model.proofs.catalogue.Catalogue.quads.Given as goal

abbrev pub invariant-loop : goal.invariant-loop
invariant-loop l = AreBelow 0 l.quads.items

use Rattle.rdf_dataset.specs.State.{Ends}
use Rattle.dataset_model.proofs.measure.five_loads.Given as goal

abbrev pub invariant-loop : goal.invariant-loop
invariant-loop g l = Ends l.all (g.D.Source.contents l.dataset)

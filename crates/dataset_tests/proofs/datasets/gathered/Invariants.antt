use Rattle.rdf_terms.specs.Below.{AreBelow}
use Rattle.dataset_tests.proofs.datasets.gathered.Given as goal

abbrev pub invariant-loop-text : goal.invariant-loop-text
invariant-loop-text l = AreBelow 4 l.gathering

use Rattle.rdf_store.specs.Inside.Ranks.{AreNumbered}
use Rattle.rdf_store.proofs.ranks.Ranks.of_fronts.Given as goal

abbrev pub invariant-loop-key : goal.invariant-loop-key
invariant-loop-key l = AreNumbered l.table l.ranks.terms.items

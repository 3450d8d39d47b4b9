use Rattle.rdf_orders.proofs.TreeLemmas.{mirrors_nothing}
use Rattle.rdf_orders.proofs.trees.Trees.new.Goals as goal

pub returns : goal.returns
returns c = mirrors_nothing _ c.new.ensures c.new-2.ensures c.new-3.ensures

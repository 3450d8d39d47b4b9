use Rattle.rdf_orders.proofs.KeyLemmas.{stands_together}
use Rattle.rdf_orders.proofs.laws.matching_quads_stand_together.Goals as goal

pub returns : goal.returns
returns c = stands_together

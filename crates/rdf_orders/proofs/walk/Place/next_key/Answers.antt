use Rattle.rdf_orders.proofs.AheadLemmas.{behind_moved}
use Rattle.rdf_orders.proofs.walk.Place.next_key.Goals as goal

pub returns-clause-kept : goal.returns-clause-kept
returns-clause-kept c = λ quads behind. behind_moved _ _ _ _ _ _ c.in_ok-key.ensures.steps behind

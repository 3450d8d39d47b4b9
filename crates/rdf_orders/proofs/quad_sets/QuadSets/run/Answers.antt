use Rattle.rdf_orders.proofs.RunLemmas.{run_found}
use Rattle.rdf_orders.proofs.quad_sets.QuadSets.run.Goals as goal

pub returns-clause-found : goal.returns-clause-found
returns-clause-found c = run_found _ _ _ _ c.prefix_of-prefix.ensures c.keys_ahead-keys.result c.keys_ahead-keys.ensures

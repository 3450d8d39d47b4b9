use Rattle.sparql_solve.proofs.BoundLemmas.{unbound_by_next}
use Rattle.sparql_solve.proofs.mappings.Mapping.is_unbound.Goals as goal

pub returns : goal.returns
returns c = unbound_by_next c.args.self.now c.next_bound.result c.is_none.result c.next_bound.ensures.next c.is_none.ensures

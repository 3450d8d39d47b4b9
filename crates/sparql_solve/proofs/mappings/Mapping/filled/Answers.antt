use Rattle.sparql_solve.proofs.BoundLemmas.{merged_all}
use Rattle.sparql_solve.proofs.mappings.Mapping.filled.Goals as goal

pub returns : goal.returns
returns c = merged_all c.args.self c.args.other.now c.loop-column.out c.loop-column.from c.loop-column.invariant c.in_default.ensures.next

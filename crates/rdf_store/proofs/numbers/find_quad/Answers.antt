use Rattle.std.proofs.Common.{sym, subst}
use Rattle.rdf_store.specs.Inside.Numbers.{IsGraphNumber}
use Rattle.rdf_store.proofs.numbers.find_quad.Goals as goal

pub returns-in_err-graph-clause-absent : goal.returns-in_err-graph-clause-absent
returns-in_err-graph-clause-absent c =
    rw c.from_residual.ensures (λ k n. c.in_err-graph.ensures.absent k.graph (subst (IsGraphNumber c.args.table.now k.graph) (sym c.graph.ensures.value) n.graph))

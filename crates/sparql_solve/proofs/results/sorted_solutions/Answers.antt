use Rattle.sparql_solve.proofs.ResultLemmas.{sorted_found}
use Rattle.sparql_solve.proofs.results.sorted_solutions.Goals as goal

pub returns-clause-rows : goal.returns-clause-rows
returns-clause-rows g c =
    sorted_found c.args.pattern.now c.args.graph.now (g.S.Source.contents c.args.source.now) c.in_ok-found.found.variables c.in_ok-found.found.rows.items
    c.sort_mappings.new.mappings.items c.in_ok-found.ensures c.in_ok-sort_mappings.ensures.permutation c.in_ok-sort_mappings.ensures.sorted

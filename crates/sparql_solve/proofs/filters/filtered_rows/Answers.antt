use Rattle.sparql_solve.proofs.FilterLemmas.{no_filters}
use Rattle.sparql_solve.proofs.filters.filtered_rows.Goals as goal

pub returns-then-is_empty : goal.returns-then-is_empty
returns-then-is_empty c = no_filters c.args.scope.now.variables.now c.args.filters.now c.args.rows.items c.is_empty.result c.is_empty.ensures c.if-is_empty.true

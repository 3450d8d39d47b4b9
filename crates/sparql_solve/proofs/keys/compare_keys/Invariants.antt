use Rattle.std.proofs.Common.{◌≡◌, drop}
use Rattle.sparql_solve.specs.Keys.{key_cmp}
use Rattle.sparql_solve.proofs.keys.compare_keys.Given as goal

abbrev pub invariant-loop-column : goal.invariant-loop-column
invariant-loop-column l = key_cmp (drop l.column-index l.columns) l.row l.other ≡ key_cmp l.columns l.row l.other

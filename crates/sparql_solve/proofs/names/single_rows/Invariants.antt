use Rattle.std.proofs.Common.{◌≡◌, ◌++◌, map, drop}
use Rattle.sparql_values.specs.Mapping.{single}
use Rattle.sparql_solve.proofs.names.single_rows.Given as goal

abbrev pub invariant-loop-name : goal.invariant-loop-name
invariant-loop-name l =
    l.out.items ++ map (single l.variables l.variable) (drop l.name-index l.names) ≡ map (single l.variables l.variable) l.names

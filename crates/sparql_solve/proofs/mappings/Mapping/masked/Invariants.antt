use Rattle.std.proofs.Common.{◌≡◌, false, length, take}
use Rattle.sparql_solve.specs.Flags.{raised}
use Rattle.sparql_solve.specs.Under.{masked}
use Rattle.sparql_solve.proofs.mappings.Mapping.masked.Given as goal

abbrev pub invariant-loop-column : goal.invariant-loop-column
invariant-loop-column l = l.out ≡ masked (raised false (take l.column-index l.columns) (length l.flags)) l.self

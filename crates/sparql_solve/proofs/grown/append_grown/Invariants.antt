use Rattle.std.proofs.Common.{◌≡◌, ◌++◌, true}
use Rattle.std.specs.List.{list_all}
use Rattle.std.specs.Vec.Iter.{drain_items}
use Rattle.sparql_solve.specs.Matching.{has_held, matches_of}
use Rattle.sparql_solve.proofs.grown.append_grown.Given as goal

abbrev pub invariant-loop-quad : goal.invariant-loop-quad
invariant-loop-quad l = record {
  made : l.out.items ++ matches_of (drain_items l.quad-iterator) l.places l.row ≡ l.fn.out.items ++ matches_of l.fn.quads.items l.places l.row;
  held : list_all (has_held l.places l.row) (drain_items l.quad-iterator) ≡ true;
}

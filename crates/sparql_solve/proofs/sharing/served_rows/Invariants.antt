use Rattle.std.proofs.Common.{◌≡◌, ◌++◌, true, length}
use Rattle.std.specs.List.{list_all}
use Rattle.sparql_solve.specs.Under.{is_served}
use Rattle.sparql_solve.proofs.sharing.served_rows.Given as goal

abbrev pub invariant-loop-row : goal.invariant-loop-row
invariant-loop-row l = record {
  taken : l.initial.rest.items ≡ l.served.items ++ l.rest.items;
  served : list_all (is_served l.asked) l.served.items ≡ true;
}

abbrev pub decreases-loop-row : goal.decreases-loop-row
decreases-loop-row l = length l.rest.items

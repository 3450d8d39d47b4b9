use Rattle.std.proofs.Common.{◌≡◌}
use Rattle.sparql_trees.proofs.visible.variables_of.Given as goal

abbrev pub invariant-loop-name : goal.invariant-loop-name
invariant-loop-name l = l.listed ≡ l.yielded

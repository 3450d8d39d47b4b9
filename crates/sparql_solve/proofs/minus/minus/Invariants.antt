use Rattle.std.proofs.Common.{◌≡◌, take}
use Rattle.sparql_algebra.specs.Solutions.{minuses}
use Rattle.sparql_solve.proofs.PartLemmas.{all_rows}
use Rattle.sparql_solve.proofs.minus.minus.Given as goal

abbrev pub invariant-loop-group : goal.invariant-loop-group
invariant-loop-group l = l.out.items ≡ minuses (all_rows (take l.group-index l.group-items)) (all_rows l.others.items)

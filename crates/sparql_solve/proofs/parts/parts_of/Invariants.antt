use Rattle.std.proofs.Common.{◌≡◌, take}
use Rattle.std.specs.List.{All}
use Rattle.sparql_algebra.specs.Solutions.{merges}
use Rattle.sparql_solve.specs.Parts.{merges_in}
use Rattle.sparql_solve.proofs.KeyLemmas.{rows_of}
use Rattle.sparql_solve.proofs.PartLemmas.{all_rows}
use Rattle.sparql_solve.proofs.parts.parts_of.Given as goal

abbrev pub invariant-loop-rows : goal.invariant-loop-rows
invariant-loop-rows l = All (λ a. merges_in l.parts.items a ≡ merges (all_rows (take l.rows-index l.right)) a) (rows_of l.left)

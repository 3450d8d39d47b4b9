use Rattle.std.proofs.Common.{All, take}
use Rattle.std.specs.Option.{option_copied}
use Rattle.sparql_solve.specs.Coded.{HasAt}
use Rattle.sparql_solve.proofs.coded.are_alike_at.Given as goal

abbrev pub invariant-loop-coded : goal.invariant-loop-coded
invariant-loop-coded l = All (λ r. HasAt l.column (option_copied l.value) r.row) (take l.coded-index l.rows)

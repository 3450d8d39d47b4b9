use Rattle.std.proofs.Common.{◌≡◌, take}
use Rattle.std.specs.List.{All, list_any}
use Rattle.sparql_solve.specs.Parts.{meets, meets_in}
use Rattle.sparql_solve.proofs.KeyLemmas.{rows_of}
use Rattle.sparql_solve.proofs.PartLemmas.{all_rows}
use Rattle.sparql_solve.proofs.minus.met_parts.Given as goal

abbrev pub invariant-loop-rows : goal.invariant-loop-rows
invariant-loop-rows l =
    All (λ a. list_any (meets_in a) l.parts.items ≡ list_any (meets a) (all_rows (take l.rows-index l.right))) (rows_of l.left)

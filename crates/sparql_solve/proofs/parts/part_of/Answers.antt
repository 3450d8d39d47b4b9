use Rattle.sparql_solve.proofs.KeyLemmas.{rows_of}
use Rattle.sparql_solve.proofs.PartLemmas.{part_gives}
use Rattle.sparql_solve.proofs.parts.part_of.Goals as goal

pub returns : goal.returns
returns c =
    part_gives c.in_ok-columns.columns.items c.as_slice-2.result.now (rows_of c.args.left.now) (rows_of c.args.rows.now) (rows_of c.in_ok-rows.rows.items)
    c.as_slice-2.ensures.value c.in_ok-columns.ensures c.in_ok-rows.ensures

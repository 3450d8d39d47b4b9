use Rattle.std.proofs.Common.{refl}
use Rattle.sparql_solve.specs.Coded.{rows_of}
use Rattle.sparql_solve.proofs.CodedRowLemmas.{alike_more}
use Rattle.sparql_solve.proofs.coded.first_apart.Goals as goal

pub loop-column-preserved : goal.loop-column-preserved
loop-column-preserved c = alike_more c.loop-column.column (rows_of c.args.rows.now) c.loop-column.invariant (c.if-are_alike_at.ensures refl)

use Rattle.std.proofs.Common.{map}
use Rattle.sparql_solve.proofs.KeyLemmas.{rows_of}
use Rattle.sparql_solve.specs.Bins.{bin_items}
use Rattle.sparql_solve.proofs.BinLemmas.{first_gives}
use Rattle.sparql_solve.proofs.parts.binned_part.Goals as goal

pub returns-then-columns-eq1 : goal.returns-then-columns-eq1
returns-then-columns-eq1 c A k =
    first_gives c.args.columns.now c.in-Some.column.now c.in_ok-bins.bins.column A (rows_of c.args.rows.now) c.in_ok-bins.bins.rows.terms
    (map bin_items c.in_ok-bins.bins.rows.bins.items) c.in-Some.ensures.value c.in_ok-bins.ensures.column k c.in_ok-bins.ensures.bins

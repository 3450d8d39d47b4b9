use Rattle.std.proofs.Common.{◌≡◌, ◌++◌, take, false}
use Rattle.std.specs.List.{flat_map}
use Rattle.sparql_results.specs.Formats.{row_in}
use Rattle.rdf_session.proofs.query.append_rows.Given as goal

abbrev pub invariant-loop-row : goal.invariant-loop-row
invariant-loop-row l = l.out.items ≡ l.initial.out.items ++ flat_map (row_in l.format false l.columns) (take l.row-index l.others)

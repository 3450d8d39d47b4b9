use Rattle.std.proofs.Common.{◌≡◌, filter, length, map, take}
use Rattle.rdf_terms.specs.declared.term.Term.{Term}
use Rattle.sparql_solve.specs.Bins.{bin_items, binned, has_at}
use Rattle.sparql_solve.proofs.bins.bins_of.Given as goal

abbrev pub invariant-loop-row : goal.invariant-loop-row
invariant-loop-row l = record {
  paired : length l.bins.items ≡ length l.terms;
  put : (t : Term) → binned l.terms (map bin_items l.bins.items) t ≡ filter (has_at l.column t) (map (λ r. r.now) (take l.row-index l.rows));
}

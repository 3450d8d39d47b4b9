use Rattle.std.proofs.Common.{◌≡◌, filter, length, map, take}
use Rattle.rdf_terms.specs.declared.term.Term.{Term}
use Rattle.sparql_values.specs.Mapping.{same_term}
use Rattle.sparql_solve.specs.Bins.{bin_items, binned}
use Rattle.sparql_solve.specs.Partners.{end_term}
use Rattle.sparql_solve.proofs.partners.quad_bins.Given as goal

abbrev pub invariant-loop-quad : goal.invariant-loop-quad
invariant-loop-quad l = record {
  paired : length l.bins.items ≡ length l.terms;
  put : (t : Term) → binned l.terms (map bin_items l.bins.items) t ≡ filter (λ q. same_term t (end_term l.is_subject q)) (take l.quad-index l.quads);
}

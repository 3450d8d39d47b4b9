-- What stands in bins that a term finds.
use Rattle.std.specs.Prelude.{List, map, Option}
use Rattle.rdf_terms.specs.declared.term.Term.{Term}
use Rattle.sparql_solve.specs.Bins.{bin_items, binned, binned_in}
use Rattle.sparql_solve.specs.declared.term_bins.TermBins.{TermBins}

-- in the bin of a term
abbrev pub in_bin : {T : Type 0} → TermBins T → Term → List T
in_bin b t = binned b.terms (map bin_items b.bins.items) t

-- in that of what a mapping has at a column, where it has something there
abbrev pub in_bin_of : {T : Type 0} → TermBins T → Option Term → List T
in_bin_of b term = binned_in b.terms (map bin_items b.bins.items) term

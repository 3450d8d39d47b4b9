-- The order of mappings. It is this project's own: by their values from the left, unbound first.
use Rattle.std.specs.Option.{option_cmp}
use Rattle.std.specs.Cmp.Lexicographic.{slice_cmp}
use Rattle.std.specs.declared.cmp.Ordering.{Ordering}
use Rattle.rdf_terms.specs.Order.{term_cmp}
use Rattle.sparql_values.specs.Mapping.{Mapping}

abbrev pub mapping_cmp : Mapping → Mapping → Ordering
mapping_cmp = slice_cmp (option_cmp term_cmp)

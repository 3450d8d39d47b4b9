-- Rising lists of quads and of terms.
use Rattle.std.specs.Prelude.{List}
use Rattle.std.specs.List.Sorted.{IsStrictlySortedBy}
use Rattle.rdf_terms.specs.Order.{quad_cmp, term_cmp}
use Rattle.rdf_terms.specs.Quad.{QuadParts}
use Rattle.rdf_terms.specs.declared.term.Term.{Term}

-- the lists that a net has, each in strictly rising order
pub record AreRising (added removed : List QuadParts) (names_added names_removed : List Term) : Type 0 where
  pub added_rise : IsStrictlySortedBy quad_cmp added
  pub removed_rise : IsStrictlySortedBy quad_cmp removed
  pub names_added_rise : IsStrictlySortedBy term_cmp names_added
  pub names_removed_rise : IsStrictlySortedBy term_cmp names_removed

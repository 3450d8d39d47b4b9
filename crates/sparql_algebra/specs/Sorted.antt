-- The solutions of a pattern as one list. That it is sorted is this project's own: SPARQL 1.1 Update, section 4.3, names no order.
use Rattle.std.specs.Prelude.{◌≡◌, List, [], ◌∷◌, cond, count_by, IsSorted}
use Rattle.std.specs.Ordering.{is_lt}
use Rattle.rdf_terms.specs.declared.quad.GraphName.{GraphName}
use Rattle.rdf_dataset.specs.State.{State}
use Rattle.sparql_trees.specs.declared.pattern.Pattern.{Pattern}
use Rattle.sparql_algebra.specs.Listing.{Listing, Lists, listing_of}
use Rattle.sparql_algebra.specs.Order.{mapping_cmp}
use Rattle.sparql_algebra.specs.Results.{pattern_solutions, pattern_count}
use Rattle.sparql_values.specs.Mapping.{Mapping, same_mapping}

-- The mappings of the visible variables stand in their order, by the values from the left, unbound first. However the graphs are listed,
-- each stands there as often as the algebra counts it.
pub record IsSolutionList (P : Pattern) (g : GraphName) (s : State) (rows : List Mapping) : Type 0 where
  pub sorted : IsSorted mapping_cmp rows
  pub counted : (d : Listing) → Lists s d → (m : Mapping) → count_by (same_mapping m) rows ≡ pattern_count P g d m

-- ---- the one such list

-- a mapping behind those that are less
abbrev pub put : Mapping → List Mapping → List Mapping
put m [] = m ∷ []
put m (n ∷ ns) = cond (is_lt (mapping_cmp n m)) (n ∷ put m ns) (m ∷ n ∷ ns)

abbrev pub sort : List Mapping → List Mapping
sort [] = []
sort (m ∷ ms) = put m (sort ms)

-- the solutions of a pattern in a graph of the state
unfoldable pub sorted_solutions : Pattern → GraphName → State → List Mapping
sorted_solutions P g s = sort (pattern_solutions P g (listing_of s))

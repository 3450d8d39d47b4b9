-- The results of queries (SPARQL 1.1 Query, sections 16.1, 16.3 and 18.2.5).
use Rattle.std.specs.Prelude.{◌≡◌, ℕ, Bool, true, false, List, [], ◌∷◌, map, count_by, IsSorted, if◌then◌else◌}
use Rattle.rdf_terms.specs.declared.quad.GraphName.{GraphName}
use Rattle.rdf_terms.specs.declared.quad.GraphName.TheVariants.{Default}
use Rattle.rdf_dataset.specs.State.{State}
use Rattle.sparql_trees.specs.Visible.{named, visible}
use Rattle.sparql_trees.specs.declared.pattern.Pattern.{Pattern}
use Rattle.sparql_trees.specs.declared.query.Select.{Select}
use Rattle.sparql_algebra.specs.Algebra.{translation}
use Rattle.sparql_algebra.specs.Bags.{once_if_any}
use Rattle.sparql_algebra.specs.Listing.{Listing, Lists}
use Rattle.sparql_values.specs.Mapping.{Variables, Mapping, same_mapping, value_of}
use Rattle.sparql_algebra.specs.Order.{mapping_cmp}
use Rattle.sparql_algebra.specs.Solutions.{solutions}

-- the columns of a mapping; one that is no variable of the pattern is unbound
abbrev pub projected : Variables → Variables → Mapping → Mapping
projected variables columns m = map (value_of variables m) columns

-- The solutions of a pattern in a graph. They are found over all variables that the pattern names, since a MINUS's right side binds its
-- own, and shown at the visible ones.
abbrev pub pattern_solutions : Pattern → GraphName → Listing → List Mapping
pattern_solutions P g d = map (projected (named P) (visible P)) (solutions (named P) d g (translation P))

-- how often a mapping of the visible variables is counted
abbrev pub pattern_count : Pattern → GraphName → Listing → Mapping → ℕ
pattern_count P g d m = count_by (same_mapping m) (pattern_solutions P g d)

-- The rows are mappings of the visible variables, in the order of their names. However the graphs are listed, they hold each mapping as
-- often as the algebra counts it.
pub record Solves (P : Pattern) (g : GraphName) (s : State) (variables : Variables) (rows : List Mapping) : Type 0 where
  pub variables_are : variables ≡ visible P
  pub counted : (d : Listing) → Lists s d → (m : Mapping) → count_by (same_mapping m) rows ≡ pattern_count P g d m

-- ---- SELECT

-- the columns of each solution, in the default graph
abbrev pub projections : Select → Listing → List Mapping
projections q d = map (projected (visible q.pattern) q.columns) (pattern_solutions q.pattern Default d)

-- under DISTINCT once
abbrev pub times_selected : Bool → ℕ → ℕ
times_selected distinct n = if distinct then once_if_any n else n

-- The rows stand in their order, each as often as the solutions give it.
pub record IsSelection (q : Select) (s : State) (rows : List Mapping) : Type 0 where
  pub sorted : IsSorted mapping_cmp rows
  pub counted : (d : Listing) → Lists s d → (m : Mapping) →
      count_by (same_mapping m) rows ≡ times_selected q.distinct (count_by (same_mapping m) (projections q d))

-- ---- ASK

abbrev pub is_some_solution : List Mapping → Bool
is_some_solution [] = false
is_some_solution (m ∷ ms) = true

-- whether the pattern has a solution in the default graph
abbrev pub HasSolution : Pattern → State → Bool → Type 0
HasSolution P s answer = (d : Listing) → Lists s d → answer ≡ is_some_solution (pattern_solutions P Default d)

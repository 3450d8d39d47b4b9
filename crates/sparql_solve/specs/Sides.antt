-- Look-ups of the right side of a join under each left solution.
use Rattle.std.specs.Prelude.{◌≡◌, ℕ, Bool, List, [], ◌∷◌, Option, Some, None, cond, map}
use Rattle.std.specs.List.{flat_map, list_any}
use Rattle.rdf_terms.specs.declared.term.Term.{Term}
use Rattle.rdf_terms.specs.declared.term.Term.TheVariants as t
use Rattle.rdf_terms.specs.declared.quad.GraphName.{GraphName}
use Rattle.rdf_terms.specs.declared.quad.GraphName.TheVariants.{Named}
use Rattle.sparql_trees.specs.declared.pattern.BasicGraphPattern.{BasicGraphPattern}
use Rattle.sparql_trees.specs.declared.pattern.Member.{Member}
use Rattle.sparql_trees.specs.declared.pattern.Member.TheVariants as m
use Rattle.sparql_trees.specs.declared.pattern.Pattern.{Pattern}
use Rattle.sparql_trees.specs.declared.pattern.VarOrIri.{VarOrIri}
use Rattle.sparql_trees.specs.declared.pattern.VarOrIri.TheVariants as v
use Rattle.sparql_values.specs.Mapping.{Variables, Mapping, same_term, value_of, single, compatible, merge}
use Rattle.sparql_algebra.specs.Algebra.{Element, joined, optional, removed, element}
use Rattle.sparql_algebra.specs.Listing.{Listing}
use Rattle.sparql_solve.specs.declared.look_ups.Graphs.{Graphs}
use Rattle.sparql_solve.specs.declared.look_ups.Graphs.TheVariants.{One, Missing, Each}
use Rattle.sparql_solve.specs.declared.look_ups.LookUp.{LookUp}
use Rattle.sparql_solve.specs.Matching.{places_of}
use Rattle.sparql_solve.specs.LookUps.{looked_up}

-- the graph of a name, where there is one
abbrev pub graph_where : Bool → Term → Graphs
graph_where there n = cond there (One (Named n)) Missing

-- the graphs that GRAPH names, among those of these names
abbrev pub graphs_of : List Term → VarOrIri → Graphs
graphs_of names (v.Variable name) = Each name
graphs_of names (v.Iri iri) = graph_where (list_any (same_term (t.Iri iri)) names) (t.Iri iri)

-- the look-ups of a basic graph pattern in these graphs
abbrev pub look_up_in : Variables → Graphs → BasicGraphPattern → LookUp
look_up_in vs graphs b = record { graphs = graphs; places = map (places_of vs) b.triples; hidden = b.hidden }

-- the names that a graph's variable may have: all of them, but where it is bound already only its own, if that is one of them
abbrev pub tried : List Term → Option Term → List Term
tried names (Some n) = cond (list_any (same_term n) names) (n ∷ []) []
tried names None = names

-- what is found under a mapping in one graph
abbrev pub found_in : Listing → LookUp → GraphName → Mapping → List Mapping
found_in d l g m = looked_up (d.quads g) l.places l.hidden m

module _ (vs : Variables) (d : Listing) where
  -- in the graph of this name, to which the variable is bound first
  abbrev pub found_under : LookUp → List ℕ → Mapping → Term → List Mapping
  found_under l name m n = cond (compatible m (single vs name n)) (found_in d l (Named n) (merge m (single vs name n))) []

  abbrev pub found_among : LookUp → Graphs → Mapping → List Mapping
  found_among l (One g) m = found_in d l g m
  found_among l Missing m = []
  found_among l (Each name) m = flat_map (found_under l name m) (tried d.names (value_of vs m name))

  -- what is found under a mapping
  abbrev pub found : LookUp → Mapping → List Mapping
  found l m = found_among l l.graphs m

-- ---- groups of one member

abbrev pub where_joined : Member → Element → Option Member
where_joined x (joined A) = Some x
where_joined x (optional F A) = None
where_joined x (removed A) = None

-- the only one, where there is one alone that is joined
abbrev pub lone_joined : List Member → Option Member
lone_joined [] = None
lone_joined (x ∷ []) = where_joined x (element x)
lone_joined (x ∷ y ∷ xs) = None

-- the group holds just this basic graph pattern, and no filters
pub record HoldsJust (p : Pattern) (b : BasicGraphPattern) : Type 0 where
  pub member : p.members ≡ m.Basic b ∷ []
  pub filters : p.filters ≡ []

-- the group holds just this member, and no filters
pub record HoldsOnly (p : Pattern) (x : Member) : Type 0 where
  pub member : p.members ≡ x ∷ []
  pub filters : p.filters ≡ []

-- the group holds nothing
pub record HoldsNone (p : Pattern) : Type 0 where
  pub members : p.members ≡ []
  pub filters : p.filters ≡ []

-- the member is MINUS of just this basic graph pattern
pub record RemovesJust (x : Member) (b : BasicGraphPattern) : Type 0 where
  pub group : Pattern
  pub member : x ≡ m.Minus group
  pub holds : HoldsJust group b

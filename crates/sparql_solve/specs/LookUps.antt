-- Basic graph patterns looked up under one left solution (SPARQL 1.1 Query, sections 18.3.1 and 18.5).
use Rattle.std.specs.Prelude.{◌≡◌, ℕ, List, [], ◌∷◌, ◌++◌, length, None, map, filter, replicate, take}
use Rattle.rdf_terms.specs.Quad.{QuadParts}
use Rattle.rdf_terms.specs.declared.quad.GraphName.{GraphName}
use Rattle.rdf_dataset.specs.State.{State}
use Rattle.sparql_trees.specs.declared.pattern.BasicGraphPattern.{BasicGraphPattern}
use Rattle.sparql_values.specs.Mapping.{Variables, Mapping, compatible, merge}
use Rattle.sparql_algebra.specs.Bags.{SameBag}
use Rattle.sparql_algebra.specs.Listing.{Listing, Lists}
use Rattle.sparql_algebra.specs.Solutions.{assignments, basic_solutions, merges}
use Rattle.sparql_solve.specs.declared.place.Places.{Places}
use Rattle.sparql_solve.specs.Matching.{places_of, matching}

-- the mapping with columns for the hidden variables, which have nothing yet
abbrev pub widened : ℕ → Mapping → Mapping
widened hidden m = m ++ replicate hidden None

-- what grows from the mapping in a graph, one triple pattern looked up after another
abbrev pub grown : List QuadParts → List Places → ℕ → Mapping → List Mapping
grown quads places hidden m = matching quads places (widened hidden m ∷ [])

-- and without the hidden columns
abbrev pub looked_up : List QuadParts → List Places → ℕ → Mapping → List Mapping
looked_up quads places hidden m = map (take (length m)) (grown quads places hidden m)

-- ---- laws

-- An assignment of all columns is a mapping of the visible variables and an assignment of the hidden ones. The look-ups give, merged with the
-- left solution, each one that the definition counts and whose mapping is compatible with it.
abbrev pub LookUpsGivePairs : Type 0
LookUpsGivePairs = (variables : Variables) (s : State) (d : Listing) → Lists s d → (g : GraphName) (b : BasicGraphPattern) (m : Mapping) →
    length m ≡ length variables →
    SameBag (grown (d.quads g) (map (places_of variables) b.triples) b.hidden m)
    (map (merge (widened b.hidden m)) (filter (λ w. compatible m (take (length m) w)) (assignments variables (d.quads g) b)))

-- Without the hidden columns these are the merges of the left solution with the pattern's solutions.
abbrev pub LookUpsGiveMerges : Type 0
LookUpsGiveMerges = (variables : Variables) (s : State) (d : Listing) → Lists s d → (g : GraphName) (b : BasicGraphPattern) (m : Mapping) →
    length m ≡ length variables →
    SameBag (looked_up (d.quads g) (map (places_of variables) b.triples) b.hidden m) (merges (basic_solutions variables (d.quads g) b) m)

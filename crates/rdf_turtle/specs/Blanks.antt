-- The blank nodes of quads, by their numbers.
use Rattle.std.specs.Prelude.{◌≡◌, ℕ, ◌<◌, ◌↔◌, List, IsTrue, Contains, Option, Ok}
use Rattle.std.specs.List.{flat_map, AllByRecursion}
use Rattle.rdf_terms.specs.Blanks.{blanks_of}
use Rattle.rdf_terms.specs.Quad.{QuadParts, has_right_kinds}
use Rattle.rdf_terms.specs.declared.quad.GraphName.TheVariants.{Default}
use Rattle.rdf_turtle.specs.declared.tree.Statement.{Statement}
use Rattle.rdf_turtle.specs.Meaning.{answer}

-- a triple whose terms are of right kinds
abbrev pub IsTriple : QuadParts → Type 0
IsTriple q = IsTrue (has_right_kinds q) × (q.graph ≡ Default)

-- The blank numbers of a document are just those below some number, and each of its quads is a triple in the default graph.
abbrev pub BlankNumbersAreBelow : Type 0
BlankNumbersAreBelow = (base : Option (List ℕ)) (statements : List Statement) (quads : List QuadParts) → answer base statements ≡ Ok quads →
    (limit : ℕ) × ((number : ℕ) → (number < limit) ↔ Contains (flat_map blanks_of quads) number) × AllByRecursion IsTriple quads

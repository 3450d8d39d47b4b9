-- Evaluating a basic graph pattern under one left solution, with its values put in (SPARQL 1.1 Query, sections 18.3.1 and 18.5: Join).
use Rattle.std.specs.Prelude.{◌≡◌, ℕ, zero, suc, Bool, true, false, ◌&&◌, cond, List, [], ◌∷◌, length, Option, Some, None, filter, is_some, count_by}
use Rattle.std.specs.List.{list_all}
use Rattle.rdf_terms.specs.Quad.{QuadParts}
use Rattle.rdf_terms.specs.declared.term.Term.{Term}
use Rattle.sparql_trees.specs.declared.pattern.TriplePattern.{TriplePattern}
use Rattle.sparql_values.specs.Mapping.{Variables, Mapping, same_value, same_mapping}
use Rattle.sparql_algebra.specs.Solutions.{instance_lies, occurs, same_bool, solves, terms_of, all_mappings, merges}

-- at one column: the value stays, or comes where the test says so
abbrev pub value_grows : Option Term → Option Term → Bool → Bool
value_grows (Some t) y b = same_value y (Some t)
value_grows None y b = same_bool (is_some y) b

-- the second mapping is the first with values in just the columns of the test besides
abbrev pub grows : (ℕ → Bool) → Mapping → Mapping → Bool
grows test [] [] = true
grows test [] (y ∷ w) = false
grows test (x ∷ a) [] = false
grows test (x ∷ a) (y ∷ w) = value_grows x y (test zero) && grows (λ c. test (suc c)) a w

-- The merges of a mapping of all columns with the compatible assignments of a basic graph pattern are the mappings that have grown from
-- it by the pattern's columns and under which every instance lies in the graph, each once.
abbrev pub MergesGrow : Type 0
MergesGrow = (variables : Variables) (quads : List QuadParts) (triples : List TriplePattern) (a w : Mapping) →
    count_by (same_mapping w) (merges (filter (solves variables quads triples) (all_mappings (length a) (terms_of quads))) a)
    ≡ cond (list_all (instance_lies variables quads w) triples && grows (occurs variables triples) a w) 1 0

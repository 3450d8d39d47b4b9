-- What solutions bind.
use Rattle.std.specs.Prelude.{ℕ, Bool, ◌||◌, IsTrue, IfSome, List, Option}
use Rattle.std.specs.List.{list_any, AllByRecursion}
use Rattle.std.specs.FinSet as set
use Rattle.rdf_terms.specs.Below.{IsTermBelow}
use Rattle.rdf_terms.specs.Quad.{QuadParts}
use Rattle.rdf_terms.specs.Term.{is_term}
use Rattle.rdf_terms.specs.declared.term.Term.{Term}
use Rattle.rdf_dataset.specs.State.{State}
use Rattle.sparql_values.specs.Mapping.{Mapping, same_term}

-- the term stands in the quad, as its subject, predicate or object
abbrev pub stands_in : Term → QuadParts → Bool
stands_in t q = same_term t q.subject || (same_term t q.predicate || same_term t q.object)

-- it stands in a quad of the state, or is the name of a graph
abbrev pub is_term_of : State → Term → Bool
is_term_of s t = list_any (stands_in t) (set.items s.quads) || set.contains s.names t

-- ---- of a value, where it is bound

abbrev pub IsValueOf : State → Option Term → Type 0
IsValueOf s value = IfSome value (λ t. IsTrue (is_term_of s t))

abbrev pub IsValue : Option Term → Type 0
IsValue value = IfSome value (λ t. IsTrue (is_term t))

abbrev pub IsValueBelow : ℕ → Option Term → Type 0
IsValueBelow next value = IfSome value (IsTermBelow next)

-- ---- of each value of each mapping

abbrev pub AllValues : (Option Term → Type 0) → List Mapping → Type 0
AllValues P ms = AllByRecursion (λ m. AllByRecursion P m) ms

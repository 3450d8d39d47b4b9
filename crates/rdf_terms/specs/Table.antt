-- A table of terms. What RDF says of terms has no numbers in it: an id is the place of a term in its table, and means nothing outside.
use Rattle.std.specs.Prelude.{◌≡◌, ℕ, Bool, List, [], ◌∷◌, ◌++◌, Some, slice_get, if◌then◌else◌}
use Rattle.std.specs.List.{list_any}
use Rattle.std.specs.Ordering.{eq_by_cmp}
use Rattle.rdf_terms.specs.Order.{term_cmp}
use Rattle.rdf_terms.specs.declared.term.Term.{Term}

-- the table holds the term under this id
abbrev pub IsIdOf : List Term → ℕ → Term → Type 0
IsIdOf table id t = slice_get table id ≡ Some t

abbrev pub is_held : List Term → Term → Bool
is_held table t = list_any (eq_by_cmp term_cmp t) table

-- no term has two ids
abbrev pub AreHeldOnce : List Term → Type 0
AreHeldOnce table = (i j : ℕ) (t : Term) → IsIdOf table i t → IsIdOf table j t → i ≡ j

-- the terms, which keep their ids, and this one behind them if it is new
abbrev pub with_term : List Term → Term → List Term
with_term table t = if is_held table t then table else table ++ t ∷ []

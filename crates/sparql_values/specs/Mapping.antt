-- Solution mappings (SPARQL 1.1 Query, sections 18.1.3 and 18.3).
use Rattle.std.specs.Prelude.{ℕ, Bool, true, false, ◌&&◌, List, [], ◌∷◌, length, Option, Some, None, map, replicate, position, zip, slice_index_or, slice_set}
use Rattle.std.specs.List.{list_all}
use Rattle.std.specs.Ordering.{eq_by_cmp}
use Rattle.rdf_terms.specs.Order.{term_cmp, text_cmp}
use Rattle.rdf_terms.specs.declared.term.Term.{Term}

-- The names of variables, without `?` or `$`.
abbrev pub Variables : Type 0
Variables = List (List ℕ)

-- A mapping over a list of variables: at each variable's place its term, or nothing.
abbrev pub Mapping : Type 0
Mapping = List (Option Term)

abbrev pub same_term : Term → Term → Bool
same_term s t = eq_by_cmp term_cmp s t

abbrev pub same_value : Option Term → Option Term → Bool
same_value (Some s) (Some t) = same_term s t
same_value (Some s) None = false
same_value None (Some t) = false
same_value None None = true

-- whether two mappings have the same terms at the same places
abbrev pub same_mapping : Mapping → Mapping → Bool
same_mapping [] [] = true
same_mapping [] (y ∷ b) = false
same_mapping (x ∷ a) [] = false
same_mapping (x ∷ a) (y ∷ b) = same_value x y && same_mapping a b

-- ---- variables

-- the place of a variable, where it is one of these
abbrev pub column : Variables → List ℕ → Option ℕ
column variables name = position (λ v. eq_by_cmp text_cmp name v) variables

-- what a mapping has at a place; past its end it has nothing
abbrev pub value_at : Mapping → ℕ → Option Term
value_at m place = slice_index_or m place None

abbrev pub value_in : Mapping → Option ℕ → Option Term
value_in m (Some place) = value_at m place
value_in m None = None

-- what a mapping has at a variable
abbrev pub value_of : Variables → Mapping → List ℕ → Option Term
value_of variables m name = value_in m (column variables name)

-- the mapping that binds nothing
abbrev pub empty_mapping : Variables → Mapping
empty_mapping variables = replicate (length variables) None

abbrev pub set_in : Mapping → Option ℕ → Term → Mapping
set_in m (Some place) t = slice_set m place (Some t)
set_in m None t = m

-- the mapping that binds one variable alone; nothing where it is none of these
abbrev pub single : Variables → List ℕ → Term → Mapping
single variables name t = set_in (empty_mapping variables) (column variables name) t

-- ---- compatible mappings (section 18.3)

-- at one variable: not both have it, or both the same
abbrev pub agrees : Option Term × Option Term → Bool
agrees (Some s, Some t) = same_term s t
agrees (Some s, None) = true
agrees (None, y) = true

abbrev pub first_of : Option Term × Option Term → Option Term
first_of (Some s, y) = Some s
first_of (None, y) = y

-- two mappings agree on each variable that both have
abbrev pub compatible : Mapping → Mapping → Bool
compatible a b = list_all agrees (zip a b)

-- the pairs of both
abbrev pub merge : Mapping → Mapping → Mapping
merge a b = map first_of (zip a b)

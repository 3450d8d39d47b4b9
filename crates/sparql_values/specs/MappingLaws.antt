-- Solution mappings in the standard's words (SPARQL 1.1 Query, sections 18.1.3 and 18.3): what each has at the places of its variables.
use Rattle.std.specs.Prelude.{◌≡◌, ◌≢◌, ◌⊎◌, ◌↔◌, ◌||◌, ℕ, true, List, length, Some, None, is_some}
use Rattle.rdf_terms.specs.declared.term.Term.{Term}
use Rattle.sparql_values.specs.Mapping.{Variables, Mapping, column, compatible, empty_mapping, merge, same_mapping, single, value_at}

-- the mapping has this term at the place
abbrev pub Has : Mapping → ℕ → Term → Type 0
Has m place t = value_at m place ≡ Some t

-- what `same_mapping` tells is that two mappings are one
abbrev pub SameIsOne : Type 0
SameIsOne = (a b : Mapping) → (same_mapping a b ≡ true) ↔ (a ≡ b)

-- two mappings are compatible where they have the same term at each place at which both have one
pub record CompatibleLaws : Type 0 where
  pub agree : (a b : Mapping) → (compatible a b ≡ true) ↔ ((place : ℕ) (s t : Term) → Has a place s → Has b place t → s ≡ t)
  pub symmetric : (a b : Mapping) → compatible a b ≡ compatible b a
  -- the mapping that binds nothing is compatible with each
  pub empty : (variables : Variables) (m : Mapping) → compatible (empty_mapping variables) m ≡ true

-- the merge of two compatible mappings over the same variables is their union
pub record MergeLaws : Type 0 where
  pub union : (a b : Mapping) (place : ℕ) (t : Term) → length a ≡ length b → compatible a b ≡ true → Has (merge a b) place t ↔ (Has a place t ⊎ Has b place t)
  -- it has a term where one of them has
  pub domain : (a b : Mapping) (place : ℕ) → length a ≡ length b →
      is_some (value_at (merge a b) place) ≡ (is_some (value_at a place) || is_some (value_at b place))
  pub commutes : (a b : Mapping) → compatible a b ≡ true → merge a b ≡ merge b a
  pub associates : (a b c : Mapping) → merge (merge a b) c ≡ merge a (merge b c)
  -- the mapping that binds nothing adds nothing
  pub empty : (variables : Variables) (m : Mapping) → length m ≡ length variables → merge (empty_mapping variables) m ≡ m

-- the mapping of one variable has the term there, and nothing anywhere else
abbrev pub SingleBinds : Type 0
SingleBinds = (variables : Variables) (name : List ℕ) (t : Term) (place : ℕ) → column variables name ≡ Some place →
    Has (single variables name t) place t × ((other : ℕ) → other ≢ place → value_at (single variables name t) other ≡ None)

-- The visible variables, and all that a pattern names, in the subject's own words.
use Rattle.std.specs.Prelude.{◌≡◌, ℕ, List, ◌↔◌, Contains}
use Rattle.std.specs.List.Sorted.{IsStrictlySortedBy}
use Rattle.rdf_terms.specs.Order.{text_cmp}
use Rattle.sparql_trees.specs.Visible.{Names, all_names_in, named, names_in, visible}
use Rattle.sparql_trees.specs.declared.pattern.Pattern.{Pattern}

-- each name once, in the order of code points, and just these
pub record AreNames (stand : Names) (names : Names) : Type 0 where
  pub rises : IsStrictlySortedBy text_cmp names
  pub stands : (name : List ℕ) → Contains names name ↔ Contains stand name

-- just those that stand in the pattern outside MINUS
abbrev pub AreVisible : Pattern → Names → Type 0
AreVisible pattern names = AreNames (names_in pattern) names

abbrev pub VisibleAreSorted : Type 0
VisibleAreSorted = (pattern : Pattern) → AreVisible pattern (visible pattern)

-- there is one such list
abbrev pub OneVisible : Type 0
OneVisible = (pattern : Pattern) (a b : Names) → AreVisible pattern a → AreVisible pattern b → a ≡ b

-- just those that stand anywhere in the pattern
abbrev pub NamedAreSorted : Type 0
NamedAreSorted = (pattern : Pattern) → AreNames (all_names_in pattern) (named pattern)

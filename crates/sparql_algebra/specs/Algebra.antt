-- The algebra's patterns, and the translation of a group into them (SPARQL 1.1 Query, sections 18.2.2 and 18.2.3).
use Rattle.std.specs.Prelude.{List, [], ◌∷◌, map}
use Rattle.std.specs.List.{fold}
use Rattle.sparql_trees.specs.declared.expression.Expression.{Expression}
use Rattle.sparql_trees.specs.declared.pattern.BasicGraphPattern.{BasicGraphPattern}
use Rattle.sparql_trees.specs.declared.pattern.VarOrIri.{VarOrIri}
use Rattle.sparql_trees.specs.declared.pattern.Member.{Member}
use Rattle.sparql_trees.specs.declared.pattern.Member.TheOpen.{Member-F, Pattern-F}
use Rattle.sparql_trees.specs.declared.pattern.Member.TheFolds.{fold-Member, fold-Pattern}
use Rattle.sparql_trees.specs.declared.pattern.Pattern.{Pattern}

-- BGP, Join, LeftJoin, Filter, Union, Graph. A condition is a list of expressions, which all are to be true; the empty one always is.
pub data Algebra : Type 0 where
  basic : BasicGraphPattern → Algebra
  join : Algebra → Algebra → Algebra
  left_join : List Expression → Algebra → Algebra → Algebra
  filter : List Expression → Algebra → Algebra
  union : Algebra → Algebra → Algebra
  minus : Algebra → Algebra → Algebra
  graph : VarOrIri → Algebra → Algebra

-- the empty pattern
abbrev pub empty_pattern : Algebra
empty_pattern = basic (record { triples = []; hidden = 0 })

-- What an element of a group is to the elements before it: it is joined on, optional under a condition, or takes solutions away.
pub data Element : Type 0 where
  joined : Algebra → Element
  optional : List Expression → Algebra → Element
  removed : Algebra → Element

-- the pattern so far, and an element after it
abbrev pub extended : Algebra → Element → Algebra
extended G (joined A) = join G A
extended G (optional F A) = left_join F G A
extended G (removed A) = minus G A

-- the elements from left to right, beginning with the empty pattern
abbrev pub group_of : List Element → Algebra
group_of elements = fold extended empty_pattern elements

-- A group: its own FILTERs, and the pattern of its other elements.
pub record Translated : Type 0 where
  pub filters : List Expression
  pub pattern : Algebra

-- the pattern under the group's own FILTERs, where it has some
abbrev pub filtered : List Expression → Algebra → Algebra
filtered [] G = G
filtered (F ∷ Fs) G = filter (F ∷ Fs) G

abbrev pub whole : Translated → Algebra
whole g = filtered g.filters g.pattern

-- groups with UNION between them, from left to right; one alone is that group, none the empty pattern
abbrev pub union_of : List Algebra → Algebra
union_of [] = empty_pattern
union_of (A ∷ As) = fold union A As

abbrev pub group_in : Pattern-F Element Translated → Translated
group_in group = record { filters = group.filters; pattern = group_of group.members }

-- OPTIONAL's condition is its group's own FILTERs, which see what stands on the left too; MINUS's stay in its group
abbrev pub element_in : Member-F Element Translated → Element
element_in (Member-F.Basic triples) = joined (basic triples)
element_in (Member-F.Union groups) = joined (union_of (map whole groups))
element_in (Member-F.Optional group) = optional group.filters group.pattern
element_in (Member-F.Graph name group) = joined (graph name (whole group))
element_in (Member-F.Minus group) = removed (whole group)

-- the translation of a group, of its FILTERs apart from the rest, and of an element of it
abbrev pub parts : Pattern → Translated
parts = fold-Pattern Element Translated element_in group_in

abbrev pub translation : Pattern → Algebra
translation P = whole (parts P)

abbrev pub element : Member → Element
element = fold-Member Element Translated element_in group_in

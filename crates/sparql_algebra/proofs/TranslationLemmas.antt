-- The translation of a group, and of an element of each kind.
use Rattle.std.proofs.Common.{◌≡◌, List, [], ◌∷◌, map, refl, sym, ap, ◌∙◌}
use Rattle.sparql_trees.specs.declared.pattern.BasicGraphPattern.{BasicGraphPattern}
use Rattle.sparql_trees.specs.declared.pattern.VarOrIri.{VarOrIri}
use Rattle.sparql_trees.specs.declared.pattern.Member.TheVariants as m
use Rattle.sparql_trees.specs.declared.pattern.Member.TheOpen.{Member-F}
use Rattle.sparql_trees.specs.declared.pattern.Member.TheFolds.{fold-roll-Member, fold-roll-Pattern}
use Rattle.sparql_trees.specs.declared.pattern.Pattern.{Pattern}
use Rattle.sparql_algebra.specs.Algebra.{Algebra, basic, graph, Element, joined, optional, removed, Translated, filtered, whole, group_of, union_of, group_in, element_in, parts, translation, element}

-- a group's own FILTERs, and the rest of it
pub parts-is : (group : Pattern) → parts group ≡ record { filters = group.filters; pattern = group_of (map element group.members) }
parts-is group = fold-roll-Pattern Element Translated element_in group_in (record { members = group.members; filters = group.filters })

pub translation-is : (group : Pattern) → translation group ≡ filtered group.filters (group_of (map element group.members))
translation-is group = ap whole (parts-is group)

pub element-Basic : (b : BasicGraphPattern) → element (m.Basic b) ≡ joined (basic b)
element-Basic b = ap element (sym (m.rolls-Basic b)) ∙ fold-roll-Member Element Translated element_in group_in (Member-F.Basic b)

each_whole : (groups : List Pattern) → map whole (map parts groups) ≡ map translation groups
each_whole [] = refl
each_whole (group ∷ groups) = ap (λ (As : List Algebra). translation group ∷ As) (each_whole groups)

pub element-Union : (groups : List Pattern) → element (m.Union groups) ≡ joined (union_of (map translation groups))
element-Union groups =
    ap element (sym (m.rolls-Union groups)) ∙ fold-roll-Member Element Translated element_in group_in (Member-F.Union groups)
    ∙ ap (λ (As : List Algebra). joined (union_of As)) (each_whole groups)

-- the filters of OPTIONAL's own group are its condition
pub element-Optional : (group : Pattern) → element (m.Optional group) ≡ optional group.filters (group_of (map element group.members))
element-Optional group =
    ap element (sym (m.rolls-Optional group)) ∙ fold-roll-Member Element Translated element_in group_in (Member-F.Optional group)
    ∙ ap (λ (t : Translated). optional t.filters t.pattern) (parts-is group)

pub element-Graph : (name : VarOrIri) (group : Pattern) → element (m.Graph name group) ≡ joined (graph name (translation group))
element-Graph name group = ap element (sym (m.rolls-Graph name group)) ∙ fold-roll-Member Element Translated element_in group_in (Member-F.Graph name group)

-- those of MINUS's stay in it
pub element-Minus : (group : Pattern) → element (m.Minus group) ≡ removed (translation group)
element-Minus group = ap element (sym (m.rolls-Minus group)) ∙ fold-roll-Member Element Translated element_in group_in (Member-F.Minus group)

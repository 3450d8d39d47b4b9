-- What holds of a group and of what is written in it.
use Rattle.std.specs.Prelude.{◌≡◌, Bool, true, false, List, [], ◌∷◌, ◌++◌}
use Rattle.sparql_expressions.specs.declared.tree.Expression.{Expression}
use Rattle.sparql_grammar.specs.declared.tree.Element.{Element}
use Rattle.sparql_grammar.specs.declared.tree.Element.TheVariants as e
use Rattle.sparql_grammar.specs.declared.tree.Member.{Member}
use Rattle.sparql_grammar.specs.declared.tree.Triples.{Triples}
use Rattle.sparql_grammar.specs.GroupReading.{group_with, together}

-- whether it is more than triples and FILTERs
abbrev pub has_pattern : List Element → Bool
has_pattern [] = false
has_pattern (e.Block triples ∷ elements) = has_pattern elements
has_pattern (e.Filter expression ∷ elements) = has_pattern elements
has_pattern (e.Pattern member ∷ elements) = true

-- the triples that stand in it outside patterns
abbrev pub triples_of : List Element → List Triples
triples_of [] = []
triples_of (e.Block triples ∷ elements) = triples ++ triples_of elements
triples_of (e.Filter expression ∷ elements) = triples_of elements
triples_of (e.Pattern member ∷ elements) = triples_of elements

-- where nothing but FILTERs stands between triples they stand together
abbrev pub TriplesStandTogether : Type 0
TriplesStandTogether =
    (elements : List Element) → has_pattern elements ≡ false → (group_with elements).members ≡ together (triples_of elements)

-- a pattern stands between what is before it and what is behind it: no triples join across it
abbrev pub PatternsDivide : Type 0
PatternsDivide =
    (before behind : List Element) (member : Member)
    → (group_with (before ++ e.Pattern member ∷ behind)).members ≡ (group_with before).members ++ member ∷ (group_with behind).members

-- a FILTER asks of the whole group, in its turn, and its members are those without it
abbrev pub FiltersStandApart : Type 0
FiltersStandApart =
    (before behind : List Element) (expression : Expression)
    → ((group_with (before ++ e.Filter expression ∷ behind)).members ≡ (group_with (before ++ behind)).members)
    × ((group_with (before ++ e.Filter expression ∷ behind)).filters ≡ (group_with before).filters ++ expression ∷ (group_with behind).filters)

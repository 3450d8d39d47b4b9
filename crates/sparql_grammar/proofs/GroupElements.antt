-- What is written in a group, and its members and filters.
use Rattle.std.proofs.Common.{◌≡◌, false, List, [], ◌∷◌, ◌++◌, refl, sym, ◌∙◌, ap, append_assoc}
use Rattle.std.proofs.lemmas.List.{append-nil}
use Rattle.sparql_expressions.specs.declared.tree.Expression.{Expression}
use Rattle.sparql_grammar.specs.declared.tree.Element.{Element}
use Rattle.sparql_grammar.specs.declared.tree.Element.TheVariants as e
use Rattle.sparql_grammar.specs.declared.tree.Member.{Member}
use Rattle.sparql_grammar.specs.declared.tree.Triples.{Triples}
use Rattle.sparql_grammar.specs.GroupLaws.{has_pattern, triples_of, TriplesStandTogether, PatternsDivide, FiltersStandApart}
use Rattle.sparql_grammar.specs.GroupReading.{filters_of, members_behind, together}

together_behind : (block : List Triples) (elements : List Element) → has_pattern elements ≡ false → members_behind block elements ≡ together (block ++ triples_of elements)
unfolding members_behind
together_behind block [] h = ap together (sym (append-nil block))
together_behind block (e.Block triples ∷ elements) h = together_behind (block ++ triples) elements h ∙ ap together (append_assoc block triples (triples_of elements))
together_behind block (e.Filter expression ∷ elements) h = together_behind block elements h
together_behind block (e.Pattern member ∷ elements) h = absurd (cc)

pub triples_together : TriplesStandTogether
triples_together elements h = together_behind [] elements h

divided_behind : (block : List Triples) (before behind : List Element) (member : Member)
    → members_behind block (before ++ e.Pattern member ∷ behind) ≡ members_behind block before ++ member ∷ members_behind [] behind
unfolding members_behind
divided_behind block [] behind member = refl
divided_behind block (e.Block triples ∷ before) behind member = divided_behind (block ++ triples) before behind member
divided_behind block (e.Filter expression ∷ before) behind member = divided_behind block before behind member
divided_behind block (e.Pattern first ∷ before) behind member =
    ap (λ xs. together block ++ first ∷ xs) (divided_behind [] before behind member)
    ∙ sym (append_assoc (together block) (first ∷ members_behind [] before) (member ∷ members_behind [] behind))

pub patterns_divide : PatternsDivide
patterns_divide before behind member = divided_behind [] before behind member

filter_passed : (block : List Triples) (before behind : List Element) (expression : Expression)
    → members_behind block (before ++ e.Filter expression ∷ behind) ≡ members_behind block (before ++ behind)
unfolding members_behind
filter_passed block [] behind expression = refl
filter_passed block (e.Block triples ∷ before) behind expression = filter_passed (block ++ triples) before behind expression
filter_passed block (e.Filter first ∷ before) behind expression = filter_passed block before behind expression
filter_passed block (e.Pattern member ∷ before) behind expression = ap (λ xs. together block ++ member ∷ xs) (filter_passed [] before behind expression)

filter_found : (before behind : List Element) (expression : Expression) → filters_of (before ++ e.Filter expression ∷ behind) ≡ filters_of before ++ expression ∷ filters_of behind
unfolding filters_of
filter_found [] behind expression = refl
filter_found (e.Block triples ∷ before) behind expression = filter_found before behind expression
filter_found (e.Filter first ∷ before) behind expression = ap (λ xs. first ∷ xs) (filter_found before behind expression)
filter_found (e.Pattern member ∷ before) behind expression = filter_found before behind expression

pub filters_apart : FiltersStandApart
filters_apart before behind expression = (filter_passed [] before behind expression, filter_found before behind expression)

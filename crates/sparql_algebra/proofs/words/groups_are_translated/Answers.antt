use Rattle.std.proofs.Common.{[], ◌∷◌, sym, ap, ◌∙◌}
use Rattle.sparql_trees.specs.declared.pattern.Member.TheVariants as m
use Rattle.sparql_algebra.specs.Algebra.{Algebra, basic, graph, joined, optional, removed, union_of, translation}
use Rattle.sparql_algebra.specs.Words.{members}
use Rattle.sparql_algebra.proofs.TranslationLemmas.{translation-is, element-Basic, element-Union, element-Optional, element-Graph, element-Minus}
use Rattle.sparql_algebra.proofs.WordLemmas.{ending-as, filters-is}
use Rattle.sparql_algebra.proofs.words.groups_are_translated.Goals as goal

pub returns-clause-begins : goal.returns-clause-begins
returns-clause-begins c = translation-is (members [])

pub returns-clause-triples : goal.returns-clause-triples
returns-clause-triples c ms b = ending-as ms (m.Basic b) (joined (basic b)) (element-Basic b)

pub returns-clause-group : goal.returns-clause-group
returns-clause-group c ms G = ending-as ms (m.Union (G ∷ [])) (joined (translation G)) (element-Union (G ∷ []))

pub returns-clause-union : goal.returns-clause-union
returns-clause-union c ms G H =
    ending-as ms (m.Union (G ∷ H ∷ [])) (joined (union_of (translation G ∷ translation H ∷ []))) (element-Union (G ∷ H ∷ []))

pub returns-clause-grows : goal.returns-clause-grows
returns-clause-grows c ms F G H =
    ending-as ms (m.Union (F ∷ G ∷ H ∷ [])) (joined (union_of (translation F ∷ translation G ∷ translation H ∷ []))) (element-Union (F ∷ G ∷ H ∷ []))

pub returns-clause-optional : goal.returns-clause-optional
returns-clause-optional c ms os F =
    ending-as ms (m.Optional (record { members = os; filters = F })) (optional F (translation (members os)))
    (element-Optional (record { members = os; filters = F }) ∙ ap (λ (A : Algebra). optional F A) (sym (translation-is (members os))))

pub returns-clause-named : goal.returns-clause-named
returns-clause-named c ms name G = ending-as ms (m.Graph name G) (joined (graph name (translation G))) (element-Graph name G)

pub returns-clause-minus : goal.returns-clause-minus
returns-clause-minus c ms G = ending-as ms (m.Minus G) (removed (translation G)) (element-Minus G)

pub returns-clause-filters : goal.returns-clause-filters
returns-clause-filters c ms F Fs = filters-is ms (F ∷ Fs)

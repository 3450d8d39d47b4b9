use Rattle.std.proofs.Common.{[], ◌∷◌, refl, sym, ap, ◌∙◌}
use Rattle.rdf_terms.specs.Vocabulary.{rdf_first, rdf_rest}
use Rattle.rdf_grammar.specs.Steps.{◌>>=◌, ◌>>◌}
use Rattle.rdf_turtle.specs.declared.tree.Verb.TheVariants as v
use Rattle.rdf_turtle.specs.Abbreviations.{AIsType, ObjectIsSaid, ListHas}
use Rattle.rdf_turtle.specs.Meaning.{Meaning, Says, object, verb, meaning}
use Rattle.rdf_turtle.specs.ParserState.{fresh, says}
use Rattle.rdf_turtle.proofs.AbbreviationLemmas.{meaning-Collection, meaning-Blank, property-is}
use Rattle.rdf_turtle.proofs.laws.abbreviations_stand_for_triples.Goals as goal

object_is_said : ObjectIsSaid
unfolding object
object_is_said subject predicate x s = refl

a_is_type : AIsType
unfolding verb
a_is_type subject x s = ap (λ (f : Says). f subject s) (property-is v.Type (x ∷ []))

-- both sides with the meanings of the two lists put in
list_has : ListHas
list_has x y ys cell s =
    ap (λ (z : Meaning). z.inside cell s) (meaning-Collection (x ∷ y ∷ ys))
    ∙ sym (ap (λ (z : Meaning). (object cell rdf_first (meaning x) >> (fresh >>= (λ next. says cell rdf_rest next >> z.inside next))) s)
    (meaning-Collection (y ∷ ys)))

pub returns-clause-object : goal.returns-clause-object
returns-clause-object c = object_is_said

pub returns-clause-a : goal.returns-clause-a
returns-clause-a c = a_is_type

pub returns-clause-comma : goal.returns-clause-comma
returns-clause-comma c subject w x y ys s = ap (λ (f : Says). f subject s) (property-is w (x ∷ y ∷ ys))

pub returns-clause-semicolon : goal.returns-clause-semicolon
returns-clause-semicolon c subject p ps s = refl

pub returns-clause-bracket : goal.returns-clause-bracket
returns-clause-bracket c ps s = ap (λ (x : Meaning). x.term s) (meaning-Blank ps)

pub returns-clause-inside : goal.returns-clause-inside
returns-clause-inside c ps b s = ap (λ (x : Meaning). x.inside b s) (meaning-Blank ps)

pub returns-clause-empty : goal.returns-clause-empty
returns-clause-empty c s = ap (λ (x : Meaning). x.term s) (meaning-Collection [])

pub returns-clause-list : goal.returns-clause-list
returns-clause-list c x xs s = ap (λ (y : Meaning). y.term s) (meaning-Collection (x ∷ xs))

pub returns-clause-last : goal.returns-clause-last
returns-clause-last c x cell s = ap (λ (y : Meaning). y.inside cell s) (meaning-Collection (x ∷ []))

pub returns-clause-cells : goal.returns-clause-cells
returns-clause-cells c = list_has

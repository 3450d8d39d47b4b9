-- What the abbreviations of a document stand for (Turtle 1.1, sections 2.2 to 2.4, 2.7 and 2.8).
use Rattle.std.specs.Prelude.{◌≡◌, ℕ, List, [], ◌∷◌, map}
use Rattle.rdf_terms.specs.Vocabulary.{rdf_type, rdf_first, rdf_rest, rdf_nil}
use Rattle.rdf_terms.specs.declared.term.Term.{Term}
use Rattle.rdf_terms.specs.declared.term.Term.TheVariants as t
use Rattle.rdf_grammar.specs.Steps.{◌>>=◌, ◌>>◌, pure}
use Rattle.rdf_turtle.specs.declared.tree.Verb.{Verb}
use Rattle.rdf_turtle.specs.declared.tree.Verb.TheVariants as v
use Rattle.rdf_turtle.specs.declared.tree.Node.{Node}
use Rattle.rdf_turtle.specs.declared.tree.Node.TheVariants as n
use Rattle.rdf_turtle.specs.declared.tree.Property.{Property}
use Rattle.rdf_turtle.specs.Meaning.{Meaning, meaning, object, objects, property, properties, verb}
use Rattle.rdf_turtle.specs.ParserState.{ParserState, Does, fresh, says}

-- the two do the same in every state
abbrev pub Same : {A : Type 0} → Does A → Does A → Type 0
Same {A} f g = (s : ParserState) → f s ≡ g s

-- what some objects have of a subject under a verb
abbrev pub has : Term → Verb → List Node → Does (Unit {0})
has subject w xs = property (record { verb = w; objects = xs }) subject

-- what a subject has inside
abbrev pub inside : Node → Term → Does (Unit {0})
inside node subject = (meaning node).inside subject

-- an object's own triple comes before those inside the object
abbrev pub ObjectIsSaid : Type 0
ObjectIsSaid = (subject : Term) (predicate : List ℕ) (x : Meaning) →
    Same (object subject predicate x) (x.term >>= (λ o. says subject predicate o >> x.inside o))

-- `a` is rdf:type
abbrev pub AIsType : Type 0
AIsType = (subject : Term) (x : Node) → Same (has subject v.Type (x ∷ [])) (object subject rdf_type (meaning x) >> pure tt)

-- `,`: the subject and the verb have one object, and then the others
abbrev pub CommaRepeats : Type 0
CommaRepeats = (subject : Term) (w : Verb) (x y : Node) (ys : List Node) →
    Same (has subject w (x ∷ y ∷ ys)) (verb w >>= (λ p. object subject p (meaning x) >> objects subject p (map meaning (y ∷ ys))))

-- `;`: the subject has one verb with its objects, and then the others
abbrev pub SemicolonRepeats : Type 0
SemicolonRepeats = (subject : Term) (p : Property) (ps : List Property) →
    Same (properties subject (p ∷ ps)) (property p subject >> properties subject ps)

-- `[ ]` is a blank node of its own, which has what stands inside
abbrev pub BracketIsFresh : Type 0
BracketIsFresh = (ps : List Property) → Same (meaning (n.Blank ps)).term fresh

abbrev pub BracketHas : Type 0
BracketHas = (ps : List Property) (b : Term) → Same (inside (n.Blank ps) b) (properties b ps)

-- `( )` is rdf:nil, and says nothing
abbrev pub EmptyIsNil : Type 0
EmptyIsNil = Same (meaning (n.Collection [])).term (pure (t.Iri rdf_nil))

-- a list is a blank node
abbrev pub ListIsFresh : Type 0
ListIsFresh = (x : Node) (xs : List Node) → Same (meaning (n.Collection (x ∷ xs))).term fresh

-- that of one element has it as its rdf:first, and rdf:nil as its rdf:rest
abbrev pub LastHas : Type 0
LastHas = (x : Node) (cell : Term) →
    Same (inside (n.Collection (x ∷ [])) cell) (object cell rdf_first (meaning x) >> says cell rdf_rest (t.Iri rdf_nil))

-- and the rdf:rest of any other is the list of the elements behind the first
abbrev pub ListHas : Type 0
ListHas = (x y : Node) (ys : List Node) (cell : Term) →
    Same (inside (n.Collection (x ∷ y ∷ ys)) cell)
    (object cell rdf_first (meaning x) >> (fresh >>= (λ next. says cell rdf_rest next >> inside (n.Collection (y ∷ ys)) next)))

-- Where triples stand, whole and however deep nodes nest (Turtle 1.1, sections 2.2, 2.3, 2.7 and 2.8): each object under its verb, each verb under
-- its subject, what stands inside `[ ]` under its blank node, and the elements of `( )` under its cells, in order.
use Rattle.std.specs.Prelude.{◌≡◌, ℕ, List, [], ◌∷◌, ◌++◌, Some, Contains}
use Rattle.std.specs.List.{AllByRecursion}
use Rattle.rdf_grammar.specs.Prologue.{iri_of}
use Rattle.rdf_terms.specs.Quad.{QuadParts}
use Rattle.rdf_terms.specs.Vocabulary.{rdf_type, rdf_first, rdf_rest, rdf_nil}
use Rattle.rdf_terms.specs.declared.term.Term.{Term}
use Rattle.rdf_terms.specs.declared.term.Term.TheVariants as t
use Rattle.rdf_turtle.specs.declared.tree.Node.{Node}
use Rattle.rdf_turtle.specs.declared.tree.Node.TheVariants as n
use Rattle.rdf_turtle.specs.declared.tree.Property.{Property}
use Rattle.rdf_turtle.specs.declared.tree.Statement.TheVariants as s
use Rattle.rdf_turtle.specs.declared.tree.Verb.{Verb}
use Rattle.rdf_turtle.specs.declared.tree.Verb.TheVariants as v
use Rattle.rdf_turtle.specs.Meaning.{meaning, properties, statement}
use Rattle.rdf_turtle.specs.ParserState.{ParserState, triple}

-- from one state to the other triples were said, and nothing was declared
pub record Goes (old new : ParserState) : Type 0 where
  pub prologue : new.prologue ≡ old.prologue
  pub more : List QuadParts
  pub quads : new.quads ≡ old.quads ++ more

abbrev pub IsSaid : ParserState → Term → List ℕ → Term → Type 0
IsSaid state subject predicate object = Contains state.quads (triple subject predicate object)

-- Between the two states the node stands for this term, and what is inside it is said.
abbrev pub StandsFor : ParserState → ParserState → Node → Term → Type 0
StandsFor old new node term =
    (before named within after : ParserState)
    × Goes old before
    × ((meaning node).term before ≡ Some (term, named))
    × Goes named within
    × ((meaning node).inside term within ≡ Some (tt, after))
    × Goes after new

-- ---- verbs and objects

-- the subject has what the node stands for
abbrev pub HasObject : ParserState → ParserState → Term → List ℕ → Node → Type 0
HasObject old new subject predicate node = (object : Term) × StandsFor old new node object × IsSaid new subject predicate object

abbrev pub IsVerb : ParserState → Verb → List ℕ → Type 0
IsVerb state (v.Name name) predicate = iri_of name state.prologue ≡ Some predicate
IsVerb state v.Type predicate = predicate ≡ rdf_type

-- the subject has each object of the verb
abbrev pub HasProperty : ParserState → ParserState → Term → Property → Type 0
HasProperty old new subject p = (predicate : List ℕ) × IsVerb old p.verb predicate × AllByRecursion (HasObject old new subject predicate) p.objects

-- and so of all verbs
abbrev pub HasProperties : ParserState → ParserState → Term → List Property → Type 0
HasProperties old new subject ps = AllByRecursion (HasProperty old new subject) ps

-- what stands behind a subject, between `;` and `,`, is said of it
abbrev pub PropertiesStand : Type 0
PropertiesStand = (subject : Term) (ps : List Property) (old new : ParserState) →
    properties subject ps old ≡ Some (tt, new) → HasProperties old new subject ps

-- in a statement of the term that its subject stands for
abbrev pub StatementsStand : Type 0
StatementsStand = (node : Node) (ps : List Property) (old new : ParserState) → statement (s.Triples node ps) old ≡ Some (tt, new)
    → (subject : Term) × StandsFor old new node subject × HasProperties old new subject ps

-- ---- brackets (section 2.7)

-- a blank node with the next number, of which each object of each verb inside is said
abbrev pub BracketsStand : Type 0
BracketsStand = (ps : List Property) (node : Term) (old named within new : ParserState) →
    (meaning (n.Blank ps)).term old ≡ Some (node, named) → (meaning (n.Blank ps)).inside node within ≡ Some (tt, new)
    → (node ≡ t.Blank old.numbering.next) × HasProperties within new node ps

-- ---- lists (section 2.8)

-- rdf:nil, or a blank node: its rdf:first is what the first element stands for, its rdf:rest the list of the others
abbrev pub IsList : ParserState → ParserState → Term → List Node → Type 0
IsList old new cell [] = cell ≡ t.Iri rdf_nil
IsList old new cell (x ∷ xs) =
    ((number : ℕ) × (cell ≡ t.Blank number))
    × HasObject old new cell rdf_first x
    × ((rest : Term) × IsSaid new cell rdf_rest rest × IsList old new rest xs)

abbrev pub ListsStand : Type 0
ListsStand = (xs : List Node) (cell : Term) (old named within new : ParserState) →
    (meaning (n.Collection xs)).term old ≡ Some (cell, named) → (meaning (n.Collection xs)).inside cell within ≡ Some (tt, new)
    → IsList within new cell xs

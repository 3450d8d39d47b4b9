-- The triples of a document: the tree is gone through as it stands in the text (Turtle 1.1, section 7.2 and 7.3).
use Rattle.std.specs.Prelude.{ℕ, Bool, true, false, List, [], ◌∷◌, Option, map, Result, Err, if◌then◌else◌, ok_or}
use Rattle.std.specs.Option.{option_map}
use Rattle.rdf_terms.specs.Literal.{LiteralParts}
use Rattle.rdf_terms.specs.Quad.{QuadParts}
use Rattle.rdf_terms.specs.Vocabulary.{rdf_type, rdf_first, rdf_rest, rdf_nil}
use Rattle.rdf_terms.specs.declared.term.Term.{Term}
use Rattle.rdf_terms.specs.declared.term.Term.TheVariants as t
use Rattle.rdf_grammar.specs.declared.tree.Name.{Name}
use Rattle.rdf_turtle.specs.declared.tree.Verb.{Verb}
use Rattle.rdf_turtle.specs.declared.tree.Verb.TheVariants as v
use Rattle.rdf_grammar.specs.declared.tree.Literal.{Literal}
use Rattle.rdf_turtle.specs.declared.tree.Node.{Node}
use Rattle.rdf_turtle.specs.declared.tree.Node.TheOpen.{Node-F, Property-F}
use Rattle.rdf_turtle.specs.declared.tree.Node.TheFolds.{fold-Node, fold-Property}
use Rattle.rdf_turtle.specs.declared.tree.Property.{Property}
use Rattle.rdf_turtle.specs.declared.tree.Statement.{Statement}
use Rattle.rdf_turtle.specs.declared.tree.Statement.TheVariants as s
use Rattle.rdf_turtle.specs.declared.fault.TurtleFaultKind.{TurtleFaultKind}
use Rattle.rdf_turtle.specs.declared.fault.TurtleFaultKind.TheVariants.{UnknownPrefix, Relative}
use Rattle.rdf_turtle.specs.Known.{declares_first}
use Rattle.rdf_grammar.specs.Keys.{key_of}
use Rattle.rdf_grammar.specs.Literals.{literal_of}
use Rattle.rdf_grammar.specs.Prologue.{iri_of, resolved, declares, moves_base}
use Rattle.rdf_grammar.specs.Steps.{◌>>=◌, ◌>>◌, ◌<$>◌, pure, none, each}
use Rattle.rdf_turtle.specs.ParserState.{Does, start, told, declared, fresh, labelled, says}

-- ---- IRIs and literals

unfoldable pub iri : Name → Does (List ℕ)
iri name = told (iri_of name)

-- `a` is rdf:type (Turtle 1.1, section 2.4)
unfoldable pub verb : Verb → Does (List ℕ)
verb (v.Name name) = iri name
verb v.Type = pure rdf_type

unfoldable pub literal : Literal → Does LiteralParts
literal w = told (literal_of w)

-- ---- nodes

-- A node stands for a term, and then says the triples inside it. Some may be a statement alone.
pub record Meaning : Type 0 where
  pub term : Does Term
  pub inside : Term → Does (Unit {0})
  pub alone : Bool

abbrev pub only : Does Term → Meaning
only term = record { term = term; inside = λ _. pure tt; alone = false }

-- for an object the triple itself, then those inside the object
unfoldable pub object : Term → List ℕ → Meaning → Does (Unit {0})
object subject predicate x = do
  o ← x.term
  says subject predicate o
  x.inside o

-- a verb has one object or more
abbrev pub objects : Term → List ℕ → List Meaning → Does (Unit {0})
objects subject predicate [] = none
objects subject predicate (x ∷ xs) = each (object subject predicate) (x ∷ xs)

-- behind a cell its rdf:rest: rdf:nil, or the next cell, which has its rdf:first and those inside the element
-- (Turtle 1.1, section 2.8)
abbrev pub behind : Term → List Meaning → Does (Unit {0})
behind cell [] = says cell rdf_rest (t.Iri rdf_nil)
behind cell (x ∷ xs) = do
  next ← fresh
  says cell rdf_rest next
  object next rdf_first x
  behind next xs

-- rdf:nil, or a first cell with the triples of the list
abbrev pub list_term : List Meaning → Does Term
list_term [] = pure (t.Iri rdf_nil)
list_term (x ∷ xs) = fresh

abbrev pub list_inside : List Meaning → Term → Does (Unit {0})
list_inside [] cell = pure tt
list_inside (x ∷ xs) cell = object cell rdf_first x >> behind cell xs

abbrev pub collection : List Meaning → Meaning
collection xs = record { term = list_term xs; inside = list_inside xs; alone = false }

-- what a verb and its objects say of a subject
abbrev pub Says : Type 0
Says = Term → Does (Unit {0})

abbrev pub property_of : Property-F Meaning Says → Says
property_of p = λ subject. verb p.verb >>= (λ predicate. objects subject predicate p.objects)

abbrev pub is_some_property : List Says → Bool
is_some_property [] = false
is_some_property (p ∷ ps) = true

abbrev pub node_of : Node-F Meaning Says → Meaning
node_of (Node-F.Name name) = only (t.Iri <$> iri name)
node_of (Node-F.Label label) = only (labelled (key_of label))
node_of (Node-F.Blank properties) = record { term = fresh; inside = λ blank. each (λ p. p blank) properties; alone = is_some_property properties }
node_of (Node-F.Collection items) = collection items
node_of (Node-F.Literal l) = only (t.Literal <$> literal l)

abbrev pub meaning : Node → Meaning
meaning = fold-Node Meaning Says node_of property_of

abbrev pub property : Property → Says
property = fold-Property Meaning Says node_of property_of

abbrev pub properties : Term → List Property → Does (Unit {0})
properties subject ps = each (λ p. p subject) (map property ps)

-- ---- statements

-- a subject has properties, behind it or inside its brackets
abbrev pub has_properties : Bool → List Property → Bool
has_properties alone [] = alone
has_properties alone (p ∷ ps) = true

-- the triples inside the subject, then those of its properties
abbrev pub triples : Node → List Property → Does (Unit {0})
triples node ps = do
  subject ← (meaning node).term
  (meaning node).inside subject
  properties subject ps

-- a directive, or triples
unfoldable pub statement : Statement → Does (Unit {0})
statement (s.Prefix prefix reference) = told (resolved reference) >>= (λ i. declared (declares (key_of prefix) i))
statement (s.Base reference) = told (resolved reference) >>= (λ i. declared (moves_base i))
statement (s.Triples node ps) = if has_properties (meaning node).alone ps then triples node ps else none

abbrev pub document : List Statement → Does (Unit {0})
document ss = each (λ f. f) (map statement ss)

-- the triples of a document, in order; none where something has no meaning
unfoldable pub triples_of : Option (List ℕ) → List Statement → Option (List QuadParts)
triples_of base ss = option_map (λ p. (p.1).quads) (document ss (start base))

-- what is answered to a document: its triples, or the first fault, UnknownPrefix before Relative over the whole text
abbrev pub answer : Option (List ℕ) → List Statement → Result (List QuadParts) TurtleFaultKind
answer base ss = if declares_first [] ss then ok_or (triples_of base ss) Relative else Err UnknownPrefix

-- What triples and declarations say: the tree is gone through as it stands in the text, names get their IRIs and blank nodes their numbers
-- (SPARQL 1.1 Query, sections 4.1 and 4.2).
use Rattle.std.specs.Prelude.{ℕ, ◌||◌, List, [], ◌∷◌, Option, Some, None, map, if◌then◌else◌}
use Rattle.std.specs.Option.{option_map}
use Rattle.rdf_terms.specs.Literal.{LiteralParts}
use Rattle.rdf_terms.specs.Vocabulary.{rdf_type, rdf_first, rdf_rest, rdf_nil}
use Rattle.rdf_terms.specs.declared.term.Term.TheVariants as t
use Rattle.rdf_grammar.specs.Keys.{key_of}
use Rattle.rdf_grammar.specs.Literals.{literal_of}
use Rattle.rdf_grammar.specs.Prologue.{Prologue, iri_of, resolved, declares, moves_base}
use Rattle.rdf_grammar.specs.Steps.{Step, ◌>>=◌, ◌>>◌, ◌<$>◌, pure, none, each}
use Rattle.rdf_grammar.specs.declared.tree.Literal.{Literal}
use Rattle.rdf_grammar.specs.declared.tree.Name.{Name}
use Rattle.sparql_grammar.specs.Proper.{is_filled, stands_alone}
use Rattle.sparql_grammar.specs.declared.tree.Block.{Block}
use Rattle.sparql_grammar.specs.declared.tree.Declaration.{Declaration}
use Rattle.sparql_grammar.specs.declared.tree.Declaration.TheVariants as d
use Rattle.sparql_grammar.specs.declared.tree.Node.{Node}
use Rattle.sparql_grammar.specs.declared.tree.Node.TheOpen.{Node-F, Property-F}
use Rattle.sparql_grammar.specs.declared.tree.Node.TheFolds.{fold-Node, fold-Property}
use Rattle.sparql_grammar.specs.declared.tree.Property.{Property}
use Rattle.sparql_grammar.specs.declared.tree.Triples.{Triples}
use Rattle.sparql_grammar.specs.declared.tree.VarOrIri as written_name
use Rattle.sparql_grammar.specs.declared.tree.VarOrIri.TheVariants as n
use Rattle.sparql_grammar.specs.declared.tree.Verb.{Verb}
use Rattle.sparql_grammar.specs.declared.tree.Verb.TheVariants as v
use Rattle.sparql_drafts.specs.declared.draft.Quads.{Quads}
use Rattle.sparql_drafts.specs.declared.draft.VarOrIri.{VarOrIri}
use Rattle.sparql_drafts.specs.declared.draft.VarOrIri.TheVariants as i
use Rattle.sparql_drafts.specs.declared.draft.VarOrTerm.{VarOrTerm}
use Rattle.sparql_drafts.specs.declared.draft.VarOrTerm.TheVariants as x
use Rattle.sparql_drafts.specs.Drafting.{Does, start, quads, told, fresh, labelled, in_default, in_graph, says}

-- ---- IRIs and literals

unfoldable pub iri : Name → Does (List ℕ)
iri name = told (iri_of name)

-- `a` is rdf:type (SPARQL 1.1 Query, section 4.2.4)
unfoldable pub verb : Verb → Does VarOrIri
verb (v.Variable name) = pure (i.Variable name)
verb (v.Name name) = i.Iri <$> iri name
verb v.Type = pure (i.Iri rdf_type)

unfoldable pub var_or_iri : written_name.VarOrIri → Does VarOrIri
var_or_iri (n.Variable name) = pure (i.Variable name)
var_or_iri (n.Name name) = i.Iri <$> iri name

unfoldable pub literal : Literal → Does LiteralParts
literal w = told (literal_of w)

-- ---- nodes

-- A node stands for a variable or a term, and then says the triples inside it.
pub record Meaning : Type 0 where
  pub term : Does VarOrTerm
  pub inside : VarOrTerm → Does (Unit {0})

abbrev pub only : Does VarOrTerm → Meaning
only term = record { term = term; inside = λ _. pure tt }

-- for an object the triple itself, then those inside the object
unfoldable pub object : VarOrTerm → VarOrIri → Meaning → Does (Unit {0})
object subject predicate m = do
  o ← m.term
  says subject predicate o
  m.inside o

-- a verb has one object or more
abbrev pub objects : VarOrTerm → VarOrIri → List Meaning → Does (Unit {0})
objects subject predicate [] = none
objects subject predicate (m ∷ ms) = each (object subject predicate) (m ∷ ms)

-- the properties of a list's cells, and the list without elements (SPARQL 1.1 Query, section 4.2.3)
abbrev pub first : VarOrIri
first = i.Iri rdf_first

abbrev pub rest : VarOrIri
rest = i.Iri rdf_rest

abbrev pub nil : VarOrTerm
nil = x.Term (t.Iri rdf_nil)

-- the cell behind one, with its rdf:first and those inside the element
abbrev pub next_cell : VarOrTerm → Meaning → Does VarOrTerm
next_cell cell m = do
  next ← fresh
  says cell rest next
  object next first m
  pure next

-- behind a cell the next one, in the end rdf:nil
abbrev pub behind : VarOrTerm → List Meaning → Does (Unit {0})
behind cell [] = says cell rest nil
behind cell (m ∷ ms) = do
  next ← next_cell cell m
  behind next ms

-- rdf:nil, or a first cell with the triples of the list
abbrev pub list_term : List Meaning → Does VarOrTerm
list_term [] = pure nil
list_term (m ∷ ms) = fresh

abbrev pub list_inside : List Meaning → VarOrTerm → Does (Unit {0})
list_inside [] cell = pure tt
list_inside (m ∷ ms) cell = object cell first m >> behind cell ms

abbrev pub collection : List Meaning → Meaning
collection ms = record { term = list_term ms; inside = list_inside ms }

-- what a verb and its objects say of a subject
abbrev pub Says : Type 0
Says = VarOrTerm → Does (Unit {0})

abbrev pub property_of : Property-F Meaning Says → Says
property_of p = λ subject. verb p.verb >>= (λ predicate. objects subject predicate p.objects)

abbrev pub node_of : Node-F Meaning Says → Meaning
node_of (Node-F.Variable name) = only (pure (x.Variable name))
node_of (Node-F.Name name) = only ((λ iri. x.Term (t.Iri iri)) <$> iri name)
node_of (Node-F.Literal l) = only ((λ w. x.Term (t.Literal w)) <$> literal l)
node_of (Node-F.Label label) = only (labelled label)
node_of (Node-F.Blank bracket properties) =
    record { term = fresh; inside = λ blank. each (λ p. p blank) properties }
node_of (Node-F.Collection bracket items) = collection items

abbrev pub meaning : Node → Meaning
meaning = fold-Node Meaning Says node_of property_of

abbrev pub property : Property → Says
property = fold-Property Meaning Says node_of property_of

abbrev pub properties : VarOrTerm → List Property → Does (Unit {0})
properties subject ps = each (λ p. p subject) (map property ps)

-- ---- data

-- the triples inside the subject, then those of its properties
abbrev pub subject_with : Node → List Property → Does (Unit {0})
subject_with node ps = do
  subject ← (meaning node).term
  (meaning node).inside subject
  properties subject ps

-- a subject has properties, behind it or inside its brackets
unfoldable pub triples : Triples → Does (Unit {0})
triples ts = if stands_alone ts.subject || is_filled ts.properties then subject_with ts.subject ts.properties else none

-- the default graph, or the graph that GRAPH names
abbrev pub graph : Option written_name.VarOrIri → Does (Unit {0})
graph None = in_default
graph (Some name) = var_or_iri name >>= in_graph

abbrev pub block : Block → Does (Unit {0})
block b = graph b.graph >> each (λ f. f) (map triples b.triples)

-- the quads of one operation's data, whose blank nodes are numbered from 0 over all its blocks
unfoldable pub quads_in : List Block → Prologue → Option Quads
quads_in blocks p = option_map (λ r. quads r.1) (each (λ f. f) (map block blocks) (start p))

-- a basic graph pattern, whose blank nodes are numbered from 0 (SPARQL 1.1 Query, sections 4.1.4 and 5.1)
unfoldable pub pattern_in : List Triples → Prologue → Option Quads
pattern_in ts p = option_map (λ r. quads r.1) (each (λ f. f) (map triples ts) (start p))

-- ---- declarations

-- a declaration is in force from where it stands (SPARQL 1.1 Query, section 4.1.1)
unfoldable pub declaration : Declaration → Step Prologue (Unit {0})
declaration (d.Prefix prefix reference) p = option_map (λ i. (tt, declares (key_of prefix) i p)) (resolved reference p)
declaration (d.Base reference) p = option_map (λ i. (tt, moves_base i p)) (resolved reference p)

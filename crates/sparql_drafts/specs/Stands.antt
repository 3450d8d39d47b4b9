-- Where triples stand, whole and however deep nodes nest: each object under its verb, each verb under its subject, what stands inside `[ ]` under
-- its blank node, and the elements of `( )` under its cells, in order (SPARQL 1.1 Query, section 4.2); and all of them in the graph that GRAPH names
-- around them, those outside in the default one (SPARQL 1.1 Update, sections 3.1.1 to 3.1.3).
use Rattle.std.specs.Prelude.{◌≡◌, ℕ, List, [], ◌∷◌, ◌++◌, Option, Some, None, Contains}
use Rattle.std.specs.List.{AllByRecursion}
use Rattle.rdf_grammar.specs.Prologue.{Prologue, iri_of}
use Rattle.rdf_terms.specs.Vocabulary.{rdf_type}
use Rattle.rdf_terms.specs.declared.term.Term.TheVariants as t
use Rattle.sparql_grammar.specs.declared.tree.Block.{Block}
use Rattle.sparql_grammar.specs.declared.tree.Node.{Node}
use Rattle.sparql_grammar.specs.declared.tree.Node.TheVariants as n
use Rattle.sparql_grammar.specs.declared.tree.Property.{Property}
use Rattle.sparql_grammar.specs.declared.tree.Triples.{Triples}
use Rattle.sparql_grammar.specs.declared.tree.VarOrIri as written
use Rattle.sparql_grammar.specs.declared.tree.VarOrIri.TheVariants as w
use Rattle.sparql_grammar.specs.declared.tree.Verb.{Verb}
use Rattle.sparql_grammar.specs.declared.tree.Verb.TheVariants as v
use Rattle.sparql_drafts.specs.declared.draft.QuadPattern.{QuadPattern}
use Rattle.sparql_drafts.specs.declared.draft.Quads.{Quads}
use Rattle.sparql_drafts.specs.declared.draft.VarOrIri.{VarOrIri}
use Rattle.sparql_drafts.specs.declared.draft.VarOrIri.TheVariants as i
use Rattle.sparql_drafts.specs.declared.draft.VarOrTerm.{VarOrTerm}
use Rattle.sparql_drafts.specs.declared.draft.VarOrTerm.TheVariants as x
use Rattle.sparql_drafts.specs.Drafting.{Drafting}
use Rattle.sparql_drafts.specs.Meaning.{block, first, meaning, nil, pattern_in, properties, quads_in, rest, triples}

-- all of them stand in the graph of this name, or in the default one
abbrev pub StandIn : Option VarOrIri → List QuadPattern → Type 0
StandIn graph patterns = AllByRecursion (λ (q : QuadPattern). q.graph ≡ graph) patterns

-- from one state to the other triples were said, all in the graph that GRAPH names around them, and nothing was declared
pub record Goes (old new : Drafting) : Type 0 where
  pub prologue : new.prologue ≡ old.prologue
  pub graph : new.graph ≡ old.graph
  pub graphs : new.graphs ≡ old.graphs
  pub more : List QuadPattern
  pub patterns : new.patterns ≡ old.patterns ++ more
  pub stand : StandIn old.graph more

abbrev pub IsSaid : Drafting → Option VarOrIri → VarOrTerm → VarOrIri → VarOrTerm → Type 0
IsSaid state graph subject predicate object =
    Contains state.patterns (record { graph = graph; subject = subject; predicate = predicate; object = object })

-- Between the two states the node stands for this variable or term, and what is inside it is said.
abbrev pub StandsFor : Drafting → Drafting → Node → VarOrTerm → Type 0
StandsFor old new node term =
    (before named within after : Drafting)
    × Goes old before
    × ((meaning node).term before ≡ Some (term, named))
    × Goes named within
    × ((meaning node).inside term within ≡ Some (tt, after))
    × Goes after new

-- ---- verbs and objects

-- the subject has what the node stands for, in the graph
abbrev pub HasObject : Drafting → Drafting → VarOrTerm → VarOrIri → Node → Type 0
HasObject old new subject predicate node = (object : VarOrTerm) × StandsFor old new node object × IsSaid new old.graph subject predicate object

abbrev pub IsVerb : Drafting → Verb → VarOrIri → Type 0
IsVerb state (v.Variable name) predicate = predicate ≡ i.Variable name
IsVerb state (v.Name name) predicate = (iri : List ℕ) × (iri_of name state.prologue ≡ Some iri) × (predicate ≡ i.Iri iri)
IsVerb state v.Type predicate = predicate ≡ i.Iri rdf_type

-- the subject has each object of the verb
abbrev pub HasProperty : Drafting → Drafting → VarOrTerm → Property → Type 0
HasProperty old new subject p = (predicate : VarOrIri) × IsVerb old p.verb predicate × AllByRecursion (HasObject old new subject predicate) p.objects

-- and so of all verbs
abbrev pub HasProperties : Drafting → Drafting → VarOrTerm → List Property → Type 0
HasProperties old new subject ps = AllByRecursion (HasProperty old new subject) ps

-- what stands behind a subject, between `;` and `,`, is said of it
abbrev pub PropertiesStand : Type 0
PropertiesStand = (subject : VarOrTerm) (ps : List Property) (old new : Drafting) →
    properties subject ps old ≡ Some (tt, new) → HasProperties old new subject ps

-- that is what the first node stands for
abbrev pub HasTriples : Drafting → Drafting → Triples → Type 0
HasTriples old new ts = (subject : VarOrTerm) × StandsFor old new ts.subject subject × HasProperties old new subject ts.properties

abbrev pub TriplesStand : Type 0
TriplesStand = (ts : Triples) (old new : Drafting) → triples ts old ≡ Some (tt, new) → HasTriples old new ts

-- ---- brackets (section 4.1.4)

-- a blank node with the next number, of which each object of each verb inside is said
abbrev pub BracketsStand : Type 0
BracketsStand = (bracket : List ℕ) (ps : List Property) (node : VarOrTerm) (old named within new : Drafting) →
    (meaning (n.Blank bracket ps)).term old ≡ Some (node, named) → (meaning (n.Blank bracket ps)).inside node within ≡ Some (tt, new)
    → (node ≡ x.Term (t.Blank old.numbering.next)) × HasProperties within new node ps

-- ---- lists (section 4.2.3)

-- rdf:nil, or a blank node: its rdf:first is what the first element stands for, its rdf:rest the list of the others
abbrev pub IsList : Drafting → Drafting → VarOrTerm → List Node → Type 0
IsList old new cell [] = cell ≡ nil
IsList old new cell (y ∷ ys) =
    ((number : ℕ) × (cell ≡ x.Term (t.Blank number)))
    × HasObject old new cell first y
    × ((next : VarOrTerm) × IsSaid new old.graph cell rest next × IsList old new next ys)

abbrev pub ListsStand : Type 0
ListsStand = (bracket : List ℕ) (ys : List Node) (cell : VarOrTerm) (old named within new : Drafting) →
    (meaning (n.Collection bracket ys)).term old ≡ Some (cell, named) → (meaning (n.Collection bracket ys)).inside cell within ≡ Some (tt, new)
    → IsList within new cell ys

-- ---- graphs

-- what GRAPH names under the prologue; without GRAPH the default graph
abbrev pub IsGraph : Prologue → Option written.VarOrIri → Option VarOrIri → Type 0
IsGraph p None graph = graph ≡ None
IsGraph p (Some (w.Variable name)) graph = graph ≡ Some (i.Variable name)
IsGraph p (Some (w.Name name)) graph = (iri : List ℕ) × (iri_of name p ≡ Some iri) × (graph ≡ Some (i.Iri iri))

abbrev pub names_of : Option VarOrIri → List VarOrIri
names_of None = []
names_of (Some name) = name ∷ []

-- behind `GRAPH name {`
abbrev pub opened : Option VarOrIri → Drafting → Drafting
opened graph s = record s { graph = graph; graphs = s.graphs ++ names_of graph }

-- The triples of `GRAPH name { .. }` stand in the graph of that name, with all that is inside their nodes; those outside GRAPH in the default one.
abbrev pub BlocksStand : Type 0
BlocksStand = (b : Block) (old new : Drafting) → block b old ≡ Some (tt, new)
    → (graph : Option VarOrIri)
    × IsGraph old.prologue b.graph graph
    × Goes (opened graph old) new
    × AllByRecursion (HasTriples (opened graph old) new) b.triples

-- the patterns of blocks, one block behind the other, those of each in its graph; and the names of these graphs
abbrev pub AreOfBlocks : Prologue → List Block → List QuadPattern → List VarOrIri → Type 0
AreOfBlocks p [] patterns graphs = (patterns ≡ []) × (graphs ≡ [])
AreOfBlocks p (b ∷ bs) patterns graphs =
    (graph : Option VarOrIri)
    × (own others : List QuadPattern)
    × (names : List VarOrIri)
    × IsGraph p b.graph graph
    × (patterns ≡ own ++ others)
    × StandIn graph own
    × (graphs ≡ names_of graph ++ names)
    × AreOfBlocks p bs others names

-- so it is of quad data and of templates
abbrev pub DataStand : Type 0
DataStand = (blocks : List Block) (p : Prologue) (q : Quads) → quads_in blocks p ≡ Some q → AreOfBlocks p blocks q.patterns q.graphs

-- a basic graph pattern names no graph
abbrev pub PatternsStand : Type 0
PatternsStand = (ts : List Triples) (p : Prologue) (q : Quads) → pattern_in ts p ≡ Some q → StandIn None q.patterns × (q.graphs ≡ [])

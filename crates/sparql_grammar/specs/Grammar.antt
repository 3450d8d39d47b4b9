-- Triples as the grammar writes them (SPARQL 1.1 Query, section 19.8, by the numbers of its rules), with no look at the next lexeme.
use Rattle.std.specs.Prelude.{ℕ, zero, suc, Bool, List, [], ◌∷◌, is_some}
use Rattle.sparql_terminals.specs.declared.terminal.Terminal.{Terminal}
use Rattle.sparql_terminals.specs.declared.terminal.Terminal.TheVariants as terminal
use Rattle.sparql_grammar.specs.declared.tree.VarOrIri.{VarOrIri}
use Rattle.sparql_grammar.specs.declared.tree.VarOrIri.TheVariants as i
use Rattle.sparql_grammar.specs.declared.tree.Verb.{Verb}
use Rattle.sparql_grammar.specs.declared.tree.Verb.TheVariants as v
use Rattle.sparql_grammar.specs.declared.tree.Node.{Node}
use Rattle.sparql_grammar.specs.declared.tree.Node.TheVariants as n
use Rattle.sparql_grammar.specs.declared.tree.Property.{Property}
use Rattle.sparql_grammar.specs.declared.tree.Triples.{Triples}
use Rattle.rdf_grammar.specs.Derivations.{◌>>=◌, ◌>>◌, ◌<$>◌, ◌∣◌, pure, the, value, one, maybe, Star, EachBehind, Separated, SeparatedLoosely}
use Rattle.rdf_grammar.specs.Terminals.{Slice}
use Rattle.sparql_terminals.specs.Lexemes.{Derives}
use Rattle.sparql_grammar.specs.Reading.{property_with, triples_with, all_of}
use Rattle.sparql_terminals.specs.WordGrammar.{Iri, ALiteral}

-- a word that may be missing, and whether it is there
abbrev pub Perhaps : Terminal → Derives Bool
Perhaps k = is_some <$> maybe (the k)

-- 108: Var = VAR1 | VAR2
abbrev pub Var : Derives Slice
Var = value terminal.Variable

-- 107: VarOrIri = Var | iri
abbrev pub AVarOrIri : Derives VarOrIri
AVarOrIri = (i.Variable <$> Var) ∣ (i.Name <$> Iri)

-- 78: Verb = VarOrIri | "a"
abbrev pub AVerb : Derives Verb
AVerb = (v.Variable <$> Var) ∣ (v.Name <$> Iri) ∣ (the terminal.A >> pure v.Type)

-- 163: ANON = "[" "]"
abbrev pub Anon : Derives Node
Anon = do
  bracket ← value terminal.OpenBracket
  the terminal.CloseBracket
  pure (n.Blank bracket [])

-- 161: NIL = "(" ")"
abbrev pub Nil : Derives Node
Nil = do
  bracket ← value terminal.Open
  the terminal.Close
  pure (n.Collection bracket [])

-- 138: BlankNode = BLANK_NODE_LABEL | ANON
abbrev pub BlankNode : Derives Node
BlankNode = (n.Label <$> value terminal.BlankLabel) ∣ Anon

-- 109: GraphTerm = iri | RDFLiteral | NumericLiteral | BooleanLiteral | BlankNode | NIL
abbrev pub GraphTerm : Derives Node
GraphTerm = (n.Name <$> Iri) ∣ (n.Literal <$> ALiteral) ∣ BlankNode ∣ Nil

-- 106: VarOrTerm = Var | GraphTerm
abbrev pub VarOrTerm : Derives Node
VarOrTerm = (n.Variable <$> Var) ∣ GraphTerm

-- object is the grammar of what stands inside brackets
module _ (object : Derives Node) where
  -- 79: ObjectList = Object ( "," Object )*, and 80: Object = GraphNode
  abbrev pub ObjectList : Derives (List Node)
  ObjectList = Separated terminal.Comma object

  -- Verb ObjectList
  abbrev pub VerbObjects : Derives Property
  VerbObjects = do
    verb ← AVerb
    objects ← ObjectList
    pure (property_with verb objects)

  -- 77: PropertyListNotEmpty = Verb ObjectList ( ";" ( Verb ObjectList )? )*
  abbrev pub PropertyListNotEmpty : Derives (List Property)
  PropertyListNotEmpty = SeparatedLoosely terminal.Semicolon VerbObjects

  -- 76: PropertyList = PropertyListNotEmpty?
  abbrev pub PropertyList : Derives (List Property)
  PropertyList = all_of <$> maybe PropertyListNotEmpty

  -- 99: BlankNodePropertyList = "[" PropertyListNotEmpty "]"
  abbrev pub BlankNodePropertyList : Derives Node
  BlankNodePropertyList = do
    bracket ← value terminal.OpenBracket
    ps ← PropertyListNotEmpty
    the terminal.CloseBracket
    pure (n.Blank bracket ps)

  -- 102: Collection = "(" GraphNode+ ")"
  abbrev pub Collection : Derives Node
  Collection = do
    bracket ← value terminal.Open
    first ← object
    others ← Star (one object)
    the terminal.Close
    pure (n.Collection bracket (first ∷ others))

  -- 98: TriplesNode = Collection | BlankNodePropertyList
  abbrev pub TriplesNode : Derives Node
  TriplesNode = Collection ∣ BlankNodePropertyList

  -- 104: GraphNode = VarOrTerm | TriplesNode
  abbrev pub GraphNode : Derives Node
  GraphNode = VarOrTerm ∣ TriplesNode

-- A node whose brackets nest less than so deep.
abbrev pub Nodes_at : ℕ → Derives Node
Nodes_at zero ts x us = ⊥
Nodes_at (suc depth) ts x us = GraphNode (Nodes_at depth) ts x us

-- inner is the grammar of what stands inside the brackets of triples
module _ (inner : Derives Node) where
  abbrev pub AboutTerm : Derives Triples
  AboutTerm = do
    subject ← VarOrTerm
    ps ← PropertyListNotEmpty (GraphNode inner)
    pure (triples_with subject ps)

  abbrev pub AboutNode : Derives Triples
  AboutNode = do
    subject ← TriplesNode inner
    ps ← PropertyList (GraphNode inner)
    pure (triples_with subject ps)

  -- 75: TriplesSameSubject = VarOrTerm PropertyListNotEmpty | TriplesNode PropertyList
  abbrev pub TriplesSameSubject : Derives Triples
  TriplesSameSubject = AboutTerm ∣ AboutNode

  -- 52: TriplesTemplate = TriplesSameSubject ( "." TriplesTemplate? )?, which is TriplesSameSubject ( "." TriplesSameSubject )* "."?
  abbrev pub TriplesTemplate : Derives (List Triples)
  TriplesTemplate = do
    first ← TriplesSameSubject
    others ← EachBehind terminal.Dot TriplesSameSubject
    maybe (the terminal.Dot)
    pure (first ∷ others)

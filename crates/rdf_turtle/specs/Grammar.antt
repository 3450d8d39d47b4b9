-- The grammar of Turtle as it is written (Turtle 1.1, section 6.5, by the numbers of its rules), with no look at the next lexeme.
use Rattle.std.specs.Prelude.{ℕ, zero, suc, List, [], Option, Some, None}
use Rattle.rdf_turtle.specs.declared.terminal.Terminal.TheVariants as terminal
use Rattle.rdf_turtle.specs.Lexemes.{Lexemes, Derives}
use Rattle.rdf_grammar.specs.declared.tree.Name.{Name}
use Rattle.rdf_turtle.specs.declared.tree.Verb.{Verb}
use Rattle.rdf_turtle.specs.declared.tree.Verb.TheVariants as v
use Rattle.rdf_grammar.specs.declared.tree.Literal.{Literal}
use Rattle.rdf_turtle.specs.declared.tree.Node.{Node}
use Rattle.rdf_turtle.specs.declared.tree.Node.TheVariants as n
use Rattle.rdf_turtle.specs.declared.tree.Property.{Property}
use Rattle.rdf_turtle.specs.declared.tree.Statement.{Statement}
use Rattle.rdf_turtle.specs.declared.tree.Statement.TheVariants as s
use Rattle.rdf_turtle.specs.Terminals.{word}
use Rattle.rdf_grammar.specs.Derivations.{◌>>=◌, ◌>>◌, ◌<$>◌, ◌∣◌, pure, the, value, one, maybe, Star, Separated, SeparatedLoosely}
use Rattle.rdf_grammar.specs.Productions as productions
use Rattle.rdf_grammar.specs.Terminals.{Slice}

-- ---- parts of trees

abbrev pub property_with : Verb → List Node → Property
property_with verb objects = record { verb = verb; objects = objects }

-- a list that may be missing
abbrev pub all_of : {A : Type 0} → Option (List A) → List A
all_of None = []
all_of (Some xs) = xs

-- a prefix, and what it is bound to
abbrev pub bound : Slice × Slice → Statement
bound b = s.Prefix b.0 b.1

-- ---- productions

-- 135s: iri = IRIREF | PrefixedName
abbrev pub Iri : Derives Name
Iri = productions.Iri word

-- 9: verb = predicate | "a", and 11: predicate = iri
abbrev pub AVerb : Derives Verb
AVerb = (v.Name <$> Iri) ∣ (the terminal.A >> pure v.Type)

-- 13: literal = RDFLiteral | NumericLiteral | BooleanLiteral
abbrev pub ALiteral : Derives Literal
ALiteral = productions.ALiteral word

-- object is the grammar of what stands inside brackets
module _ (object : Derives Node) where
  -- 8: objectList = object ( "," object )*
  abbrev pub Objects : Derives (List Node)
  Objects = Separated terminal.Comma object

  -- verb objectList
  abbrev pub VerbObjects : Derives Property
  VerbObjects = do
    verb ← AVerb
    objects ← Objects
    pure (property_with verb objects)

  -- 7: predicateObjectList = verb objectList ( ";" ( verb objectList )? )*
  abbrev pub PredicateObjectList : Derives (List Property)
  PredicateObjectList = SeparatedLoosely terminal.Semicolon VerbObjects

  -- 162s: ANON = "[" "]"
  abbrev pub Anonymous : Derives (List Property)
  Anonymous = do
    the terminal.OpenBracket
    the terminal.CloseBracket
    pure []

  -- 14: blankNodePropertyList = "[" predicateObjectList "]"
  abbrev pub BlankNodePropertyList : Derives (List Property)
  BlankNodePropertyList = do
    the terminal.OpenBracket
    ps ← PredicateObjectList
    the terminal.CloseBracket
    pure ps

  -- 137s: BlankNode = BLANK_NODE_LABEL | ANON
  abbrev pub Blank : Derives Node
  Blank = (n.Label <$> value terminal.BlankLabel) ∣ (n.Blank <$> Anonymous)

  -- 15: collection = "(" object* ")"
  abbrev pub Collection : Derives (List Node)
  Collection = do
    the terminal.Open
    items ← Star (one object)
    the terminal.Close
    pure items

  -- 10: subject = iri | BlankNode | collection
  abbrev pub Subject : Derives Node
  Subject = (n.Name <$> Iri) ∣ Blank ∣ (n.Collection <$> Collection)

  -- 12: object = iri | BlankNode | collection | blankNodePropertyList | literal
  abbrev pub Object : Derives Node
  Object = (n.Name <$> Iri) ∣ Blank ∣ (n.Collection <$> Collection) ∣ (n.Blank <$> BlankNodePropertyList) ∣ (n.Literal <$> ALiteral)

-- An object whose brackets nest less than so deep.
abbrev pub Objects_at : ℕ → Derives Node
Objects_at zero ts x us = ⊥
Objects_at (suc depth) ts x us = Object (Objects_at depth) ts x us

-- PNAME_NS (139s) IRIREF
abbrev pub Binding : Derives Statement
Binding = bound <$> productions.Binding word

-- IRIREF
abbrev pub Base : Derives Statement
Base = s.Base <$> value terminal.Iri

-- something, and a dot behind it
abbrev pub Dotted : {A : Type 0} → Derives A → Derives A
Dotted P = do
  x ← P
  the terminal.Dot
  pure x

-- 3: directive = prefixID | base | sparqlPrefix | sparqlBase, 4: prefixID = "@prefix" PNAME_NS IRIREF ".", 5: base = "@base" IRIREF ".",
-- 6s: sparqlPrefix = "PREFIX" PNAME_NS IRIREF, and 5s: sparqlBase = "BASE" IRIREF
abbrev pub Directive : Derives Statement
Directive = (the terminal.AtPrefix >> Dotted Binding) ∣ (the terminal.AtBase >> Dotted Base) ∣ (the terminal.Prefix >> Binding) ∣ (the terminal.Base >> Base)

module _ (inner object : Derives Node) where
  -- 6: triples = subject predicateObjectList | blankNodePropertyList predicateObjectList?
  abbrev pub About : Derives Statement
  About = do
    subject ← Subject inner
    ps ← PredicateObjectList object
    pure (s.Triples subject ps)

  abbrev pub AboutBlank : Derives Statement
  AboutBlank = do
    inside ← BlankNodePropertyList inner
    ps ← maybe (PredicateObjectList object)
    pure (s.Triples (n.Blank inside) (all_of ps))

  abbrev pub Triples : Derives Statement
  Triples = About ∣ AboutBlank

  -- 2: statement = directive | triples "."
  abbrev pub AStatement : Derives Statement
  AStatement = Directive ∣ Dotted Triples

-- 1: turtleDoc = statement*
abbrev pub Document : ℕ → Derives (List Statement)
Document depth = Star (one (AStatement (Objects_at depth) (Objects_at (suc depth))))

-- All of the lexemes are this document.
abbrev pub IsDocument : Lexemes → List Statement → Type 0
IsDocument ts ss = (depth : ℕ) × Document depth ts ss []

-- Names, literals and the bindings of prefixes as the grammar writes them, which Turtle and SPARQL share (SPARQL 1.1 Query, section 19.8).
use Rattle.rdf_grammar.specs.declared.tree.Name.{Name}
use Rattle.rdf_grammar.specs.declared.tree.Literal.{Literal}
use Rattle.rdf_grammar.specs.Productions as productions
use Rattle.rdf_grammar.specs.Terminals.{Slice}
use Rattle.sparql_terminals.specs.Lexemes.{Derives}
use Rattle.sparql_terminals.specs.Terminals.{word}

-- 136: iri = IRIREF | PrefixedName
abbrev pub Iri : Derives Name
Iri = productions.Iri word

-- RDFLiteral (129) | NumericLiteral (130) | BooleanLiteral (134)
abbrev pub ALiteral : Derives Literal
ALiteral = productions.ALiteral word

-- PNAME_NS (140) IRIREF (139), in 6: PrefixDecl
abbrev pub Binding : Derives (Slice × Slice)
Binding = productions.Binding word

-- The readings of names, literals and the bindings of prefixes, which Turtle and SPARQL share (SPARQL 1.1 Query, section 19.8).
use Rattle.rdf_grammar.specs.declared.tree.Name.{Name}
use Rattle.rdf_grammar.specs.declared.tree.Literal.{Literal}
use Rattle.rdf_grammar.specs.ProductionReadings as readings
use Rattle.rdf_grammar.specs.Terminals.{Slice}
use Rattle.sparql_terminals.specs.Lexemes.{Reading}
use Rattle.sparql_terminals.specs.Terminals.{word}

abbrev pub iri : Reading Name
iri = readings.iri word

abbrev pub literal : Reading Literal
literal = readings.literal word

abbrev pub binding : Reading (Slice × Slice)
binding = readings.binding word

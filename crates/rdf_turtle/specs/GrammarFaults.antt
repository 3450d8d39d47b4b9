-- The kind of a fault of the grammar.
use Rattle.rdf_grammar.specs.declared.fault.GrammarFault.{GrammarFault}
use Rattle.rdf_grammar.specs.declared.fault.GrammarFault.TheVariants as grammar
use Rattle.rdf_turtle.specs.declared.fault.TurtleFaultKind.{TurtleFaultKind}
use Rattle.rdf_turtle.specs.declared.fault.TurtleFaultKind.TheVariants.{Syntax, NoMemory}

abbrev pub kind_of : GrammarFault → TurtleFaultKind
kind_of grammar.Syntax = Syntax
kind_of (grammar.NoMemory refusal) = NoMemory refusal

-- The fault of a text that has no token list, at a line and no byte.
use Rattle.std.specs.Prelude.{ℕ, List}
use Rattle.rdf_tokens.specs.declared.fault.TokenFault.{TokenFault}
use Rattle.rdf_tokens.specs.declared.fault.TokenFault.TheVariants.{NoToken, NoMemory}
use Rattle.rdf_tokens.specs.Lines.{line_of}
use Rattle.rdf_turtle.specs.declared.fault.TurtleFault.{TurtleFault}
use Rattle.rdf_turtle.specs.declared.fault.TurtleFaultKind.TheVariants as fault

abbrev pub turtle_fault : List ℕ → TokenFault → TurtleFault
turtle_fault text (NoToken place) = record { line = line_of text place; kind = fault.Token }
turtle_fault text (NoMemory why) = record { line = 0; kind = fault.NoMemory why }

-- The printed words of the faults that end a conversion, and their lines; the one where memory is wanting.
use Rattle.std.specs.Prelude.{ℕ, List, codes}
use Rattle.rdf_terms.specs.Names.{refused}
use Rattle.rdf_lines.specs.FaultName as line_names
use Rattle.rdf_turtle.specs.FaultName as turtle_names
use Rattle.rdf_streams.specs.declared.conversion.fault.DocumentFault.{DocumentFault}
use Rattle.rdf_streams.specs.declared.conversion.fault.DocumentFault.TheVariants.{Line as InLine, Turtle as InTurtle}
use Rattle.rdf_streams.specs.declared.conversion.fault.ConvertFault.{ConvertFault}
use Rattle.rdf_streams.specs.declared.conversion.fault.ConvertFault.TheVariants.{Document, Read, Write, NoMemory}

-- the printed word of a fault of a document
abbrev pub document_fault_name : DocumentFault → List ℕ
document_fault_name (InLine at) = line_names.fault_name at.kind
document_fault_name (InTurtle at) = turtle_names.fault_name at.kind

-- the line of a fault of a document
abbrev pub document_fault_line : DocumentFault → ℕ
document_fault_line (InLine at) = at.line
document_fault_line (InTurtle at) = at.line

-- the printed word of a fault
abbrev pub convert_fault_name : ConvertFault → List ℕ
convert_fault_name (Document fault) = document_fault_name fault
convert_fault_name Read = codes "Read"
convert_fault_name Write = codes "Write"
convert_fault_name (NoMemory _) = codes "NoMemory"

abbrev pub no_memory : ConvertFault
no_memory = NoMemory refused

-- What a conversion writes at its end, and what its readers' faults are to it.
use Rattle.std.specs.Prelude.{◌≡◌, ◌≢◌, ℕ, List, [], ◌++◌, Option, Result, Ok, Err}
use Rattle.std.specs.Io.KnownBytes.{Appends}
use Rattle.rdf_lines.specs.declared.fault.LineFault.{LineFault}
use Rattle.rdf_lines.specs.declared.fault.FaultKind.{FaultKind}
use Rattle.rdf_lines.specs.declared.fault.FaultKind.TheVariants as kind
use Rattle.rdf_turtle.specs.declared.fault.TurtleFault.{TurtleFault}
use Rattle.rdf_turtle.specs.declared.fault.TurtleFaultKind.{TurtleFaultKind}
use Rattle.rdf_turtle.specs.declared.fault.TurtleFaultKind.TheVariants as turtle_kind
use Rattle.rdf_streams.specs.declared.conversion.fault.DocumentFault.TheVariants.{Line as InLine, Turtle as InTurtle}
use Rattle.rdf_streams.specs.declared.conversion.fault.ConvertFault.{ConvertFault}
use Rattle.rdf_streams.specs.declared.conversion.fault.ConvertFault.TheVariants.{Document, Read, Write, NoMemory}

-- What is held is written, or a proper front of it where a write failed, or nothing where memory was wanting.
abbrev pub WritesLines : Option (List ℕ) → List ℕ → Result (Unit {0}) ConvertFault → Option (List ℕ) → Type 0
WritesLines before held (Ok u) after = Appends before after held
WritesLines before held (Err Write) after = (out more : List ℕ) × Appends before after out × (held ≡ out ++ more) × (more ≢ [])
WritesLines before held (Err (NoMemory _)) after = Appends before after []
WritesLines before held (Err Read) after = ⊥
WritesLines before held (Err (Document fault)) after = ⊥

-- the fault of a conversion that a reader's fault is
abbrev pub fault_of_kind : LineFault → FaultKind → ConvertFault
fault_of_kind at kind.Read = Read
fault_of_kind at (kind.NoMemory refused) = NoMemory refused
fault_of_kind at kind.NotUtf8 = Document (InLine at)
fault_of_kind at kind.Syntax = Document (InLine at)
fault_of_kind at kind.Relative = Document (InLine at)
fault_of_kind at kind.Failed = Document (InLine at)

-- and that a fault of Turtle is, by its kind
abbrev pub turtle_fault : TurtleFault → TurtleFaultKind → ConvertFault
turtle_fault at (turtle_kind.NoMemory refused) = NoMemory refused
turtle_fault at turtle_kind.NotUtf8 = Document (InTurtle at)
turtle_fault at turtle_kind.Token = Document (InTurtle at)
turtle_fault at turtle_kind.TooDeep = Document (InTurtle at)
turtle_fault at turtle_kind.Syntax = Document (InTurtle at)
turtle_fault at turtle_kind.UnknownPrefix = Document (InTurtle at)
turtle_fault at turtle_kind.Relative = Document (InTurtle at)

-- What reading and staging a request answer.
use Rattle.std.specs.Prelude.{◌≡◌, ◌+◌, ◌<◌, ◌≤◌, ℕ, List, Option, Some, Result, Ok, Err}
use Rattle.rdf_dataset.specs.State.{State, Change, IsSound, net_between, last_number}
use Rattle.rdf_terms.specs.Quad.{QuadParts}
use Rattle.rdf_lines.specs.Document as lines
use Rattle.rdf_lines.specs.declared.fault.FaultKind.{FaultKind}
use Rattle.rdf_lines.specs.declared.fault.FaultKind.TheVariants as line
use Rattle.rdf_lines.specs.declared.fault.LineFault.{LineFault}
use Rattle.rdf_lines.specs.declared.format.LineFormat.{LineFormat}
use Rattle.rdf_turtle.specs.Document as turtle
use Rattle.rdf_turtle.specs.declared.fault.TurtleFault.{TurtleFault}
use Rattle.rdf_turtle.specs.declared.fault.TurtleFaultKind.{TurtleFaultKind}
use Rattle.rdf_turtle.specs.declared.fault.TurtleFaultKind.TheVariants as kind
use Rattle.sparql_eval.specs.Operations.{steps}
use Rattle.sparql_eval.specs.declared.fault.ApplyFault.{ApplyFault}
use Rattle.sparql_eval.specs.declared.fault.ApplyFault.TheVariants as obstacle
use Rattle.sparql_syntax.specs.Query as query
use Rattle.sparql_syntax.specs.Update as update
use Rattle.sparql_syntax.specs.declared.fault.SyntaxFault.{SyntaxFault}
use Rattle.sparql_syntax.specs.declared.fault.SyntaxFaultKind.{SyntaxFaultKind}
use Rattle.sparql_syntax.specs.declared.fault.SyntaxFaultKind.TheVariants as syntax
use Rattle.sparql_trees.specs.declared.operation.Operation.{Operation}
use Rattle.rdf_session.specs.Documents.{IsFaulty}
use Rattle.rdf_session.specs.Request.{blank_limit, loaded}
use Rattle.rdf_session.specs.declared.fault.KeeperFault.{KeeperFault}
use Rattle.rdf_session.specs.declared.fault.KeeperFault.TheVariants.{NoMemory, BlankNumbers, Line, Turtle, Syntax, Apply}
use Rattle.rdf_session.specs.declared.format.Format.{Format}

-- the fault of the document, or want of memory
abbrev pub TellsFault : Format → Option (List ℕ) → List ℕ → KeeperFault → Type 0
TellsFault format base text (NoMemory _) = Unit {0}
TellsFault format base text fault = IsFaulty format base text fault

-- the same of a text of lines
abbrev pub TellsLineFault : LineFormat → List ℕ → KeeperFault → Type 0
TellsLineFault format text (NoMemory _) = Unit {0}
TellsLineFault format text (Line fault) = (quads : List QuadParts) × lines.IsDocument format text quads (Some fault)
TellsLineFault format text _ = ⊥

-- the refusal that a fault of a line is, by its kind
abbrev pub line_refusal : LineFault → FaultKind → KeeperFault
line_refusal fault (line.NoMemory refused) = NoMemory refused
line_refusal fault line.NotUtf8 = Line fault
line_refusal fault line.Syntax = Line fault
line_refusal fault line.Relative = Line fault
line_refusal fault line.Read = Line fault
line_refusal fault line.Failed = Line fault

-- and of one of Turtle
abbrev pub TellsTurtleFault : Option (List ℕ) → List ℕ → KeeperFault → Type 0
TellsTurtleFault base text (NoMemory _) = Unit {0}
TellsTurtleFault base text (Turtle fault) = turtle.IsFaulty base text fault
TellsTurtleFault base text _ = ⊥

-- the refusal that a fault of Turtle is, by its kind
abbrev pub turtle_refusal : TurtleFault → TurtleFaultKind → KeeperFault
turtle_refusal fault (kind.NoMemory refused) = NoMemory refused
turtle_refusal fault kind.NotUtf8 = Turtle fault
turtle_refusal fault kind.Token = Turtle fault
turtle_refusal fault kind.TooDeep = Turtle fault
turtle_refusal fault kind.Syntax = Turtle fault
turtle_refusal fault kind.UnknownPrefix = Turtle fault
turtle_refusal fault kind.Relative = Turtle fault

-- the net to the state with the quads, which is sound, or its refusal
abbrev pub Stages : State → List QuadParts → Result Change KeeperFault → Type 0
Stages s quads (Ok net) = (s.next + blank_limit quads ≤ last_number) × (IsSound (loaded s quads) × (net ≡ net_between s (loaded s quads)))
Stages s quads (Err (NoMemory _)) = Unit {0}
Stages s quads (Err BlankNumbers) = last_number < s.next + blank_limit quads
Stages s quads (Err _) = ⊥

-- ---- updates

-- the fault of a text of an update, or want of memory
abbrev pub TellsSyntaxFault : Option (List ℕ) → List ℕ → KeeperFault → Type 0
TellsSyntaxFault base text (NoMemory _) = Unit {0}
TellsSyntaxFault base text (Syntax fault) = update.IsFaulty base text fault
TellsSyntaxFault base text _ = ⊥

-- and that of a text of a query
abbrev pub TellsQueryFault : Option (List ℕ) → List ℕ → KeeperFault → Type 0
TellsQueryFault base text (NoMemory _) = Unit {0}
TellsQueryFault base text (Syntax fault) = query.IsFaulty base text fault
TellsQueryFault base text _ = ⊥

-- the refusal that a fault of syntax is, by its kind
abbrev pub syntax_refusal : SyntaxFault → SyntaxFaultKind → KeeperFault
syntax_refusal fault syntax.NotUtf8 = Syntax fault
syntax_refusal fault syntax.Token = Syntax fault
syntax_refusal fault syntax.NotInProfile = Syntax fault
syntax_refusal fault syntax.TooDeep = Syntax fault
syntax_refusal fault syntax.Syntax = Syntax fault
syntax_refusal fault syntax.UnknownPrefix = Syntax fault
syntax_refusal fault syntax.Relative = Syntax fault
syntax_refusal fault syntax.BlankInDelete = Syntax fault
syntax_refusal fault syntax.VariableInData = Syntax fault
syntax_refusal fault syntax.LiteralSubject = Syntax fault
syntax_refusal fault syntax.BlankReused = Syntax fault
syntax_refusal fault (syntax.NoMemory refused) = NoMemory refused

-- the refusal that an obstacle to an operation is
abbrev pub apply_refusal : ApplyFault → KeeperFault
apply_refusal obstacle.MissingGraph = Apply obstacle.MissingGraph
apply_refusal obstacle.GraphExists = Apply obstacle.GraphExists
apply_refusal obstacle.BlankNumbers = Apply obstacle.BlankNumbers
apply_refusal (obstacle.NoMemory refused) = NoMemory refused

-- the net to the state that the operations lead to, which is sound, or their refusal
abbrev pub StagesSteps : State → List Operation → Result Change KeeperFault → Type 0
StagesSteps s operations (Ok net) = (t : State) × (steps s operations ≡ Ok t) × IsSound t × (net ≡ net_between s t)
StagesSteps s operations (Err (NoMemory _)) = Unit {0}
StagesSteps s operations (Err (Apply fault)) = steps s operations ≡ Err fault
StagesSteps s operations (Err _) = ⊥

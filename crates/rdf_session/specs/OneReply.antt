-- A command has one reply, and leads to one session.
use Rattle.std.specs.Prelude.{◌≡◌, ◌≢◌, ◌⊎◌, true}
use Rattle.rdf_turtle.specs.DocumentLaws as turtle
use Rattle.sparql_syntax.specs.UpdateLaws as update
use Rattle.rdf_session.specs.Request.{Load, Update}
use Rattle.rdf_session.specs.Session.{Session, Command, Reply, Do, Refused, Transition}
use Rattle.rdf_session.specs.declared.fault.KeeperFault.{KeeperFault}
use Rattle.rdf_session.specs.declared.fault.KeeperFault.TheVariants.{Turtle as InTurtle, Syntax as InUpdate}
use Rattle.rdf_session.specs.declared.format.Format.TheVariants.{Turtle}
use Rattle.rdf_session.specs.Faults.{no_memory}

-- The command may be refused by the fault, and its line is then the reader's own choice: that of some faults of Turtle
-- and of updates.
abbrev pub HasFreeLine : Command → KeeperFault → Type 0
HasFreeLine (Do (Load Turtle text)) (InTurtle fault) = turtle.has_free_line fault.kind ≡ true
HasFreeLine (Do (Update text)) (InUpdate fault) = update.has_free_line fault.kind ≡ true
HasFreeLine command fault = ⊥

-- the same fault, but for its line
abbrev pub SameButLine : KeeperFault → KeeperFault → Type 0
SameButLine (InTurtle fault) (InTurtle other) = fault.kind ≡ other.kind
SameButLine (InUpdate fault) (InUpdate other) = fault.kind ≡ other.kind
SameButLine fault other = fault ≡ other

-- one fault, but for its line, which is the reader's own choice
abbrev pub DifferInLine : Command → KeeperFault → KeeperFault → Type 0
DifferInLine command fault other = HasFreeLine command fault × HasFreeLine command other × SameButLine fault other

-- Two replies are the same; or both refuse the command by one fault, but for such a line.
abbrev pub SameReply : Command → Reply → Reply → Type 0
SameReply command reply other =
    (reply ≡ other) ⊎
    ((fault another : KeeperFault) × (reply ≡ Refused fault) × (other ≡ Refused another) × DifferInLine command fault another)

-- the reply isn't that memory is wanting
abbrev pub IsFull : Reply → Type 0
IsFull reply = reply ≢ Refused no_memory

-- Where memory isn't wanting, a command has one reply, but for such a line, and leads to one session.
abbrev pub OneReply : Type 0
OneReply = (old new another : Session) (command : Command) (reply other : Reply)
    → Transition old command reply new → IsFull reply → Transition old command other another → IsFull other
    → SameReply command reply other × (new ≡ another)

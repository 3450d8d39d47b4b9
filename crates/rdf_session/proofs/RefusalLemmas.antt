-- A text of Turtle that is refused.
use Rattle.std.proofs.Common.{ℕ, List, Option}
use Rattle.rdf_turtle.specs.Document as turtle
use Rattle.rdf_turtle.specs.declared.fault.TurtleFault.{TurtleFault}
use Rattle.rdf_turtle.specs.declared.fault.TurtleFaultKind.{TurtleFaultKind}
use Rattle.rdf_turtle.specs.declared.fault.TurtleFaultKind.TheVariants as kind
use Rattle.rdf_session.specs.Inside.Staging.{TellsTurtleFault, turtle_refusal}

pub refused : (base : Option (List ℕ)) (text : List ℕ) (f : TurtleFault) (k : TurtleFaultKind) → turtle.TellsFault base text f k → TellsTurtleFault base text (turtle_refusal f k)
refused base text f (kind.NoMemory _) h = tt
refused base text f kind.NotUtf8 h = h
refused base text f kind.Token h = h
refused base text f kind.TooDeep h = h
refused base text f kind.Syntax h = h
refused base text f kind.UnknownPrefix h = h
refused base text f kind.Relative h = h

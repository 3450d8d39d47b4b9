-- What may come between a request, its undo and its redo.
use Rattle.std.specs.Prelude.{List}
use Rattle.std.specs.List.{AllByRecursion}
use Rattle.rdf_session.specs.Session.{Session, Command, Reply, Mark, Refused}
use Rattle.rdf_session.specs.Standing.{Run}

-- a mark, or a command that was refused
abbrev pub IsQuiet : Command × Reply → Type 0
IsQuiet (command, Refused fault) = Unit {0}
IsQuiet (Mark name, reply) = Unit {0}
IsQuiet (command, reply) = ⊥

-- from one session to the other by such commands alone, if any
abbrev pub Quietly : Session → Session → Type 0
Quietly old new = (events : List (Command × Reply)) × AllByRecursion IsQuiet events × Run old events new

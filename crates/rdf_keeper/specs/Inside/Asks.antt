-- What the code's commands and lines stand for.
use Rattle.rdf_keeper.specs.Script.Commands.{Asked, act, ask, show, bad, unended, Line as LineMeaning, skipped, opens, asks}
use Rattle.rdf_session.specs.Request.{Load as LoadRequest, Update as UpdateRequest}
use Rattle.rdf_session.specs.Session as session
use Rattle.rdf_keeper.specs.declared.script.command.Command.{Command}
use Rattle.rdf_keeper.specs.declared.script.command.Command.TheVariants.{Load, Update, Query, Undo, Redo, Mark, Rollback, Commit, Show, Bad, Unended}
use Rattle.rdf_keeper.specs.declared.script.command.Line.{Line}
use Rattle.rdf_keeper.specs.declared.script.command.Line.TheVariants.{Skipped, Opens, Asks}

abbrev pub asked_of : Command → Asked
asked_of (Load format text) = act (session.Do (LoadRequest format text.items))
asked_of (Update text) = act (session.Do (UpdateRequest text.now))
asked_of (Query text) = ask text.now
asked_of Undo = act session.Undo
asked_of Redo = act session.Redo
asked_of (Mark name) = act (session.Mark name.now)
asked_of (Rollback name) = act (session.Rollback name.now)
asked_of Commit = act session.Commit
asked_of (Show topic) = show topic
asked_of Bad = bad
asked_of Unended = unended

abbrev pub line_of : Line → LineMeaning
line_of Skipped = skipped
line_of (Opens body) = opens body
line_of (Asks command) = asks (asked_of command)

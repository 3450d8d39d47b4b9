use Rattle.rdf_turtle.proofs.StraightReading.{if_nothing}
use Rattle.rdf_turtle.proofs.straight.behind.Goals as goal

pub say-requires-clause-known : goal.say-requires-clause-known
say-requires-clause-known g c = if_nothing c.args.pending c.in-Nothing.is c.requires.known

pub say-requires-clause-room : goal.say-requires-clause-room
say-requires-clause-room g c = if_nothing c.args.pending c.in-Nothing.is c.requires.room

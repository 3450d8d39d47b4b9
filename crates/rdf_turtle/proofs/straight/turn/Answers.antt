use Rattle.rdf_turtle.proofs.StraightReading.{next_proper}
use Rattle.rdf_turtle.proofs.straight.turn.Goals as goal

pub behind-later-requires-clause-proper : goal.behind-later-requires-clause-proper
behind-later-requires-clause-proper g c = (next_proper c.args.depth _ _ _ c.requires.formed c.in_ok-statement.ensures.reads).0

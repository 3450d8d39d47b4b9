use Rattle.rdf_turtle.proofs.StraightReading.{told_answers}
use Rattle.rdf_turtle.proofs.straight.triples_of.Goals as goal

pub returns : goal.returns
returns g c = told_answers g.S.TripleSink.taken c.told.result c.into_sink-sink.result _ c.args.depth _ _ _ _ _ c.told.ensures c.in_ok-pending.ensures c.in_ok-scope.ensures c.in_ok-base.ensures c.into_sink-sink.ensures

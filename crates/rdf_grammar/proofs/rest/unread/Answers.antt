use Rattle.rdf_grammar.proofs.LexemeReadings.{unread_is}
use Rattle.rdf_grammar.proofs.rest.unread.Goals as goal

pub returns : goal.returns
returns g c = unread_is g.T.Terminal.of c.of.result c.new.result c.of.ensures c.new.ensures

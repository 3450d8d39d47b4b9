use Rattle.rdf_grammar.proofs.LexemeReadings.{text_none}
use Rattle.rdf_grammar.proofs.parser.Parser.text.Goals as goal

pub returns-in-None : goal.returns-in-None
returns-in-None g c = text_none c.self.inside.terminal c.self.inside.text c.self.inside.rest c.args.self.now c.new.result c.self.view_is c.in-None.is c.new.ensures

use Rattle.std.proofs.Common.{◌∙◌, arith}
use Rattle.std.specs.Str.{chars}
use Rattle.rdf_grammar.proofs.LexemeReadings.{over_reads, over_fits, few_fit}
use Rattle.rdf_grammar.proofs.parser.Parser.over.Goals as goal

pub returns-clause-read : goal.returns-clause-read
returns-clause-read g c = over_reads g.T.Terminal.of (chars c.args.text.now) c.before-2.result (c.before-2.ensures ∙ c.read.ensures)

pub returns-clause-fits : goal.returns-clause-fits
returns-clause-fits g c = over_fits g.T.Terminal.of c.args.text.now c.before-2.result c.utf8.text (c.before-2.ensures ∙ c.read.ensures)

pub before-requires : goal.before-requires
before-requires g c = few_fit g.T.Terminal.of c.args.text.now c.read.result c.utf8.text (omega arith) c.read.ensures

use Rattle.rdf_keeper.proofs.ScriptLemmas.FirstEnds.{first_end}
use Rattle.rdf_keeper.proofs.script.line.line_end.Goals as goal

pub returns-clause-place : goal.returns-clause-place
returns-clause-place c = first_end c.args.text.now _ c.memchr.ensures

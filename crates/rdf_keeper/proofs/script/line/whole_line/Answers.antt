use Rattle.std.proofs.Common.{sym}
use Rattle.rdf_keeper.proofs.ScriptLemmas.Lines.{no_whole, whole_parts}
use Rattle.rdf_keeper.proofs.script.line.whole_line.Goals as goal

pub returns-in-Some-clause-line : goal.returns-in-Some-clause-line
returns-in-Some-clause-line c = whole_parts c.args.text.now _ _ _ (sym c.in-Some.ensures.place) c.split_at.ensures.front c.split_at.ensures.back

pub returns-in-None-clause-line : goal.returns-in-None-clause-line
returns-in-None-clause-line c = no_whole c.args.text.now 0 (sym c.in-None.ensures.place)

use Rattle.rdf_lines.proofs.StateLineLemmas.{no_name}
use Rattle.rdf_lines.proofs.state_text.lines.first_name.Goals as goal

pub returns-in-None : goal.returns-in-None
returns-in-None c = no_name c.args.text.now c.in-Some.line.now c.in-Some.more.now c.in-Some.ensures (rw c.in-None.is at c.in_ok-name.ensures)

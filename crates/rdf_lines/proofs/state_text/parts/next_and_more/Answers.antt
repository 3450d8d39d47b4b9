use Rattle.rdf_lines.proofs.StateLineLemmas.{no_number}
use Rattle.rdf_lines.proofs.state_text.parts.next_and_more.Goals as goal

pub returns-in-None : goal.returns-in-None
returns-in-None c = no_number c.args.bytes.now c.in-Some.counted.now c.in-Some-first_line.digits.now c.in-Some-first_line.more.now c.in-Some.ensures c.in-Some-first_line.ensures c.in-None.ensures
